use Rattle.tokei_embedding.proofs.BlockLaws.{tag_reach}
use Rattle.tokei_embedding.proofs.laws.tags_reach.Goals as goal

pub returns : goal.returns
returns c = tag_reach
