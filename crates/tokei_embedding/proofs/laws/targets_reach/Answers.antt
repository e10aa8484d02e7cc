use Rattle.tokei_embedding.proofs.BlockLaws.{target_reach}
use Rattle.tokei_embedding.proofs.laws.targets_reach.Goals as goal

pub returns : goal.returns
returns c = target_reach
