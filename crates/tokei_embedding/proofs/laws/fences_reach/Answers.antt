use Rattle.tokei_embedding.proofs.BlockLaws.{fence_reach}
use Rattle.tokei_embedding.proofs.laws.fences_reach.Goals as goal

pub returns : goal.returns
returns c = fence_reach
