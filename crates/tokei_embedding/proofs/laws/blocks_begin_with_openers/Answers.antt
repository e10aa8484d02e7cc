use Rattle.tokei_embedding.proofs.Openers.{begin_with_openers}
use Rattle.tokei_embedding.proofs.laws.blocks_begin_with_openers.Goals as goal

pub returns : goal.returns
returns c = begin_with_openers
