use Rattle.tokei_count.proofs.Weights.{weight-length}
use Rattle.tokei_count.proofs.laws.weight_is_length.Goals as goal

pub returns : goal.returns
returns c = weight-length
