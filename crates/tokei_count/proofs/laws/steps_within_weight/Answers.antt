use Rattle.tokei_count.proofs.StepWeight.{steps-weight}
use Rattle.tokei_count.proofs.laws.steps_within_weight.Goals as goal

pub returns : goal.returns
returns c = steps-weight
