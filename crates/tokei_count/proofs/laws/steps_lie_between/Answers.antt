use Rattle.tokei_count.proofs.StepsBetween.{steps-between}
use Rattle.tokei_count.proofs.laws.steps_lie_between.Goals as goal

pub returns : goal.returns
returns c = steps-between
