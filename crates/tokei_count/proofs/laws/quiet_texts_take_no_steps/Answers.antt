use Rattle.tokei_count.proofs.QuietSteps.{quiet_steps}
use Rattle.tokei_count.proofs.laws.quiet_texts_take_no_steps.Goals as goal

pub returns : goal.returns
returns c = quiet_steps
