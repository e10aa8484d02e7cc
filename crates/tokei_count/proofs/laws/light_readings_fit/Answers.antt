use Rattle.tokei_count.proofs.LineWeight.{reading-fits}
use Rattle.tokei_count.proofs.laws.light_readings_fit.Goals as goal

pub returns : goal.returns
returns c = reading-fits
