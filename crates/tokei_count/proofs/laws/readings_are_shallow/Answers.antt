use Rattle.tokei_count.proofs.ShallowReadings.{reading-shallow}
use Rattle.tokei_count.proofs.laws.readings_are_shallow.Goals as goal

pub returns : goal.returns
returns c = reading-shallow
