use Rattle.tokei_count.proofs.KnownReadings.{reading-known}
use Rattle.tokei_count.proofs.laws.readings_know_their_languages.Goals as goal

pub returns : goal.returns
returns c = reading-known
