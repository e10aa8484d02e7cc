use Rattle.std.proofs.Common.{refl}
use Rattle.tokei_walk.proofs.Growing.{grows_same, grows_on}
use Rattle.tokei_walk.proofs.laws.notes_stay_grown.Goals as goal

pub returns : goal.returns
returns c = record { stays = λ a. grows_same a a refl; twice = grows_on }
