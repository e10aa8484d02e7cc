use Rattle.tokei_folders.proofs.Joining.{names_of-joined}
use Rattle.tokei_folders.proofs.laws.a_joined_place_has_both_names.Goals as goal

pub returns : goal.returns
returns c = names_of-joined
