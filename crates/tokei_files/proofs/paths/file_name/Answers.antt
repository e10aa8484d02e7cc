use Rattle.std.proofs.Common.{refl}
use Rattle.tokei_files.specs.Paths.{name_of}
use Rattle.tokei_files.proofs.Deciding.{name_or_none}
use Rattle.tokei_files.proofs.paths.file_name.Goals as goal

pub returns : goal.returns
unfolding name_of
returns c = name_or_none c.last_name.result _ _ c.unwrap_or.result c.last_name.ensures refl c.unwrap_or.ensures
