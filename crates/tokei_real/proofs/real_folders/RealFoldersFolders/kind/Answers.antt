-- The answer is that of `keep_cause`; no tree is told.
use Rattle.std.proofs.Common.{refl}
use Rattle.tokei_real.proofs.Untold.{untold}
use Rattle.tokei_real.proofs.real_folders.RealFoldersFolders.kind.Goals as goal

pub returns : goal.returns
returns g c = record {
  told = λ tree e. untold tree e;
  same = refl;
  counts = c.keep_cause.ensures.counts;
  full = c.keep_cause.ensures.full;
}
