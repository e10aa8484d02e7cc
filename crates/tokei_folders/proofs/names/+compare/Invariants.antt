use Rattle.std.proofs.Common.{length}
use Rattle.tokei_folders.proofs.names.+compare.Given as goal

abbrev pub decreases-compare : goal.decreases-compare
decreases-compare l = length l.a.now
