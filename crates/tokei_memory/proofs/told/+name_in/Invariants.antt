use Rattle.std.proofs.Common.{length}
use Rattle.tokei_memory.proofs.told.+name_in.Given as goal

abbrev pub decreases-name_in : goal.decreases-name_in
decreases-name_in l = length l.folder.now
