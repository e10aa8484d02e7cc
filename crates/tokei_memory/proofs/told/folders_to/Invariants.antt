use Rattle.std.proofs.Common.{◌≡◌, ◌++◌, take, drop}
use Rattle.tokei_memory.specs.Additions.{folders_to}
use Rattle.tokei_memory.proofs.FoldersAbove.{folders_at}
use Rattle.tokei_memory.proofs.told.folders_to.Given as goal

abbrev pub invariant-loop-i : goal.invariant-loop-i
invariant-loop-i l = folders_to l.names ≡ l.folders ++ folders_at (take l.i l.names) (drop l.i l.names)
