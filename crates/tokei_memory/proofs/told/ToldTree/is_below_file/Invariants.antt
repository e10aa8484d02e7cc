use Rattle.std.proofs.Common.{◌≡◌, take, drop}
use Rattle.tokei_memory.specs.Additions.{is_below_file}
use Rattle.tokei_memory.proofs.FoldersAbove.{file_among}
use Rattle.tokei_memory.proofs.told.ToldTree.is_below_file.Given as goal

abbrev pub invariant-loop-i : goal.invariant-loop-i
invariant-loop-i l = is_below_file l.self l.names ≡ file_among l.self (take l.i l.names) (drop l.i l.names)
