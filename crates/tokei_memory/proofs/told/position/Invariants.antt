use Rattle.std.proofs.Common.{◌≡◌, ◌++◌, take, drop}
use Rattle.tokei_folders.specs.declared.nodes.PlacedNode.{PlacedNode}
use Rattle.tokei_memory.specs.Additions.{placed}
use Rattle.tokei_memory.proofs.told.position.Given as goal

abbrev pub invariant-loop-i : goal.invariant-loop-i
invariant-loop-i l = (n : PlacedNode) → n.names ≡ l.names → placed l.places n ≡ take l.i l.places ++ placed (drop l.i l.places) n
