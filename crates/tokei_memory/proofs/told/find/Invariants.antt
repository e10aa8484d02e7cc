use Rattle.std.proofs.Common.{◌≡◌, drop}
use Rattle.tokei_folders.specs.Tree.{node_at}
use Rattle.tokei_memory.proofs.told.find.Given as goal

abbrev pub invariant-loop-place : goal.invariant-loop-place
invariant-loop-place l = node_at l.places l.names ≡ node_at (drop l.place-index l.places) l.names
