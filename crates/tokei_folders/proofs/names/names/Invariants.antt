use Rattle.std.proofs.Common.{◌≡◌, map, filter}
use Rattle.tokei_folders.specs.Tree.{is_name}
use Rattle.tokei_folders.proofs.names.names.Given as goal

abbrev pub invariant-loop-piece : goal.invariant-loop-piece
invariant-loop-piece l = l.names ≡ filter is_name (map (λ x. x.now) l.yielded)
