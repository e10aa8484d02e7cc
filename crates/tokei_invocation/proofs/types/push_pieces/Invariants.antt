-- The lines of the pieces so far are added.
use Rattle.std.proofs.Common.{◌≡◌, ◌++◌, filter, map}
use Rattle.tokei_invocation.specs.Types.{is_unnamed, piece_line}
use Rattle.tokei_invocation.proofs.types.push_pieces.Given as goal

abbrev pub invariant-loop-piece : goal.invariant-loop-piece
invariant-loop-piece l = l.lines ≡ l.initial.lines ++ map piece_line (filter (is_unnamed l.table) (map (λ x. x.now) l.yielded))
