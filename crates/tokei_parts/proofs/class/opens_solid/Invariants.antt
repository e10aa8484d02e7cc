use Rattle.std.proofs.Common.{◌≡◌, drop}
use Rattle.tokei_parts.specs.CommentHeads.{opens_solid}
use Rattle.tokei_table.specs.RowOf.{pairs_of}
use Rattle.tokei_parts.proofs.class.opens_solid.Given as goal

abbrev pub invariant-loop-pair : goal.invariant-loop-pair
invariant-loop-pair l = opens_solid (pairs_of (drop l.pair-index l.pairs)) l.text l.closer ≡ opens_solid (pairs_of l.pairs) l.text l.closer
