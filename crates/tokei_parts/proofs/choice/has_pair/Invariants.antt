use Rattle.std.proofs.Common.{◌≡◌, drop}
use Rattle.tokei_parts.specs.Choice.{has_pair}
use Rattle.tokei_table_row.specs.RowOf.{pairs_of, pair_of}
use Rattle.tokei_parts.proofs.choice.has_pair.Given as goal

abbrev pub invariant-loop-other : goal.invariant-loop-other
invariant-loop-other l = has_pair (pairs_of (drop l.other-index l.pairs)) (pair_of l.pair) ≡ has_pair (pairs_of l.pairs) (pair_of l.pair)
