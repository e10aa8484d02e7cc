use Rattle.std.proofs.Common.{◌≡◌, ◌++◌, drop}
use Rattle.tokei_table_row.specs.RowOf.{pairs_of}
use Rattle.tokei_table_rules.proofs.extend.add_pairs.Given as goal

abbrev pub invariant-loop-pair : goal.invariant-loop-pair
invariant-loop-pair l =
    pairs_of l.out.items ++ pairs_of (drop l.pair-index l.pairs) ≡ pairs_of l.initial.out.items ++ pairs_of l.pairs
