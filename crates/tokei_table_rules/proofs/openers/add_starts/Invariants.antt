use Rattle.std.proofs.Common.{◌≡◌, ◌++◌, drop}
use Rattle.tokei_table_row.specs.RowOf.{tokens_of, pairs_of}
use Rattle.tokei_table_rules.specs.Openers.{starts_of}
use Rattle.tokei_table_rules.proofs.openers.add_starts.Given as goal

abbrev pub invariant-loop-pair : goal.invariant-loop-pair
invariant-loop-pair l =
    tokens_of l.out.items ++ starts_of (pairs_of (drop l.pair-index l.pairs))
    ≡ tokens_of l.initial.out.items ++ starts_of (pairs_of l.pairs)
