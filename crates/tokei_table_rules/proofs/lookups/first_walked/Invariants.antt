use Rattle.std.proofs.Common.{◌≡◌, ◌+◌, drop, map, option_map}
use Rattle.tokei_table_rules.specs.Lookups.{first_where}
use Rattle.tokei_table_rules.specs.Walks.{has_walked}
use Rattle.tokei_table_row.specs.RowOf.{row_of}
use Rattle.tokei_table_rules.proofs.lookups.first_walked.Given as goal

abbrev pub invariant-loop-i : goal.invariant-loop-i
invariant-loop-i l =
    first_where (has_walked l.kind l.text) (map row_of l.rows)
    ≡ option_map (λ k. l.i + k) (first_where (has_walked l.kind l.text) (map row_of (drop l.i l.rows)))
