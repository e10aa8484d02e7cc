use Rattle.std.proofs.Common.{◌≡◌, ◌++◌, drop, map}
use Rattle.tokei_table_rules.specs.Extended.{addition_of, extended_from, extended}
use Rattle.tokei_table_row.specs.RowOf.{row_of}
use Rattle.tokei_table.proofs.extend.extended_rows.Given as goal

abbrev pub invariant-loop-place : goal.invariant-loop-place
invariant-loop-place l =
    map row_of l.out.items ++ extended_from l.place l.known (map addition_of l.additions)
    (map row_of (drop l.place l.rows)) ≡ extended (map row_of l.rows) (map addition_of l.additions)
