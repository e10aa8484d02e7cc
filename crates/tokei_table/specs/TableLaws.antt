-- The laws of tables.
use Rattle.std.specs.Prelude.{ℕ, List}
use Rattle.tokei_table_row.specs.Row.{Row}
use Rattle.tokei_table_rules.specs.Extended.{extended}
use Rattle.tokei_table.specs.WellFormed.{IsWellFormed}

-- Further extensions leave a table well formed.
abbrev pub ExtendedTablesAreWellFormed : Type 0
ExtendedTablesAreWellFormed =
    (rows : List Row) (additions : List (ℕ × List (List ℕ)))
    → IsWellFormed rows → IsWellFormed (extended rows additions)
