-- The row of counts that take in those of the texts inside.
use Rattle.std.specs.Prelude.{ℕ, ◌-◌, List, ◌∷◌, ◌++◌}
use Rattle.tokei_stats.specs.ReportRow.{name_cell}
use Rattle.tokei_stats.specs.Statistics.{Counts}
use Rattle.tokei_table.specs.Bytes.{space}
use Rattle.tokei_print.specs.Cells.{subtotal_cells}
use Rattle.tokei_print.specs.Layouts.{Layout, separator_in}
use Rattle.tokei_print.specs.Rules.{newline}

-- how many places the name of a report's row or of a subtotal has, less the two that a report's row
-- adds
abbrev pub path_places : ℕ → ℕ
path_places columns = columns - 56

-- counts that take in those of the texts inside
abbrev pub subtotal : Layout → List ℕ → Counts → List ℕ
subtotal layout name counts =
    space
    ∷ (name_cell (path_places layout.columns) name
    ++ (subtotal_cells (separator_in layout) counts ++ newline))
