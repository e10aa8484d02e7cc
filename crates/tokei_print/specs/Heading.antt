-- What stands above the languages: the names of the columns, and the warning.
use Rattle.std.specs.Prelude.{ℕ, ◌-◌, List, ◌∷◌, ◌++◌, codes}
use Rattle.tokei_stats.specs.Places.{left_in}
use Rattle.tokei_table.specs.Bytes.{space}
use Rattle.tokei_print.specs.Cells.{right_in, four_cells}
use Rattle.tokei_print.specs.Rules.{newline, row}

-- the names of the columns
abbrev pub column_names : ℕ → List ℕ
column_names columns =
    space ∷ (left_in (columns - 69) (codes "Language")
    ++ (space ∷ (right_in 14 (codes "Files")
    ++ four_cells (codes "Lines") (codes "Code") (codes "Comments") (codes "Blanks"))))

-- the names of the columns between two rows of strokes
abbrev pub header : ℕ → List ℕ
header columns = row columns ++ (column_names columns ++ (newline ++ row columns))

-- the line that says what the mark `(!)` means
abbrev pub warning : List ℕ
warning = codes "Note: results can be inaccurate for languages marked with '(!)'" ++ newline
