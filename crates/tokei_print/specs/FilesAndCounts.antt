-- How many files, and their counts, behind a name.
use Rattle.std.specs.Prelude.{ℕ, List, ◌∷◌, ◌++◌}
use Rattle.tokei_stats.specs.Statistics.{Counts}
use Rattle.tokei_table.specs.Bytes.{space}
use Rattle.tokei_print.specs.Cells.{right_in, number_text, number_cells}
use Rattle.tokei_print.specs.Rules.{newline}

-- how many places a row has for the number of files
abbrev pub files_places : ℕ
files_places = 8

-- how many files, and their counts, behind a name
abbrev pub files_and_counts : List ℕ → ℕ → Counts → List ℕ
files_and_counts separator files counts =
    space
    ∷ (right_in files_places (number_text separator files) ++
    (number_cells separator counts ++ newline))
