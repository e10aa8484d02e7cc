-- The rows of a stream of columns: two above, and one for each file.
use Rattle.std.specs.Prelude.{ℕ, List, ◌∷◌, ◌++◌, codes, replicate}
use Rattle.tokei_stats.specs.Places.{left_in}
use Rattle.tokei_stats.specs.ReportRow.{count_places, counts_cells}
use Rattle.tokei_stats.specs.Shown.{shown}
use Rattle.tokei_stats.specs.Statistics.{Counts}
use Rattle.tokei_table.specs.Bytes.{space}
use Rattle.tokei_print.specs.Cells.{centred_in, right_in}
use Rattle.tokei_print.specs.Rules.{newline}

-- the byte of a number sign, `#`
abbrev pub number_sign : ℕ
number_sign = 35

-- how many places the name of a language has
abbrev pub language_places : ℕ
language_places = 10

-- and a path
abbrev pub stream_path_places : ℕ
stream_path_places = 80

-- the names of the columns behind a `#`
abbrev pub stream_names : List ℕ
stream_names =
    number_sign ∷ (centred_in language_places (codes "language")
    ++ (space ∷ (centred_in stream_path_places (codes "path")
    ++ (space ∷ (centred_in count_places (codes "lines")
    ++ (space ∷ (centred_in count_places (codes "code")
    ++ (space ∷ (centred_in count_places (codes "comments")
    ++ (space ∷ centred_in count_places (codes "blanks")))))))))))

-- a `#` for each place of a column
abbrev pub strokes : ℕ → List ℕ
strokes places = replicate places number_sign

-- the columns below their names
abbrev pub stream_strokes : List ℕ
stream_strokes =
    strokes language_places
    ++ (space ∷ (strokes stream_path_places
    ++ (space ∷ (strokes count_places
    ++ (space ∷ (strokes count_places
    ++ (space ∷ (strokes count_places
    ++ (space ∷ strokes count_places)))))))))

-- the two rows above a stream
abbrev pub stream_heading : List ℕ
stream_heading = stream_names ++ (newline ++ (stream_strokes ++ newline))

-- a file's own counts behind the name of its language and its path as it is shown; the lines are
-- their exact sum
abbrev pub stream_row : List ℕ → List ℕ → Counts → List ℕ
stream_row language path counts =
    right_in language_places language
    ++ (space ∷ (left_in stream_path_places (shown path) ++ (counts_cells counts ++ newline)))
