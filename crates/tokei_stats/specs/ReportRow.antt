-- The row of a report as a text, without the newline that a printer ends it with: a space, the
-- name, and the four counts.
use Rattle.std.specs.Prelude.{ℕ, ◌+◌, ◌-◌, List, ◌∷◌, ◌++◌, length, drop, nat_lt, if◌then◌else◌}
use Rattle.tokei_stats.specs.Places.{left_in, number_in}
use Rattle.tokei_table_row.specs.Counts.{Counts, lines_of}
use Rattle.tokei_table_row.specs.Bytes.{space}
use Rattle.tokei_bytes.specs.Boundaries.{boundary_from}

-- the bar that stands for the beginning of a shortened name
abbrev pub bar : ℕ
bar = 124

-- a name of more bytes than the width is a bar and its end, from the first character that leaves
-- room for the bar
abbrev pub shortened : ℕ → List ℕ → List ℕ
shortened width name =
    if nat_lt width (length name) then bar ∷ drop (boundary_from name (length name + 1 - width))
    name
    else name

-- how many places a row of this width has for the name
abbrev pub name_places : ℕ → ℕ
name_places width = width + 2

-- the name in so many places, cut where it is longer, else filled with spaces behind it
abbrev pub name_cell : ℕ → List ℕ → List ℕ
name_cell width name = left_in width (shortened width name)

-- how many places it has for each count
abbrev pub count_places : ℕ
count_places = 12

-- lines, code, comments and blanks, each behind a space; the lines are their exact sum
abbrev pub counts_cells : Counts → List ℕ
counts_cells counts =
    space ∷ (number_in count_places (lines_of counts)
    ++ (space ∷ (number_in count_places counts.code
    ++ (space ∷ (number_in count_places counts.comments
    ++ (space ∷ number_in count_places counts.blanks))))))

-- the row of a name and its counts, in so many columns
abbrev pub report_row : ℕ → List ℕ → Counts → List ℕ
report_row width name counts = space ∷ (name_cell (name_places width) name ++ counts_cells counts)
