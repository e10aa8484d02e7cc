-- Texts and numbers in places of a row. Places count characters, and what is longer is not cut.
use Rattle.std.specs.Prelude.{ℕ, ◌-◌, ◌/◌, List, ◌∷◌, ◌++◌, decimal, replicate}
use Rattle.std.specs.Fmt.{char_count}
use Rattle.tokei_stats.specs.ReportRow.{count_places}
use Rattle.tokei_stats.specs.Statistics.{Counts, lines_of}
use Rattle.tokei_table.specs.Bytes.{space}
use Rattle.tokei_options.specs.Grouping.{grouped}

-- right in the width
abbrev pub right_in : ℕ → List ℕ → List ℕ
right_in width text = replicate (width - char_count text) space ++ text

-- centred in the width; an odd space goes right
abbrev pub centred_in : ℕ → List ℕ → List ℕ
centred_in width text =
    let spaces = width - char_count text in
    replicate (spaces / 2) space ++ (text ++ replicate (spaces - spaces / 2) space)

-- four texts, each behind a space and right in 12 places: lines, code, comments and blanks
abbrev pub four_cells : List ℕ → List ℕ → List ℕ → List ℕ → List ℕ
four_cells lines code comments blanks =
    space ∷ (right_in count_places lines
    ++ (space ∷ (right_in count_places code
    ++ (space ∷ (right_in count_places comments
    ++ (space ∷ right_in count_places blanks))))))

-- a number with this separator between its groups of digits
abbrev pub number_text : List ℕ → ℕ → List ℕ
number_text separator number = grouped separator (decimal number)

-- lines, code, comments and blanks with this separator; the lines are their exact sum
abbrev pub number_cells : List ℕ → Counts → List ℕ
number_cells separator counts =
    four_cells
    (number_text separator (lines_of counts))
    (number_text separator counts.code)
    (number_text separator counts.comments)
    (number_text separator counts.blanks)

-- how many places a subtotal has for its lines
abbrev pub subtotal_places : ℕ
subtotal_places = 14

-- the same, with more places for the lines
abbrev pub subtotal_cells : List ℕ → Counts → List ℕ
subtotal_cells separator counts =
    space ∷ (right_in subtotal_places (number_text separator (lines_of counts))
    ++ (space ∷ (right_in count_places (number_text separator counts.code)
    ++ (space ∷ (right_in count_places (number_text separator counts.comments)
    ++ (space ∷ right_in count_places (number_text separator counts.blanks)))))))
