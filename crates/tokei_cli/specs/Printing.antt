-- What the program prints beside reports.
use Rattle.std.specs.Prelude.{ℕ, List, [], ◌∷◌, ◌++◌, codes, flat_map}
use Rattle.std.specs.List.{join_by}
use Rattle.tokei_stats.specs.Places.{left_in}
use Rattle.tokei_table_row.specs.Bytes.{newline, space}
use Rattle.tokei_table_row.specs.Row.{Row}

-- how many places a line has for the name
abbrev pub list_places : ℕ
list_places = 40

-- a name left in its places, a space, and what stands beside it
abbrev pub list_line : List ℕ → List ℕ → List ℕ
list_line name beside = left_in list_places name ++ (space ∷ (beside ++ newline ∷ []))

-- the extensions between commas
abbrev pub extensions_text : List (List ℕ) → List ℕ
extensions_text [] = codes "<None>"
extensions_text (e ∷ es) = join_by (λ t. t) (codes ", ") (e ∷ es)

-- the line of a language
abbrev pub row_line : Row → List ℕ
row_line row = list_line row.name (extensions_text row.extensions)

-- a heading, and a line for each language
abbrev pub languages_text : List Row → List ℕ
languages_text rows = list_line (codes "Language") (codes "Extensions") ++ flat_map row_line rows

-- that earlier results of this name were refused, on two lines
abbrev pub failure_text : List ℕ → List ℕ
failure_text name =
    codes "Error:" ++ (newline ∷ (codes " Failed to parse input file: " ++ (name ++ newline ∷ [])))
