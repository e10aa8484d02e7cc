-- By which two bytes the rows are found that have a path suffix of a name: its last two.
use Rattle.std.specs.Prelude.{ℕ, ◌-◌, Bool, true, false, List, [], ◌∷◌, length, drop, map}
use Rattle.std.specs.List.{list_any}
use Rattle.tokei_table_row.specs.Row.{Row}

-- The last two bytes of a text, or the whole of a shorter one.
abbrev pub tail_of : List ℕ → List ℕ
tail_of text = drop (length text - 2) text

-- Those of each path suffix of the row.
abbrev pub suffix_tails : Row → List (List ℕ)
suffix_tails row = map tail_of row.path_suffixes

-- Whether the text has fewer than two bytes: the last two bytes of a name don't tell then whether
-- it ends with the text.
abbrev pub is_short : List ℕ → Bool
is_short [] = true
is_short (a ∷ []) = true
is_short (a ∷ b ∷ t) = false

-- Whether a path suffix of the row is short.
abbrev pub has_short_suffix : Row → Bool
has_short_suffix row = list_any is_short row.path_suffixes
