-- The first place of a text at which an opener stands.
use Rattle.std.specs.Prelude.{ℕ, suc, Bool, true, false, ◌==◌, List, [], ◌∷◌, Option, None, Some, option_map}
use Rattle.std.specs.Prelude.{if◌then◌else◌}
use Rattle.std.specs.List.{list_any}
use Rattle.tokei_table_row.specs.Bytes.{begins_with_one}

-- The first place at which some opener stands; none where the text ends before one.
abbrev pub first_opener : List (List ℕ) → List ℕ → Option ℕ
first_opener openers [] = None
first_opener openers (b ∷ t) =
    if begins_with_one openers (b ∷ t) then Some 0 else option_map suc (first_opener openers t)

-- Whether the text isn't empty.
abbrev pub is_nonempty : List ℕ → Bool
is_nonempty [] = false
is_nonempty (b ∷ t) = true

-- Whether that byte is the first of the opener.
abbrev pub is_first_of : ℕ → List ℕ → Bool
is_first_of byte [] = false
is_first_of byte (b ∷ t) = byte == b

-- Whether that byte is the first of some opener.
unfoldable pub is_first : List (List ℕ) → ℕ → Bool
is_first openers byte = list_any (is_first_of byte) openers
