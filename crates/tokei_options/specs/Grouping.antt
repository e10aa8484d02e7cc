-- A number's digits in groups of three.
use Rattle.std.specs.Prelude.{ℕ, ◌%◌, List, [], ◌∷◌, ◌++◌, ◌==◌, ◌&&◌, Bool, Option, None, Some, length, nat_lt}
use Rattle.std.specs.Prelude.{if◌then◌else◌, encode_utf8}

-- the bytes of a separator
abbrev pub separator_text : Option ℕ → List ℕ
separator_text None = []
separator_text (Some separator) = encode_utf8 separator

-- digits end a group where a multiple of three follow, and not none
abbrev pub ends_group : ℕ → Bool
ends_group behind = nat_lt 0 behind && (behind % 3 == 0)

-- the digits, with a separator behind each that ends a group
abbrev pub grouped : List ℕ → List ℕ → List ℕ
grouped separator [] = []
grouped separator (digit ∷ digits) =
    digit ∷ ((if ends_group (length digits) then separator else []) ++ grouped separator digits)
