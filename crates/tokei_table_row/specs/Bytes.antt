-- Bytes by their names; blanks, and what is left of a text without those at its ends.
use Rattle.std.specs.Prelude.{ℕ, suc, Bool, true, ◌&&◌, ◌||◌, ◌==◌, nat_le, nat_eq, if◌then◌else◌, List, [], ◌∷◌, bytes_eq}
use Rattle.std.specs.List.{list_any, starts_with, ends_with}

-- The byte of a horizontal tab.
abbrev pub tab : ℕ
tab = 9

-- The byte that ends a line.
abbrev pub newline : ℕ
newline = 10

-- The byte that stands before a newline where lines end in two bytes.
abbrev pub carriage_return : ℕ
carriage_return = 13

-- The byte of a space.
abbrev pub space : ℕ
space = 32

-- The byte of a backslash, `\`.
abbrev pub backslash : ℕ
backslash = 92

-- The blanks are the space and the bytes from the tab to the carriage return, the newline among
-- them.
abbrev pub is_blank : ℕ → Bool
is_blank byte = (byte == space) || (nat_le tab byte && nat_le byte carriage_return)

-- Whether each byte of the text is blank.
abbrev pub all_blank : List ℕ → Bool
all_blank [] = true
all_blank (b ∷ t) = is_blank b && all_blank t

-- The text without the blanks at its front.
abbrev pub trim_start : List ℕ → List ℕ
trim_start [] = []
trim_start (b ∷ t) = if is_blank b then trim_start t else b ∷ t

-- The text without the blanks at its end.
abbrev pub trim_end : List ℕ → List ℕ
trim_end [] = []
trim_end (b ∷ t) = if all_blank (b ∷ t) then [] else b ∷ trim_end t

-- The text without the blanks at both ends.
abbrev pub trim : List ℕ → List ℕ
trim text = trim_end (trim_start text)

-- How many bytes stand before the first newline, or in all.
abbrev pub line_len : List ℕ → ℕ
line_len [] = 0
line_len (b ∷ t) = if b == newline then 0 else suc (line_len t)

-- How many bytes stand before the first blank, or in all.
abbrev pub solid_len : List ℕ → ℕ
solid_len [] = 0
solid_len (b ∷ t) = if is_blank b then 0 else suc (solid_len t)

-- Whether the text begins with the token.
abbrev pub begins : List ℕ → List ℕ → Bool
begins token text = starts_with nat_eq text token

-- Whether the text begins with one of the tokens.
unfoldable pub begins_with_one : List (List ℕ) → List ℕ → Bool
begins_with_one tokens text = list_any (λ e. begins e text) tokens

-- Whether the text ends with the token.
abbrev pub ends : List ℕ → List ℕ → Bool
ends token text = ends_with nat_eq text token

-- Whether a list of texts holds that one.
abbrev pub holds : List (List ℕ) → List ℕ → Bool
holds texts text = list_any (λ t. bytes_eq t text) texts
