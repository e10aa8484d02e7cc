-- The lines of a text by their fronts. A line runs up to and including its newline, and a last one
-- without a newline is a line; its front is its first byte that isn't blank.
use Rattle.std.specs.Prelude.{ℕ, ◌+◌, ◌==◌, ◌&&◌, ◌||◌, not, nat_le, Bool, false, List, [], ◌∷◌, if◌then◌else◌}

-- the byte that ends a line
abbrev pub newline : ℕ
newline = 10

-- the blanks: a space and the bytes 9 to 13, the newline among them
abbrev pub is_blank : ℕ → Bool
is_blank byte = (byte == 32) || (nat_le 9 byte && nat_le byte 13)

-- 1 for true
abbrev pub flag : Bool → ℕ
flag test = if test then 1 else 0

-- whether the line that goes on behind the byte has no front yet, by whether it had none before
abbrev pub blank_behind : Bool → ℕ → Bool
blank_behind blank byte = (byte == newline) || (blank && is_blank byte)

-- the same behind a text
abbrev pub blank_after : Bool → List ℕ → Bool
blank_after blank [] = blank
blank_after blank (b ∷ t) = blank_after (blank_behind blank b) t

-- for each byte whether it is the front of its line, where the text goes on in a line that has none
-- yet, or has one
abbrev pub fronts : Bool → List ℕ → List Bool
fronts blank [] = []
fronts blank (b ∷ t) = (blank && not (is_blank b)) ∷ fronts (blank_behind blank b) t

-- how many fronts there are
abbrev pub front_count : Bool → List ℕ → ℕ
front_count blank [] = 0
front_count blank (b ∷ t) =
    flag (blank && not (is_blank b)) + front_count (blank_behind blank b) t

-- how many newlines
abbrev pub newline_count : List ℕ → ℕ
newline_count [] = 0
newline_count (b ∷ t) = flag (b == newline) + newline_count t

-- whether bytes stand behind the last newline
abbrev pub goes_on : List ℕ → Bool
goes_on [] = false
goes_on (b ∷ []) = not (b == newline)
goes_on (b ∷ c ∷ t) = goes_on (c ∷ t)

-- how many lines
abbrev pub line_count : List ℕ → ℕ
line_count text = newline_count text + flag (goes_on text)
