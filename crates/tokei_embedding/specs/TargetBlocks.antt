-- Lingua Franca's blocks of the target language, and the target itself.
use Rattle.std.specs.Char.{is_ascii_alphanumeric}
use Rattle.std.specs.Option.{option_or}
use Rattle.std.specs.Prelude.{ℕ, suc, ◌+◌, Bool, true, false, ◌&&◌, ◌||◌, ◌==◌, nat_lt, if◌then◌else◌}
use Rattle.std.specs.Prelude.{List, [], ◌∷◌, length, take, drop, codes, Option, None, Some}
use Rattle.tokei_table_row.specs.Bytes.{is_blank, trim_start, begins, newline}
use Rattle.tokei_embedding.specs.Searches.{first_of, is_at}

-- The byte of an underscore, `_`.
abbrev pub underscore : ℕ
underscore = 95

-- A block: its contents, and the length from its opener to before its closer.
pub record TargetBlock : Type 0 where
  pub contents : List ℕ
  pub size : ℕ

-- The contents of a block, by the bytes behind its opener, and the closer in them.
abbrev pub target_contents : List ℕ → Option ℕ → List ℕ
target_contents behind None = behind
target_contents behind (Some i) = take i behind

-- The block with these contents, behind an opener of two bytes.
abbrev pub target_with : List ℕ → TargetBlock
target_with contents = record { contents = contents; size = 2 + length contents }

-- The block at the front of `rest`. One that isn't closed runs to the end.
abbrev pub target_from : List ℕ → TargetBlock
target_from rest = target_with (target_contents (drop 2 rest) (first_of (codes "=}") (drop 2 rest)))

-- The block that opens at a place of a part, where the part's first `{=` stands there. `rest` is
-- the text from the place on.
abbrev pub target_block : List ℕ → ℕ → List ℕ → Option TargetBlock
target_block part place rest =
    if is_at place (first_of (codes "{=") part) then Some (target_from rest) else None

-- Word bytes are ASCII's letters and digits, and the underscore.
abbrev pub is_word : ℕ → Bool
is_word byte = is_ascii_alphanumeric byte || byte == underscore

-- How many word bytes stand at the front.
abbrev pub word_len : List ℕ → ℕ
word_len [] = 0
word_len (b ∷ t) = if is_word b then suc (word_len t) else 0

-- Whether nothing but blanks stands before the first newline, or before the end.
abbrev pub ends_line : List ℕ → Bool
ends_line [] = true
ends_line (b ∷ t) = (b == newline) || (is_blank b && ends_line t)

-- Whether a target's word may end before this text: blanks that hold a newline or reach the end, or
-- a semicolon or an opening brace behind optional blanks.
abbrev pub ends_target : List ℕ → Bool
ends_target text =
    ends_line text || begins (codes ";") (trim_start text) || begins (codes "{") (trim_start text)

-- The word at the front, where it has a byte at least and is followed as a target must be.
abbrev pub target_word : List ℕ → Option (List ℕ)
target_word text =
    let n = word_len text in
    if nat_lt 0 n && ends_target (drop n text) then Some (take n text) else None

-- The word behind one blank or more.
abbrev pub word_behind_blanks : List ℕ → Option (List ℕ)
word_behind_blanks [] = None
word_behind_blanks (b ∷ t) = if is_blank b then target_word (trim_start t) else None

-- The target that stands at the front of the text.
abbrev pub target_here : List ℕ → Option (List ℕ)
target_here text = if begins (codes "target") text then word_behind_blanks (drop 6 text) else None

-- The first target, where the byte before the text is a word byte or not. None stands right behind
-- a word byte.
abbrev pub target_after : Bool → List ℕ → Option (List ℕ)
target_after word [] = None
target_after word (b ∷ t) =
    option_or (if word then None else target_here (b ∷ t)) (target_after (is_word b) t)

-- The text's target.
abbrev pub target_of : List ℕ → Option (List ℕ)
target_of text = target_after false text
