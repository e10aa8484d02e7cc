-- Rust's doc comments: lines that begin with `///` or `//!`.
use Rattle.std.specs.Prelude.{ℕ, ◌+◌, ◌==◌, if◌then◌else◌, Option, None, Some, option_map}
use Rattle.std.specs.Prelude.{List, [], ◌∷◌, ◌++◌, length, take, drop, codes}
use Rattle.tokei_table_row.specs.Bytes.{trim_start, begins, newline}

-- The byte before the first line of the others.
abbrev pub in_front : ℕ → List (List ℕ) → List (List ℕ)
in_front byte [] = (byte ∷ []) ∷ []
in_front byte (line ∷ lines) = (byte ∷ line) ∷ lines

-- The lines of a text, each through its newline.
abbrev pub lines_of : List ℕ → List (List ℕ)
lines_of [] = []
lines_of (b ∷ t) = if b == newline then (b ∷ []) ∷ lines_of t else in_front b (lines_of t)

-- The text through its first newline.
abbrev pub first_line : List ℕ → List ℕ
first_line [] = []
first_line (b ∷ t) = if b == newline then b ∷ [] else b ∷ first_line t

-- The marks.
abbrev pub doc_marks : List (List ℕ)
doc_marks = codes "///" ∷ codes "//!" ∷ []

-- The mark at the front of the text.
abbrev pub front_mark : List ℕ → Option (List ℕ)
front_mark text =
    if begins (codes "///") text then Some (codes "///")
    else if begins (codes "//!") text then Some (codes "//!")
    else None

-- The mark with which the line begins behind its front blanks.
abbrev pub mark_of : List ℕ → Option (List ℕ)
mark_of line = front_mark (trim_start line)

-- The length of the lines before the first one that doesn't begin with the mark behind its front
-- blanks.
abbrev pub marked_len : List ℕ → List (List ℕ) → ℕ
marked_len mark [] = 0
marked_len mark (line ∷ lines) =
    if begins mark (trim_start line) then length line + marked_len mark lines else 0

-- The lines joined, each without its front blanks and the three bytes of the mark. Newlines stay.
abbrev pub unmarked : List (List ℕ) → List ℕ
unmarked [] = []
unmarked (line ∷ lines) = drop 3 (trim_start line) ++ unmarked lines

-- What a block of marked lines says.
abbrev pub doc_text : List ℕ → List ℕ
doc_text block = unmarked (lines_of block)

-- A block of doc comments: what it says, and the length of its lines.
pub record DocBlock : Type 0 where
  pub contents : List ℕ
  pub size : ℕ

-- The block of so many bytes at the front of the text.
abbrev pub doc_of : List ℕ → ℕ → DocBlock
doc_of rest number = record { contents = doc_text (take number rest); size = number }

-- The block that opens at the front of the text, where the rest of the line there begins with a
-- mark behind its front blanks: that rest, and the lines behind it that begin with the same mark.
abbrev pub doc_block : List ℕ → Option DocBlock
doc_block rest =
    option_map (λ mark. doc_of rest (marked_len mark (lines_of rest))) (mark_of (first_line rest))
