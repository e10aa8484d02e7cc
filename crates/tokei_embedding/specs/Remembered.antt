-- What searches remember of a text.
use Rattle.std.specs.Prelude.{◌≡◌, ℕ, ◌+◌, ◌<◌, ◌≤◌, true, false, List, length, drop, slice_index}
use Rattle.std.specs.Prelude.{codes, Option, None, Some}
use Rattle.tokei_table_row.specs.Bytes.{is_blank}
use Rattle.memchr.specs.Find.{OccursAt}
use Rattle.tokei_embedding.specs.DocComments.{first_line, front_mark, mark_of, marked_len, lines_of}

-- A text, and the token that is sought in it.
pub record Sought : Type 0 where
  pub text : List ℕ
  pub token : List ℕ

-- The token sought in the text, as one value.
abbrev pub sought : List ℕ → List ℕ → Sought
sought text token = record { text = text; token = token }

-- The token stands in the text at no place from the first one to before the other.
abbrev pub StandsNowhere : Sought → ℕ → ℕ → Type 0
StandsNowhere s from place = (k : ℕ) → from ≤ k → k < place → ¬ OccursAt s.text s.token k

-- The token's first place from a place on, or the text's length. Of a place before that one nothing
-- is said.
pub record IsFirstPlace (s : Sought) (from place : ℕ) : Type 0 where
  pub some : 0 < length s.token
  pub none : StandsNowhere s from place
  pub stands : from ≤ place → place < length s.text → OccursAt s.text s.token place

-- The token stands in the text at no place from the first one on at which it would end by the
-- other.
abbrev pub EndsNowhere : Sought → ℕ → ℕ → Type 0
EndsNowhere s from to = (k : ℕ) → from ≤ k → k + length s.token ≤ to → ¬ OccursAt s.text s.token k

-- The token stands at the place, ends by another, and does so at no later place.
pub record StandsLast (s : Sought) (from to place : ℕ) : Type 0 where
  pub order : from ≤ place
  pub ends : place + length s.token ≤ to
  pub stands : OccursAt s.text s.token place
  pub none : EndsNowhere s (place + 1) to

-- The token's last place in the text from one place to another.
abbrev pub IsLastPlace : Sought → ℕ → ℕ → Option ℕ → Type 0
IsLastPlace s from to None = EndsNowhere s from to
IsLastPlace s from to (Some place) = StandsLast s from to place

-- The first place from a place on of a byte that isn't blank, or the text's length. Of a place
-- before that one nothing is said.
pub record IsFirstSolid (text : List ℕ) (from place : ℕ) : Type 0 where
  pub blank : (k : ℕ) → from ≤ k → k < place → is_blank (slice_index text k) ≡ true
  pub solid : from ≤ place → place < length text → is_blank (slice_index text place) ≡ false

-- From each place from the first one to the other, the rest of the line begins behind its blanks
-- with the mark that stands at the other. Of a place before the first one nothing is said.
pub record IsMarkPlace (text : List ℕ) (from place : ℕ) : Type 0 where
  pub within : place ≤ length text
  pub leads : (k : ℕ) → from ≤ k → k ≤ place
      → mark_of (first_line (drop k text)) ≡ front_mark (drop place text)

-- From each place from the first one to before the other from which the rest of the line begins
-- behind its blanks with the mark that is sought, the lines with the mark reach to the other.
abbrev pub IsDocEnd : Sought → ℕ → ℕ → Type 0
IsDocEnd s from end =
    (k : ℕ) → from ≤ k → k < end → mark_of (first_line (drop k s.text)) ≡ Some s.token
    → k + marked_len s.token (lines_of (drop k s.text)) ≡ end

-- Searches of one text for the marks of doc comments, and for where the blocks of each mark end.
pub record SearchDocs (text : List ℕ) (marks : List ℕ) (outer inner : Sought) : Type 0 where
  pub of_text : marks ≡ text
  pub of_outer : outer ≡ sought text (codes "///")
  pub of_inner : inner ≡ sought text (codes "//!")
