-- Parts at whose head nothing but code can begin.
use Rattle.std.specs.Prelude.{◌≡◌, ℕ, ◌<◌, ◌≤◌, false, List, [], ◌∷◌, slice_index}
use Rattle.tokei_table.specs.Bytes.{is_blank, trim_start}
use Rattle.tokei_parts.specs.Matchers.{Matchers}
use Rattle.tokei_parts.specs.PlainBytes.{BeginsNone, IsOutside}

-- no choice can begin at the first byte, and there is one
abbrev pub FrontBeginsNone : Matchers → List ℕ → Type 0
FrontBeginsNone matchers [] = ⊥
FrontBeginsNone matchers (b ∷ t) = BeginsNone matchers b

-- so it is of the part's first byte and of the first one that isn't blank
pub record HasCodeHead (matchers : Matchers) (text : List ℕ) : Type 0 where
  pub first : FrontBeginsNone matchers text
  pub head : FrontBeginsNone matchers (trim_start text)

-- a byte that isn't blank stands in the text from the place `start` to before `end`
pub record HasSolid (text : List ℕ) (start end : ℕ) : Type 0 where
  pub place : ℕ
  pub low : start ≤ place
  pub high : place < end
  pub solid : is_blank (slice_index text place) ≡ false

-- no multi-line, nested or line comment begins at the byte, by the matchers
abbrev pub BeginsNoComment : Matchers → ℕ → Type 0
BeginsNoComment matchers byte = IsOutside matchers.begins_comment byte
