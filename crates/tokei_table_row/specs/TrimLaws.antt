-- What the trims leave, said of the whole text.
use Rattle.std.specs.Prelude.{◌≡◌, ℕ, true, false, List, [], ◌∷◌, ◌++◌}
use Rattle.tokei_table_row.specs.Bytes.{is_blank, all_blank, trim_start, trim}

-- The text is empty, or its first byte isn't blank.
abbrev pub BeginsSolid : List ℕ → Type 0
BeginsSolid [] = Unit {0}
BeginsSolid (b ∷ t) = is_blank b ≡ false

-- The text is empty, or its last byte isn't blank.
abbrev pub EndsSolid : List ℕ → Type 0
EndsSolid [] = Unit {0}
EndsSolid (b ∷ []) = is_blank b ≡ false
EndsSolid (b ∷ c ∷ t) = EndsSolid (c ∷ t)

-- The text is blanks and then what is left, which is empty or begins with a byte that isn't blank.
pub record DropsFront (text left : List ℕ) : Type 0 where
  pub front : List ℕ
  pub blank_front : all_blank front ≡ true
  pub joined : text ≡ front ++ left
  pub begins : BeginsSolid left

-- The text is what is left between blanks; what is left is empty, or begins and ends with a byte
-- that isn't blank.
pub record DropsEnds (text left : List ℕ) : Type 0 where
  pub front : List ℕ
  pub back : List ℕ
  pub blank_front : all_blank front ≡ true
  pub blank_back : all_blank back ≡ true
  pub joined : text ≡ front ++ (left ++ back)
  pub begins : BeginsSolid left
  pub ends : EndsSolid left

-- Of every text `trim_start` drops the front blanks.
abbrev pub TrimStartDropsFront : Type 0
TrimStartDropsFront = (t : List ℕ) → DropsFront t (trim_start t)

-- Of every text `trim` drops the blanks at both ends.
abbrev pub TrimDropsEnds : Type 0
TrimDropsEnds = (t : List ℕ) → DropsEnds t (trim t)
