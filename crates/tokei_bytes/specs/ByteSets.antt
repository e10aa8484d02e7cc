-- Sets of bytes, by a flag for each byte.
use Rattle.std.specs.Prelude.{◌≡◌, ℕ, zero, suc, ◌<◌, ◌≤◌, Bool, true, false, List, [], ◌∷◌, length, take}
use Rattle.std.specs.Prelude.{slice_index, slice_index_or}
use Rattle.tokei_bytes.specs.OneOf.{is_one_of}
use Rattle.tokei_bytes.specs.Slots.{in_slots, is_slotted}

-- whether the byte is in the set
abbrev pub is_in : List Bool → ℕ → Bool
is_in flags byte = slice_index_or flags byte false

-- the first `number` of the four are the bytes of the set, unless those are more than four; where
-- there are any, each of the four is one
pub record HasFew (flags : List Bool) (few : List ℕ) (number : ℕ) : Type 0 where
  pub four : length few ≡ 4
  pub holds : number ≤ 4 → (b : ℕ) → b < 256 → is_in flags b ≡ true
      → is_one_of (take number few) b ≡ true
  pub held : 0 < number → (b : ℕ) → is_one_of few b ≡ true → is_in flags b ≡ true

-- the byte in front of the first three of so many few, or that byte alone where there are none
abbrev pub with_one : List ℕ → ℕ → ℕ → List ℕ
with_one few zero byte = byte ∷ byte ∷ byte ∷ byte ∷ []
with_one few (suc n) byte = byte ∷ slice_index few 0 ∷ slice_index few 1 ∷ slice_index few 2 ∷ []

-- where all have one, a byte stands in its slot, one of two, if it is in the set
abbrev pub AreSlotted : List Bool → List ℕ → List ℕ → Bool → Type 0
AreSlotted flags slots others have =
    have ≡ true → (b : ℕ) → b < 256 → in_slots slots others b ≡ is_in flags b

-- where the slots are those of the set alone, a byte stands in the slot of its low half if it is in
-- the set
abbrev pub AreSlottedAlone : List Bool → List ℕ → Bool → Type 0
AreSlottedAlone flags slots alone =
    alone ≡ true → (b : ℕ) → b < 256 → is_slotted slots b ≡ is_in flags b
