-- Bytes in slots: at each low half of a byte the one that has it, or a byte with another.
use Rattle.std.specs.Prelude.{◌≡◌, ℕ, ◌%◌, ◌<◌, ◌==◌, ◌&&◌, ◌||◌, not, Bool, List, length, slice_index}

-- Whether the byte stands in the slot of its low half.
abbrev pub is_slotted : List ℕ → ℕ → Bool
is_slotted slots byte = slice_index slots (byte % 16) == byte

-- Whether the slot of its low half has room for the byte: it holds the byte itself, or none.
abbrev pub has_room : List ℕ → ℕ → Bool
has_room slots byte =
    is_slotted slots byte || not (slice_index slots (byte % 16) % 16 == byte % 16)

-- Whether it stands in one of two.
abbrev pub in_slots : List ℕ → List ℕ → ℕ → Bool
in_slots slots others byte = is_slotted slots byte || is_slotted others byte

-- Whether a token can begin with the two bytes: the first of them tells alone, or with the other.
abbrev pub is_told : List ℕ → List ℕ → List ℕ → ℕ → ℕ → Bool
is_told alone firsts seconds byte y =
    is_slotted alone byte || (is_slotted firsts byte && is_slotted seconds y)

-- A vector of 32 bytes holds the slots twice.
pub record HasSlots (slots lanes : List ℕ) : Type 0 where
  pub long : length lanes ≡ 32
  pub each : (k : ℕ) → k < 32 → slice_index lanes k ≡ slice_index slots (k % 16)
