-- An index of patterns by their keys: each has a slot, and each slot leads to its last pattern,
-- each pattern to the one before it in its slot.
use Rattle.std.specs.Prelude.{◌≡◌, ℕ, suc, zero, ◌+◌, ◌-◌, ◌%◌, ◌<◌, ◌==◌, ◌&&◌, List, [], ◌∷◌, Bool, false, Option, Some, None, if◌then◌else◌, length, take, slice_index_or}
use Rattle.tokei_ignore.specs.declared.patterns.Pattern.{Pattern}
use Rattle.tokei_ignore.specs.Patterns.{fits_entry}
use Rattle.tokei_ignore.specs.Keys.{pattern_key}

-- so many patterns have an index; fewer are tried one by one
abbrev pub indexed_from : ℕ
indexed_from = 16

-- a place behind one more first item; zero is none
abbrev pub behind : Bool → ℕ → ℕ
behind first zero = if first then 1 else 0
behind first (suc n) = suc (suc n)

-- the place of the last item that passes, counted from one, or zero
abbrev pub last_place : {X : Type 0} → (X → Bool) → List X → ℕ
last_place test [] = 0
last_place test (x ∷ xs) = behind (test x) (last_place test xs)

-- the slot of a key among so many; what has no key has one of its own
abbrev pub slot_of : ℕ → Option ℕ → ℕ
slot_of count None = 0
slot_of count (Some k) = k % count + 1

-- the pattern is one of the slot
abbrev pub has_slot : ℕ → ℕ → Pattern → Bool
has_slot count slot pattern = slot_of count (pattern_key pattern) == slot

-- the pattern is one of the key's slot
abbrev pub has_key : ℕ → Option ℕ → Pattern → Bool
has_key count None pattern = false
has_key count (Some k) pattern = has_slot count (slot_of count (Some k)) pattern

-- the place of the last pattern of a slot that fits
unfoldable pub latest_in : ℕ → ℕ → List Pattern → List (List ℕ) → Bool → ℕ
latest_in count slot ps names folder =
    last_place (λ p. has_slot count slot p && fits_entry p names folder) ps

-- the place of the last pattern of a key's slot that fits
unfoldable pub latest_of : ℕ → Option ℕ → List Pattern → List (List ℕ) → Bool → ℕ
latest_of count key ps names folder =
    last_place (λ p. has_key count key p && fits_entry p names folder) ps

-- the place of the last pattern that fits
unfoldable pub latest_fitting : List Pattern → List (List ℕ) → Bool → ℕ
latest_fitting ps names folder = last_place (λ p. fits_entry p names folder) ps

-- where each slot leads, and each pattern
pub record IsIndex (ps : List Pattern) (heads earlier : List ℕ) : Type 0 where
  pub some : 1 < length heads
  pub each : length earlier ≡ length ps
  pub head : (s : ℕ) → s < length heads
      → slice_index_or heads s 0 ≡ last_place (has_slot (length heads - 1) s) ps
  pub link : (i : ℕ) (d : Pattern) → i < length ps
      → slice_index_or earlier i 0
      ≡ last_place (has_slot (length heads - 1)
      (slot_of (length heads - 1) (pattern_key (slice_index_or ps i d)))) (take i ps)
