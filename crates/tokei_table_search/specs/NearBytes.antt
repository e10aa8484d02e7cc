-- The few bytes that are searched for at once.
use Rattle.std.specs.Prelude.{◌≡◌, ℕ, List, Option, IfSome}
use Rattle.tokei_bytes.specs.OneOf.{is_one_of}
use Rattle.tokei_bytes.specs.Slots.{is_slotted}

-- Both lists have the same bytes.
abbrev pub SameBytes : List ℕ → List ℕ → Type 0
SameBytes near firsts = (x : ℕ) → is_one_of near x ≡ is_one_of firsts x

-- The bytes that are searched for at once are the first bytes, where there are few enough.
abbrev pub AreNear : Option (List ℕ) → List ℕ → Type 0
AreNear near firsts = IfSome near (λ n. SameBytes n firsts)

-- The bytes that stand in their slots are those of the list.
abbrev pub SameSlotted : List ℕ → List ℕ → Type 0
SameSlotted slots firsts = (x : ℕ) → is_slotted slots x ≡ is_one_of firsts x

-- The slots are those of the first bytes, where each of these has one.
abbrev pub AreSlots : Option (List ℕ) → List ℕ → Type 0
AreSlots slots firsts = IfSome slots (λ s. SameSlotted s firsts)
