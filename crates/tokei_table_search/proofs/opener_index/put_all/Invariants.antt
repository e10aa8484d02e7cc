use Rattle.std.proofs.Common.{◌≡◌, ◌||◌, ℕ, take}
use Rattle.tokei_bytes.specs.OneOf.{is_one_of}
use Rattle.tokei_bytes.specs.Slots.{is_slotted}
use Rattle.tokei_table_search.proofs.opener_index.put_all.Given as goal

abbrev pub invariant-loop-byte : goal.invariant-loop-byte
invariant-loop-byte l =
    (x : ℕ) → is_slotted l.slots x ≡ (is_slotted l.initial.slots x || is_one_of (take l.byte-index l.bytes) x)
