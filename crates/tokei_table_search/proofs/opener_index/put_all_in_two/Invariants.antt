use Rattle.std.proofs.Common.{◌≡◌, ◌||◌, ℕ, take}
use Rattle.tokei_bytes.specs.OneOf.{is_one_of}
use Rattle.tokei_bytes.specs.Slots.{in_slots}
use Rattle.tokei_table_search.proofs.opener_index.put_all_in_two.Given as goal

abbrev pub invariant-loop-byte : goal.invariant-loop-byte
invariant-loop-byte l =
    (x : ℕ)
    → in_slots l.slots l.others x ≡ (in_slots l.initial.slots l.initial.others x || is_one_of (take l.byte-index l.bytes) x)
