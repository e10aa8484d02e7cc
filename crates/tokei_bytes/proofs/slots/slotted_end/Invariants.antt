use Rattle.std.proofs.Common.{◌≡◌, ℕ, ◌-◌, ◌<◌, ◌≤◌, false, length, slice_index}
use Rattle.tokei_bytes.specs.Slots.{in_slots}
use Rattle.tokei_bytes.proofs.slots.slotted_end.Given as goal

abbrev pub invariant-loop-at : goal.invariant-loop-at
invariant-loop-at l = record {
  low : l.from ≤ l.at;
  high : l.at ≤ length l.text;
  passed : (p : ℕ) → l.from ≤ p → p < l.at → in_slots l.slots l.others (slice_index l.text p) ≡ false;
}

abbrev pub decreases-loop-at : goal.decreases-loop-at
decreases-loop-at l = length l.text - l.at
