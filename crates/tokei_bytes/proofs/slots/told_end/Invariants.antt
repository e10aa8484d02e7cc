use Rattle.std.proofs.Common.{◌≡◌, ℕ, ◌+◌, ◌-◌, ◌<◌, ◌≤◌, false, length, slice_index}
use Rattle.tokei_bytes.specs.Slots.{is_told}
use Rattle.tokei_bytes.proofs.slots.told_end.Given as goal

abbrev pub invariant-loop-at : goal.invariant-loop-at
invariant-loop-at l = record {
  low : l.from ≤ l.at;
  inside : l.from < l.at → l.at < length l.text;
  passed : (p : ℕ) → l.from ≤ p → p < l.at
      → is_told l.alone l.firsts l.seconds (slice_index l.text p) (slice_index l.text (p + 1)) ≡ false;
}

abbrev pub decreases-loop-at : goal.decreases-loop-at
decreases-loop-at l = length l.text - l.at
