use Rattle.std.proofs.Common.{◌≡◌, ℕ, ◌-◌, ◌<◌, ◌≤◌, ◌==◌, ◌||◌, false, slice_index}
use Rattle.tokei_bytes.specs.ByteSets.{is_in}
use Rattle.tokei_bytes.proofs.bit_set.BitSet.clear_end_with.Given as goal

abbrev pub invariant-loop-at : goal.invariant-loop-at
invariant-loop-at l = record {
  low : l.from ≤ l.at;
  high : l.at ≤ l.to;
  passed : (p : ℕ) → l.from ≤ p → p < l.at → (slice_index l.text p == l.other || is_in l.self (slice_index l.text p)) ≡ false;
}

abbrev pub decreases-loop-at : goal.decreases-loop-at
decreases-loop-at l = l.to - l.at
