use Rattle.std.proofs.Common.{◌≡◌, ℕ, ◌-◌, ◌<◌, ◌≤◌, false, get_or}
use Rattle.tokei_bytes.specs.Slots.{is_slotted}
use Rattle.tokei_bytes.proofs.slots.first_slotted.Given as goal

abbrev pub invariant-loop-at : goal.invariant-loop-at
invariant-loop-at l = (l.from ≤ l.at) × ((p : ℕ) → l.from ≤ p → p < l.at → is_slotted l.slots (get_or l.text p 0) ≡ false)

abbrev pub decreases-loop-at : goal.decreases-loop-at
decreases-loop-at l = l.to - l.at
