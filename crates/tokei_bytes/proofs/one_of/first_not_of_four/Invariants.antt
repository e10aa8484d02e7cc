use Rattle.std.proofs.Common.{◌≡◌, ℕ, ◌-◌, ◌<◌, ◌≤◌, false, get_or}
use Rattle.tokei_bytes.specs.OneOf.{is_none_of}
use Rattle.tokei_bytes.proofs.one_of.first_not_of_four.Given as goal

abbrev pub invariant-loop-at : goal.invariant-loop-at
invariant-loop-at l = (l.from ≤ l.at) × ((p : ℕ) → l.from ≤ p → p < l.at → is_none_of l.bytes (get_or l.text p 0) ≡ false)

abbrev pub decreases-loop-at : goal.decreases-loop-at
decreases-loop-at l = l.to - l.at
