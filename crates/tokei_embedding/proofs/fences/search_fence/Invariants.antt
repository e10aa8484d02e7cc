use Rattle.std.proofs.Common.{◌≡◌, ℕ, ◌-◌, ◌<◌, ◌≤◌, false, take, drop}
use Rattle.tokei_embedding.specs.Fences.{opens_fence}
use Rattle.tokei_embedding.proofs.fences.search_fence.Given as goal

abbrev pub invariant-loop-at : goal.invariant-loop-at
invariant-loop-at l = record {
  low : l.from ≤ l.at;
  high : l.at ≤ l.to;
  none : (j : ℕ) → j < l.at - l.from → opens_fence (drop j (take (l.to - l.from) (drop l.from l.text))) ≡ false;
}

abbrev pub decreases-loop-at : goal.decreases-loop-at
decreases-loop-at l = l.to - l.at
