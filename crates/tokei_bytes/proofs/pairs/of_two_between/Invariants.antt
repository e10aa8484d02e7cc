use Rattle.std.proofs.Common.{◌≡◌, ℕ, ◌-◌, ◌<◌, ◌≤◌, false, length, [], ◌∷◌}
use Rattle.tokei_bytes.specs.Pairs.{counts_at}
use Rattle.tokei_bytes.proofs.pairs.of_two_between.Given as goal

abbrev pub invariant-loop-at : goal.invariant-loop-at
invariant-loop-at l = record {
  low : l.from ≤ l.at;
  inside : l.from < l.at → l.at < length l.text;
  passed : (p : ℕ) → l.from ≤ p → p < l.at → counts_at (l.other ∷ l.first ∷ []) l.first (l.second ∷ []) l.text p ≡ false;
}

abbrev pub decreases-loop-at : goal.decreases-loop-at
decreases-loop-at l = length l.text - l.at
