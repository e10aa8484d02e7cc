use Rattle.std.proofs.Common.{◌≡◌, ◌≤◌, ◌<◌, ◌-◌, ℕ, false, length, drop}
use Rattle.tokei_table_row.specs.Bytes.{begins_with_one}
use Rattle.tokei_table_search.proofs.opener_index.OpenerIndex.passed_by_pairs.Given as goal

abbrev pub invariant-loop-at : goal.invariant-loop-at
invariant-loop-at l = record {
  low : l.from ≤ l.at;
  within : l.at ≤ length l.text;
  none : (k : ℕ) → l.from ≤ k → k < l.at → begins_with_one l.self (drop k l.text) ≡ false;
}

abbrev pub decreases-loop-at : goal.decreases-loop-at
decreases-loop-at l = length l.text - l.at
