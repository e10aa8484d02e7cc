use Rattle.std.proofs.Common.{◌≡◌, ◌≤◌, ◌<◌, ◌+◌, ◌-◌, ℕ, false, length, get_or}
use Rattle.tokei_bytes.specs.ByteSets.{is_in}
use Rattle.tokei_table_search.proofs.opener_group.OpenerGroup.passed.Given as goal

abbrev pub invariant-loop-at : goal.invariant-loop-at
invariant-loop-at l = record {
  low : l.from ≤ l.at;
  within : l.at ≤ length l.text;
  inside : l.from < l.at → l.at < length l.text;
  run : (k : ℕ) → l.from ≤ k → k < l.at → get_or l.text k 0 ≡ l.byte;
  none : (k : ℕ) → l.from ≤ k → k < l.at → is_in l.self.seconds (get_or l.text (k + 1) 0) ≡ false;
}

abbrev pub decreases-loop-at : goal.decreases-loop-at
decreases-loop-at l = length l.text - l.at
