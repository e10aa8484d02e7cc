use Rattle.std.proofs.Common.{◌≡◌, ℕ, ◌-◌, ◌<◌, ◌≤◌, false, take, drop}
use Rattle.tokei_table_row.specs.Bytes.{begins}
use Rattle.tokei_embedding.specs.Fences.{fence}
use Rattle.tokei_embedding.proofs.fences.next_backticks.Given as goal

abbrev pub invariant-loop-at : goal.invariant-loop-at
invariant-loop-at l = record {
  low : l.from ≤ l.at;
  high : l.at ≤ l.to;
  none : (p : ℕ) → l.from ≤ p → p < l.at → begins fence (drop p (take l.to l.text)) ≡ false;
}

abbrev pub decreases-loop-at : goal.decreases-loop-at
decreases-loop-at l = l.to - l.at
