use Rattle.std.proofs.Common.{◌≡◌, ◌+◌, ◌-◌, ◌<◌, ◌≤◌, ℕ, false, drop}
use Rattle.tokei_table_row.specs.Bytes.{begins_with_one}
use Rattle.tokei_count.proofs.line_look.gap_to_marked.Given as goal

abbrev pub invariant-loop-gap : goal.invariant-loop-gap
invariant-loop-gap l = record {
  high : l.gap ≤ 32;
  clear : (k : ℕ) → k < l.gap → begins_with_one l.matchers.openers (drop (l.from + k) l.text) ≡ false;
}

abbrev pub decreases-loop-gap : goal.decreases-loop-gap
decreases-loop-gap l = 32 - l.gap
