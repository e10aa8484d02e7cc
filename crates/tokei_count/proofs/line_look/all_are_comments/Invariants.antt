use Rattle.std.proofs.Common.{◌≡◌, ◌+◌, ◌-◌, ◌<◌, ◌≤◌, ℕ}
use Rattle.std.specs.Int.{bit_at}
use Rattle.tokei_table.specs.RowOf.{row_of}
use Rattle.tokei_count.specs.LineLooks.{HasLineComment}
use Rattle.tokei_count.proofs.line_look.all_are_comments.Given as goal

abbrev pub invariant-loop-gap : goal.invariant-loop-gap
invariant-loop-gap l = record {
  high : l.gap ≤ 32;
  each : (k : ℕ) → k < l.gap → bit_at l.heads k ≡ 1 → HasLineComment (row_of l.syntax) l.text (l.from + k);
}

abbrev pub decreases-loop-gap : goal.decreases-loop-gap
decreases-loop-gap l = 32 - l.gap
