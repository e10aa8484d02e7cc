use Rattle.std.proofs.Common.{◌≡◌, ◌+◌, ◌-◌, ◌≤◌, drop, length}
use Rattle.tokei_bytes.specs.Lines.{newline_count}
use Rattle.tokei_count.proofs.newlines.count_newlines.Given as goal

abbrev pub invariant-loop-at : goal.invariant-loop-at
invariant-loop-at l = record {
  low : l.from ≤ l.at;
  high : l.at ≤ length l.text;
  newlines : l.newlines + newline_count (drop l.at l.text) ≡ newline_count (drop l.from l.text);
}

abbrev pub decreases-loop-at : goal.decreases-loop-at
decreases-loop-at l = length l.text - l.at

abbrev pub invariant-loop-at-2 : goal.invariant-loop-at-2
invariant-loop-at-2 l = record {
  low : l.from ≤ l.at;
  high : l.at ≤ length l.text;
  newlines : l.newlines + newline_count (drop l.at l.text) ≡ newline_count (drop l.from l.text);
}

abbrev pub decreases-loop-at-2 : goal.decreases-loop-at-2
decreases-loop-at-2 l = length l.text - l.at
