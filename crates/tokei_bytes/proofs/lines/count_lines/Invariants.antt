use Rattle.std.proofs.Common.{◌≡◌, ◌+◌, ◌-◌, ◌≤◌, true, drop, length}
use Rattle.tokei_bytes.specs.Lines.{front_count, newline_count}
use Rattle.tokei_bytes.proofs.lines.count_lines.Given as goal

abbrev pub invariant-loop-at : goal.invariant-loop-at
invariant-loop-at l = record {
  low : l.from ≤ l.at;
  high : l.at ≤ length l.text;
  newlines : l.newlines + newline_count (drop l.at l.text) ≡ newline_count (drop l.from l.text);
  fronts : l.fronts + front_count l.blank (drop l.at l.text) ≡ front_count true (drop l.from l.text);
}

abbrev pub decreases-loop-at : goal.decreases-loop-at
decreases-loop-at l = length l.text - l.at
