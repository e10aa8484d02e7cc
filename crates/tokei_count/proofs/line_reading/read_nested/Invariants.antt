use Rattle.std.proofs.Common.{◌≤◌, ◌-◌, length}
use Rattle.tokei_count.specs.UnderWay.{IsUnderWay}
use Rattle.tokei_count.proofs.line_reading.read_nested.Given as goal

abbrev pub invariant-loop-so_far : goal.invariant-loop-so_far
invariant-loop-so_far l = record {
  under_way : IsUnderWay l.reading l.so_far;
  low : l.fn.so_far.start ≤ l.so_far.start;
}

abbrev pub decreases-loop-so_far : goal.decreases-loop-so_far
decreases-loop-so_far l = length l.reading.text.now - l.so_far.start
