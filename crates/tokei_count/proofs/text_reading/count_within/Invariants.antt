use Rattle.std.proofs.Common.{◌+◌, ◌-◌, ◌≤◌}
use Rattle.tokei_count.specs.UnderWay.{IsUnderWay}
use Rattle.tokei_stats.specs.Seen.{sums_of}
use Rattle.tokei_stats.specs.Statistics.{lines_of}
use Rattle.tokei_count.proofs.CalmLines.{gone_within}
use Rattle.tokei_count.proofs.text_reading.count_within.Given as goal

abbrev pub invariant-loop-next : goal.invariant-loop-next
invariant-loop-next l = record {
  under_way : IsUnderWay l.reading (gone_within l.so_far l.within l.next);
  few : l.so_far.start + lines_of (sums_of l.within) ≤ l.next;
  low : l.so_far.start ≤ l.next;
  high : l.next ≤ l.to;
}

abbrev pub decreases-loop-next : goal.decreases-loop-next
decreases-loop-next l = l.to - l.next
