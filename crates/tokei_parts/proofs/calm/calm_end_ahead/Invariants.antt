use Rattle.std.proofs.Common.{◌-◌, ◌≤◌, length}
use Rattle.tokei_parts.specs.Calm.{IsCalm}
use Rattle.tokei_parts.specs.ReadingOf.{row_in}
use Rattle.tokei_parts.proofs.calm.calm_end_ahead.Given as goal

abbrev pub invariant-loop-next : goal.invariant-loop-next
invariant-loop-next l = record {
  low : l.at ≤ l.next;
  high : l.next ≤ length l.reading.text.now;
  calm : IsCalm (row_in l.reading) l.item l.reading.text.now l.at l.next;
}

abbrev pub decreases-loop-next : goal.decreases-loop-next
decreases-loop-next l = length l.reading.text.now - l.next
