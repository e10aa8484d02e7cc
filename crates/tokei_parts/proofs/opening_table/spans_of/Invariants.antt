use Rattle.tokei_parts.specs.Spans.{AreSpans}
use Rattle.tokei_parts.proofs.opening_table.spans_of.Given as goal

abbrev pub invariant-loop-opening : goal.invariant-loop-opening
invariant-loop-opening l = AreSpans l.all l.spans
