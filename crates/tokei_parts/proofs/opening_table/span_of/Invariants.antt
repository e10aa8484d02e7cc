use Rattle.tokei_parts.proofs.Spans.{IsSpanBefore}
use Rattle.tokei_parts.proofs.opening_table.span_of.Given as goal

abbrev pub invariant-loop-i : goal.invariant-loop-i
invariant-loop-i l = IsSpanBefore l.all l.byte l.from l.to l.i
