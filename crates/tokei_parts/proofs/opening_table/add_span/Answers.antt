use Rattle.std.proofs.Common.{set, subst, sym}
use Rattle.tokei_parts.specs.Spans.{AreSpans}
use Rattle.tokei_parts.proofs.Spans.{one_put}
use Rattle.tokei_parts.proofs.opening_table.add_span.Goals as goal

pub returns-then-spans-place : goal.returns-then-spans-place
returns-then-spans-place c = subst (λ n. AreSpans c.args.all.now (set c.args.spans.now n c.span_of.result)) (sym c.from-place.ensures)
    (one_put c.args.all.now c.args.spans.now c.args.byte c.span_of.result c.told-spans c.requires c.span_of.ensures)
