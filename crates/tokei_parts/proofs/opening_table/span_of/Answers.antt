use Rattle.std.proofs.Common.{◌+◌, ◌∷◌, ap, arith, ◌∙◌, sym}
use Rattle.tokei_table_row.specs.Bytes.{begins}
use Rattle.tokei_parts.proofs.Spans.{span_passed, span_widened, span_begun, span_moved, short_span}
use Rattle.tokei_parts.proofs.opening_table.span_of.Goals as goal
use Rattle.tokei_parts.proofs.opening_table.span_of.Goals.{then-can_begin, then-to-eq0, else-to-eq0, else-can_begin}

pub loop-i-preserved : goal.loop-i-preserved
loop-i-preserved c =
    let all = c.args.all.now in
    let x = c.args.byte in
    let from = c.loop-i.from in
    let to = c.loop-i.to in
    let i = c.loop-i.i in
    let s = c.loop-i.invariant in
    elim c.if-can_begin.branch [
      | then-can_begin w ↦ elim w.if-to-eq0.branch [
        | then-to-eq0 v ↦ span_moved all x i (i + 1) (i + 1) c.if-can_begin.from c.if-can_begin.to (w.from-is ∙ v.from-is) w.to-is (span_begun all x from to i v.if-to-eq0.true s)
        | else-to-eq0 v ↦ span_moved all x from (i + 1) (i + 1) c.if-can_begin.from c.if-can_begin.to (w.from-is ∙ v.from-is) w.to-is (span_widened all x from to i s)
      ]
      | else-can_begin w ↦ span_moved all x from to (i + 1) c.if-can_begin.from c.if-can_begin.to w.from-is w.to-is
          (span_passed all x from to i c.index-all-i.result s c.loop-i-test.true c.index-all-i.is
          (λ t. ap (λ n. begins n (x ∷ t)) (sym c.token.ensures) ∙ c.can_begin.ensures w.if-can_begin.false t))
    ]

pub returns-then-to-lt255 : goal.returns-then-to-lt255
returns-then-to-lt255 c =
    short_span c.args.all.now c.args.byte c.loop-i.from c.loop-i.to c.loop-i.i c.loop-i.invariant (omega (arith, c.loop-i-test.false, c.loop-i.auto.i-end)) c.if-to-lt255.true
