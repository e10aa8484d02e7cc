use Rattle.std.proofs.Common.{ℕ, ◌+◌, List, count_ones, drop, ap, ◌∙◌, arith}
use lib.Lanes.{chunk}
use Rattle.tokei_bytes.proofs.LineSums.{block_newlines, newlines_fit, ones_newlines}
use Rattle.tokei_bytes.specs.Lines.{newline_count}
use Rattle.tokei_count.proofs.newlines.count_newlines.Goals as goal

pub overflow_add-newlines : goal.overflow_add-newlines
overflow_add-newlines c =
    let text : List ℕ = c.args.text.now in
    let at : ℕ = c.loop-at.at in
    let newlines = ap count_ones c.line_masks.ensures.newlines ∙ ones_newlines (chunk at 32 text) in
    let few = newlines_fit text c.args.from (c.loop-at.newlines + count_ones c.line_masks.result.newlines) (newline_count (drop (at + 32) text))
    (omega (arith, c.loop-at.invariant.newlines, block_newlines text at, newlines)) in
    omega (arith, few)

pub loop-at-preserved : goal.loop-at-preserved
loop-at-preserved c =
    let text : List ℕ = c.args.text.now in
    let at : ℕ = c.loop-at.at in
    let i = c.loop-at.invariant in
    let newlines = ap count_ones c.line_masks.ensures.newlines ∙ ones_newlines (chunk at 32 text) in
    record {
      low = omega (arith, i.low);
      high = omega (arith, i.high, c.loop-at-test.true);
      newlines = omega (arith, i.newlines, block_newlines text at, newlines);
    }

pub overflow_add-newlines-then-text-at-eq10 : goal.overflow_add-newlines-then-text-at-eq10
overflow_add-newlines-then-text-at-eq10 c =
    let left : ℕ = newline_count (drop c.loop-at-2.at c.args.text.now) in
    omega (arith, newlines_fit c.args.text.now c.args.from c.loop-at-2.newlines left c.loop-at-2.invariant.newlines)
