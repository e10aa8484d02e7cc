use Rattle.std.proofs.Common.{ℕ, ◌+◌, ◌==◌, List, count_ones, drop, ap, ◌∙◌, arith}
use lib.Lanes.{chunk}
use Rattle.tokei_bytes.specs.Lines.{blank_after, front_count, newline_count}
use Rattle.tokei_bytes.proofs.LineSums.{told, flag_small, ones_fronts, ones_newlines, block_fronts, block_newlines, newlines_fit, fronts_fit_in}
use Rattle.tokei_bytes.proofs.lines.count_blocks.Goals as goal

pub loop-at-preserved : goal.loop-at-preserved
loop-at-preserved c =
    let text : List ℕ = c.args.text.now in
    let at : ℕ = c.loop-at.at in
    let e = c.line_masks-lines.ensures in
    let i = c.loop-at.invariant in
    let block : List ℕ = chunk at 32 text in
    let blank = c.loop-at.blank == 1 in
    let left : List ℕ = drop (at + 32) text in
    let newlines = ap count_ones e.newlines ∙ ones_newlines block in
    let fronts = ap count_ones e.fronts ∙ ones_fronts block blank in
    let behind = ap (λ x. front_count (x == 1) left) e.blank ∙ ap (λ x. front_count x left) (told (blank_after blank block)) in
    record {
      low = omega (arith, i.low);
      high = omega (arith, i.high, c.loop-at-test.true);
      flag = omega (arith, e.blank, flag_small (blank_after blank block));
      newlines = omega (arith, i.newlines, block_newlines text at, newlines);
      fronts = omega (arith, i.fronts, block_fronts text at blank, fronts, behind);
    }

pub overflow_add-newlines : goal.overflow_add-newlines
overflow_add-newlines c =
    let text : List ℕ = c.args.text.now in
    let at : ℕ = c.loop-at.at in
    let newlines = ap count_ones c.line_masks-lines.ensures.newlines ∙ ones_newlines (chunk at 32 text) in
    let few = newlines_fit text c.args.from (c.loop-at.newlines + count_ones c.line_masks-lines.result.newlines) (newline_count (drop (at + 32) text))
    (omega (arith, c.loop-at.invariant.newlines, block_newlines text at, newlines)) in
    omega (arith, few)

pub overflow_add-fronts : goal.overflow_add-fronts
overflow_add-fronts c =
    let text : List ℕ = c.args.text.now in
    let at : ℕ = c.loop-at.at in
    let blank = c.loop-at.blank == 1 in
    let block : List ℕ = chunk at 32 text in
    let fronts = ap count_ones c.line_masks-lines.ensures.fronts ∙ ones_fronts block blank in
    let few = fronts_fit_in text c.args.from (c.loop-at.fronts + count_ones c.line_masks-lines.result.fronts)
    (front_count (blank_after blank block) (drop (at + 32) text))
    (omega (arith, c.loop-at.invariant.fronts, block_fronts text at blank, fronts)) in
    omega (arith, few)
