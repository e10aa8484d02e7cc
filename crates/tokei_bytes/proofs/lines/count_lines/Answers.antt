use Rattle.std.proofs.Common.{drop, arith}
use Rattle.std.proofs.lemmas.Grind.{common_steps}
use Rattle.tokei_bytes.specs.Lines.{front_count, newline_count}
use Rattle.tokei_bytes.proofs.LineSums.{newlines_fit, fronts_fit_in, all_lines, lines_enough, lines_few}
use Rattle.tokei_bytes.proofs.lines.count_lines.Goals as goal

pub overflow_add-newlines : goal.overflow_add-newlines
overflow_add-newlines c = omega (arith, newlines_fit c.args.text.now c.args.from c.loop-at.newlines (newline_count (drop c.loop-at.at c.args.text.now)) c.loop-at.invariant.newlines)

pub overflow_add-fronts : goal.overflow_add-fronts
overflow_add-fronts c = omega (arith, fronts_fit_in c.args.text.now c.args.from c.loop-at.fronts (front_count c.loop-at.blank (drop c.loop-at.at c.args.text.now)) c.loop-at.invariant.fronts)

pub overflow_add-lines : goal.overflow_add-lines
overflow_add-lines c = omega (
  arith,
  lines_few c.args.text.now c.args.from c.loop-at.at c.loop-at.newlines c.loop-at.fronts c.loop-at.blank c.goes_on.result (omega (arith, c.loop-at-test.false))
      c.loop-at.invariant.newlines c.loop-at.invariant.fronts c.goes_on.ensures,
)

pub overflow_sub-result : goal.overflow_sub-result
overflow_sub-result c = lines_enough c.args.text.now c.args.from c.loop-at.at c.loop-at.newlines c.loop-at.fronts c.loop-at.blank c.goes_on.result (omega (arith, c.loop-at-test.false))
    c.loop-at.invariant.newlines c.loop-at.invariant.fronts c.goes_on.ensures

pub returns-clause-all : goal.returns-clause-all
returns-clause-all c =
    let a = c.args in
    let l = c.loop-at in
    let i = l.invariant in
    let g = c.goes_on in
    omega (
      arith,
      all_lines a.text.now a.from l.at l.newlines l.fronts l.blank g.result (omega (arith, c.loop-at-test.false)) i.newlines i.fronts g.ensures,
      lines_enough a.text.now a.from l.at l.newlines l.fronts l.blank g.result (omega (arith, c.loop-at-test.false)) i.newlines i.fronts g.ensures,
    )

pub loop-at-preserved : goal.loop-at-preserved
loop-at-preserved c = grind (arith, common_steps)

pub returns-clause-solid : goal.returns-clause-solid
returns-clause-solid c = grind (arith, common_steps)
