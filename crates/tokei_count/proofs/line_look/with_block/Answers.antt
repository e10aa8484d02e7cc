use Rattle.std.proofs.Common.{◌==◌, arith}
use Rattle.tokei_parts.specs.LineMarks.{is_marked}
use Rattle.tokei_count.proofs.BlockLooks.{newlines_fit, fronts_fit, comments_fit, shows_on, shows_begun}
use Rattle.tokei_count.proofs.line_look.with_block.Goals as goal
use Rattle.tokei_count.proofs.line_look.with_block.Goals.{then-ended-eq0, else-ended-eq0}

pub overflow_add-result-2 : goal.overflow_add-result-2
overflow_add-result-2 c =
    let few = newlines_fit (is_marked c.args.ahead.now.marks.now) c.args.ahead.now.reading.now.text.now c.args.ahead.now.start c.args.look (c.args.blank == 1) c.args.lines c.args.marked c.args.gap
    c.requires.look c.requires.within c.requires.gap c.requires.blank c.requires.newlines c.requires.fronts c.requires.marked in
    omega (arith, few)

pub overflow_add-result-3 : goal.overflow_add-result-3
overflow_add-result-3 c =
    let few = fronts_fit (is_marked c.args.ahead.now.marks.now) c.args.ahead.now.reading.now.text.now c.args.ahead.now.start c.args.look (c.args.blank == 1) c.args.lines c.args.marked c.args.gap
    c.requires.look c.requires.within c.requires.gap c.requires.blank c.requires.newlines c.requires.fronts c.requires.marked in
    omega (arith, few)

pub overflow_add-result-4 : goal.overflow_add-result-4
overflow_add-result-4 c =
    let few = comments_fit (is_marked c.args.ahead.now.marks.now) c.args.ahead.now.reading.now.text.now c.args.ahead.now.start c.args.look (c.args.blank == 1) c.args.lines c.args.marked c.args.gap
    c.requires.look c.requires.within c.requires.gap c.requires.blank c.requires.newlines c.requires.fronts c.requires.marked in
    omega (arith, few)

pub returns-clause-look : goal.returns-clause-look
returns-clause-look c = elim c.if-ended-eq0.branch [
  | then-ended-eq0 w ↦
      shows_on (is_marked c.args.ahead.now.marks.now) c.args.ahead.now.reading.now.text.now c.args.ahead.now.start c.args.look (c.args.blank == 1) c.args.lines c.args.marked c.args.gap
      c.requires.look c.requires.within c.requires.gap c.requires.blank c.requires.newlines c.requires.fronts c.requires.marked
      c.if-ended-eq0.stop w.if-ended-eq0.true w.stop-is
  | else-ended-eq0 w ↦
      shows_begun (is_marked c.args.ahead.now.marks.now) c.args.ahead.now.reading.now.text.now c.args.ahead.now.start c.args.look (c.args.blank == 1) c.args.lines c.args.marked c.args.gap
      c.requires.look c.requires.within c.requires.gap c.requires.blank c.requires.newlines c.requires.fronts c.requires.marked
      c.if-ended-eq0.stop w.if-ended-eq0.false w.stop-is
]
