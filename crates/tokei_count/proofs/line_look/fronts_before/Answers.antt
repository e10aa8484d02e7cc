use Rattle.std.proofs.Common.{◌∙◌, arith}
use Rattle.tokei_parts.specs.LineMarks.{is_marked}
use Rattle.tokei_count.proofs.LastLines.{marks_before, told_blank, told_front, with_front, without_front}
use Rattle.tokei_count.proofs.line_look.fronts_before.Goals as goal

pub returns-then-blank-eq1-clause-fronts : goal.returns-then-blank-eq1-clause-fronts
returns-then-blank-eq1-clause-fronts c =
    let look = c.requires.look in
    let ahead = c.args.ahead.now in
    let is_mark = is_marked ahead.marks.now in
    let text = ahead.reading.now.text.now in
    look.fronts ∙ (without_front is_mark text ahead.start c.args.look.stop c.args.look.at c.requires.some look.order look.high (look.begun c.requires.some) look.on
    (told_blank c.args.blank _ c.requires.blank c.if-blank-eq1.true)).0

pub returns-then-blank-eq1-clause-marks : goal.returns-then-blank-eq1-clause-marks
returns-then-blank-eq1-clause-marks c =
    let look = c.requires.look in
    let ahead = c.args.ahead.now in
    let is_mark = is_marked ahead.marks.now in
    let text = ahead.reading.now.text.now in
    look.comments ∙ (without_front is_mark text ahead.start c.args.look.stop c.args.look.at c.requires.some look.order look.high (look.begun c.requires.some) look.on
    (told_blank c.args.blank _ c.requires.blank c.if-blank-eq1.true)).1

pub overflow_sub-fronts : goal.overflow_sub-fronts
overflow_sub-fronts c =
    let look = c.requires.look in
    let ahead = c.args.ahead.now in
    let is_mark = is_marked ahead.marks.now in
    let text = ahead.reading.now.text.now in
    omega (
      arith,
      look.fronts,
      with_front is_mark text ahead.start c.args.look.stop c.args.look.at c.requires.some look.order look.high (look.begun c.requires.some) look.on
          (told_front c.args.blank _ c.requires.blank c.if-blank-eq1.false),
    )

pub returns-then-look-eq0-clause-fronts : goal.returns-then-look-eq0-clause-fronts
returns-then-look-eq0-clause-fronts c =
    let look = c.requires.look in
    let ahead = c.args.ahead.now in
    let is_mark = is_marked ahead.marks.now in
    let text = ahead.reading.now.text.now in
    omega (
      arith,
      look.fronts,
      with_front is_mark text ahead.start c.args.look.stop c.args.look.at c.requires.some look.order look.high (look.begun c.requires.some) look.on
          (told_front c.args.blank _ c.requires.blank c.if-blank-eq1.false),
    )

pub returns-then-look-eq0-clause-marks : goal.returns-then-look-eq0-clause-marks
returns-then-look-eq0-clause-marks c =
    let look = c.requires.look in
    let ahead = c.args.ahead.now in
    let is_mark = is_marked ahead.marks.now in
    let text = ahead.reading.now.text.now in
    omega (arith, look.comments, c.if-look-eq0.true, marks_before is_mark text ahead.start c.args.look.stop c.args.look.at c.requires.some look.order look.high (look.begun c.requires.some) look.on)

pub overflow_sub-result : goal.overflow_sub-result
overflow_sub-result c =
    let look = c.requires.look in
    let ahead = c.args.ahead.now in
    let is_mark = is_marked ahead.marks.now in
    let text = ahead.reading.now.text.now in
    let before =
    marks_before is_mark text ahead.start c.args.look.stop c.args.look.at c.requires.some look.order look.high
    (look.begun c.requires.some) look.on in
    omega (arith, look.comments, c.marks_behind.ensures, before)

pub returns-clause-fronts : goal.returns-clause-fronts
returns-clause-fronts c =
    let look = c.requires.look in
    let ahead = c.args.ahead.now in
    let is_mark = is_marked ahead.marks.now in
    let text = ahead.reading.now.text.now in
    omega (
      arith,
      look.fronts,
      with_front is_mark text ahead.start c.args.look.stop c.args.look.at c.requires.some look.order look.high (look.begun c.requires.some) look.on
          (told_front c.args.blank _ c.requires.blank c.if-blank-eq1.false),
    )

pub returns-clause-marks : goal.returns-clause-marks
returns-clause-marks c =
    let look = c.requires.look in
    let ahead = c.args.ahead.now in
    let is_mark = is_marked ahead.marks.now in
    let text = ahead.reading.now.text.now in
    let before =
    marks_before is_mark text ahead.start c.args.look.stop c.args.look.at c.requires.some look.order look.high
    (look.begun c.requires.some) look.on in
    omega (arith, look.comments, c.marks_behind.ensures, before)
