use Rattle.std.proofs.Common.{sym, ◌∙◌, arith}
use Rattle.tokei_parts.specs.LineMarks.{is_marked}
use Rattle.tokei_count.proofs.LastLines.{front_behind_blanks, marked_byte, none_behind_blanks, seen_inside}
use Rattle.tokei_count.proofs.line_look.marks_behind.Goals as goal

pub returns-then-head-look : goal.returns-then-head-look
returns-then-head-look c =
    let look = c.requires.look in
    let head = c.blanks_end-head in
    let is_mark = is_marked c.args.ahead.now.marks.now in
    let text = c.args.ahead.now.reading.now.text.now in
    let start = c.args.ahead.now.start in
    sym (none_behind_blanks is_mark text start c.args.look.stop c.args.look.at c.requires.some look.order look.high (look.begun c.requires.some) look.on
    head.result head.ensures.low head.ensures.high head.ensures.blank head.ensures.found (omega (arith, c.if-head-look.true)))

pub returns : goal.returns
returns c =
    let look = c.requires.look in
    let head = c.blanks_end-head in
    let is_mark = is_marked c.args.ahead.now.marks.now in
    let text = c.args.ahead.now.reading.now.text.now in
    let start = c.args.ahead.now.start in
    marked_byte c.has.result _ c.has.ensures
    ∙ sym (front_behind_blanks is_mark text start c.args.look.stop c.args.look.at c.requires.some look.order look.high (look.begun c.requires.some) look.on
    head.result head.ensures.low head.ensures.high head.ensures.blank head.ensures.found (seen_inside head.result c.args.look.at head.ensures.high c.if-head-look.false))
