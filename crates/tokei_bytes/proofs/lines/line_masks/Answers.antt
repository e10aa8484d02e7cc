use Rattle.std.proofs.Common.{arith}
use Rattle.tokei_bytes.proofs.Carries.{blanks_low, newlines_low, carried_out, fronts_are}
use Rattle.tokei_bytes.proofs.lines.line_masks.Goals as goal

pub overflow_sub-solids : goal.overflow_sub-solids
overflow_sub-solids c = blanks_low c.args.text.now c.args.from c.args.blank c.blank_marks-blanks.result c.marks_of_one-newlines.result
    c.requires.within c.requires.flag c.blank_marks-blanks.ensures c.marks_of_one-newlines.ensures

pub overflow_add-carried : goal.overflow_add-carried
overflow_add-carried c =
    let w = blanks_low c.args.text.now c.args.from c.args.blank c.blank_marks-blanks.result c.marks_of_one-newlines.result c.requires.within
    c.requires.flag c.blank_marks-blanks.ensures c.marks_of_one-newlines.ensures in
    let n = newlines_low c.args.text.now c.args.from c.args.blank c.blank_marks-blanks.result c.marks_of_one-newlines.result c.requires.within
    c.requires.flag c.blank_marks-blanks.ensures c.marks_of_one-newlines.ensures in
    omega (arith, w, n)

pub overflow_add-carried-2 : goal.overflow_add-carried-2
overflow_add-carried-2 c =
    let w = blanks_low c.args.text.now c.args.from c.args.blank c.blank_marks-blanks.result c.marks_of_one-newlines.result c.requires.within
    c.requires.flag c.blank_marks-blanks.ensures c.marks_of_one-newlines.ensures in
    let n = newlines_low c.args.text.now c.args.from c.args.blank c.blank_marks-blanks.result c.marks_of_one-newlines.result c.requires.within
    c.requires.flag c.blank_marks-blanks.ensures c.marks_of_one-newlines.ensures in
    omega (arith, w, n, c.requires.flag)

pub returns-clause-fronts : goal.returns-clause-fronts
returns-clause-fronts c = fronts_are c.args.text.now c.args.from c.args.blank c.blank_marks-blanks.result c.marks_of_one-newlines.result
    c.requires.within c.requires.flag c.blank_marks-blanks.ensures c.marks_of_one-newlines.ensures

pub returns-clause-blank : goal.returns-clause-blank
returns-clause-blank c = carried_out c.args.text.now c.args.from c.args.blank c.blank_marks-blanks.result c.marks_of_one-newlines.result
    c.requires.within c.requires.flag c.blank_marks-blanks.ensures c.marks_of_one-newlines.ensures
