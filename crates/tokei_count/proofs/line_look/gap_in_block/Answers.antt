use Rattle.std.proofs.Common.{◌^◌, ◌<◌, ap, ◌∙◌, arith}
use Rattle.std.specs.List.{list_all}
use Rattle.tokei_table.specs.FirstOpener.{is_nonempty}
use Rattle.tokei_table_rules.proofs.Nonempty.{openers_nonempty}
use Rattle.tokei_parts.specs.ReadingOf.{openers_in, row_in}
use Rattle.tokei_parts.specs.LineMarks.{is_marked}
use Rattle.tokei_count.proofs.LookedAhead.{clear_from, marks_small, none_marked}
use Rattle.tokei_count.proofs.SetBits.{first_within, unset_first}
use Rattle.tokei_count.proofs.ToldPlaces.{none_can}
use Rattle.tokei_count.proofs.UnderWay.{openers_are}
use Rattle.tokei_count.proofs.line_look.gap_in_block.Goals as goal

pub gap_to_opener-requires-clause-small : goal.gap_to_opener-requires-clause-small
gap_to_opener-requires-clause-small c =
    let is_mark = is_marked c.args.ahead.now.marks.now in
    let text = c.args.ahead.now.reading.now.text.now in
    c.can_open-can.ensures.low (omega (arith, c.requires.marked, marks_small is_mark text c.args.from c.requires.within))

pub gap_to_opener-requires-clause-others : goal.gap_to_opener-requires-clause-others
gap_to_opener-requires-clause-others c =
    let r = c.args.ahead.now.reading.now in
    let can = c.can_open-can in
    let marks = c.args.ahead.now.marks.now in
    let all = ap (list_all is_nonempty) (openers_are r) ∙ openers_nonempty (row_in r) c.args.ahead.now.tokens in
    none_can (openers_in r) (is_marked marks) r.text.now marks.tellers c.args.from c.args.marked can.result all
    c.args.ahead.now.marked.slots.none c.args.ahead.now.marked.tellers c.requires.within c.requires.marked can.ensures.marked can.ensures.last

pub opener_stands-requires : goal.opener_stands-requires
opener_stands-requires c =
    let is_mark = is_marked c.args.ahead.now.marks.now in
    let text = c.args.ahead.now.reading.now.text.now in
    let small : c.args.marked < 2 ^ 32 = omega (arith, c.requires.marked, marks_small is_mark text c.args.from c.requires.within) in
    omega (arith, c.requires.within, first_within c.args.marked small c.requires.some)

pub returns-then-opener_stands-clause-clear : goal.returns-then-opener_stands-clause-clear
returns-then-opener_stands-clause-clear c = λ few.
    let r = c.args.ahead.now.reading.now in
    let is_mark = is_marked c.args.ahead.now.marks.now in
    let small : c.args.marked < 2 ^ 32 = omega (arith, c.requires.marked, marks_small is_mark r.text.now c.args.from c.requires.within) in
    let all = ap (list_all is_nonempty) (openers_are r) ∙ openers_nonempty (row_in r) c.args.ahead.now.tokens in
    clear_from (openers_in r) r.text.now c.args.from _
    (λ k low. none_marked (openers_in r) is_mark r.text.now c.args.from all c.args.ahead.now.marked.slots.none
    c.requires.within c.args.marked c.requires.marked k (omega (arith, low, first_within c.args.marked small c.requires.some)) (unset_first c.args.marked small c.requires.some k low))
