use Rattle.std.proofs.Common.{◌-◌, true, ap, sym, subst, ◌∙◌, arith}
use Rattle.tokei_table.specs.Row.{Row}
use Rattle.tokei_table.specs.Slices.{between}
use Rattle.tokei_parts.specs.LineMarks.{is_marked}
use Rattle.tokei_count.specs.LineLooks.{IsLook, mark_count}
use Rattle.tokei_bytes.specs.Lines.{blank_after, front_count}
use Rattle.tokei_count.specs.NoComments.{counts_with}
use Rattle.tokei_count.proofs.LastLines.{marks_few, seen_inside}
use Rattle.tokei_count.proofs.LookedLines.{looked_fits, looked_way, solid_few}
use Rattle.tokei_count.proofs.UnderWay.{counted_on, counts_fit, gone_on}
use Rattle.tokei_count.proofs.line_look.count_looked.Goals as goal

pub fronts_before-solid-requires : goal.fronts_before-solid-requires
fronts_before-solid-requires c = record {
  look = subst (λ s. IsLook (is_marked c.args.ahead.now.marks.now) c.args.ahead.now.reading.now.text.now s c.args.look) (sym c.requires.start) c.requires.look;
  some = omega (arith, c.requires.start, seen_inside c.args.so_far.now.start c.args.look.stop c.requires.look.low (λ e. c.if-look-so_far.false (sym e)));
  blank = c.requires.blank ∙ ap (λ s. blank_after true (between c.args.ahead.now.reading.now.text.now s c.args.look.at)) (sym c.requires.start);
}

pub overflow_sub-blank : goal.overflow_sub-blank
overflow_sub-blank c =
    let text = c.args.ahead.now.reading.now.text.now in
    let is_mark = is_marked c.args.ahead.now.marks.now in
    let e = c.fronts_before-solid in
    let fronts = e.ensures.fronts ∙ ap (λ s. front_count true (between text s c.args.look.stop)) c.requires.start in
    let marks = e.ensures.marks ∙ ap (λ s. mark_count is_mark true (between text s c.args.look.stop)) c.requires.start in
    let some = seen_inside c.args.so_far.now.start c.args.look.stop c.requires.look.low (λ e. c.if-look-so_far.false (sym e)) in
    solid_few c.args.ahead.now.reading.now c.args.so_far.now is_mark c.args.look some c.requires.look e.result.0 e.result.1 fronts marks

pub sums_with-lines-requires : goal.sums_with-lines-requires
sums_with-lines-requires c =
    let text = c.args.ahead.now.reading.now.text.now in
    let is_mark = is_marked c.args.ahead.now.marks.now in
    let e = c.fronts_before-solid in
    let fronts = e.ensures.fronts ∙ ap (λ s. front_count true (between text s c.args.look.stop)) c.requires.start in
    let marks = e.ensures.marks ∙ ap (λ s. mark_count is_mark true (between text s c.args.look.stop)) c.requires.start in
    omega (arith, fronts, marks, marks_few is_mark (between text c.args.so_far.now.start c.args.look.stop) true)

pub returns-in_err-so_far-clause-quiet : goal.returns-in_err-so_far-clause-quiet
returns-in_err-so_far-clause-quiet c = λ none.
    let r = c.args.ahead.now.reading.now in
    let p = c.args.so_far.now in
    let text = c.args.ahead.now.reading.now.text.now in
    let is_mark = is_marked c.args.ahead.now.marks.now in
    let e = c.fronts_before-solid in
    let fronts = e.ensures.fronts ∙ ap (λ s. front_count true (between text s c.args.look.stop)) c.requires.start in
    let marks = e.ensures.marks ∙ ap (λ s. mark_count is_mark true (between text s c.args.look.stop)) c.requires.start in
    let some = seen_inside p.start c.args.look.stop c.requires.look.low (λ e. c.if-look-so_far.false (sym e)) in
    let way = looked_way r p is_mark c.args.look some c.requires.look e.result.0 e.result.1 fronts marks c.sums_with-lines.result
    c.requires.skips c.requires.under_way c.requires.plain c.has_bytes.ensures c.args.ahead.now.marked.slots c.requires.clear c.requires.told
    (c.sums_with-lines.ensures ∙ ap (λ (g : Row). counts_with g.literate (c.args.look.newlines - e.result.0) e.result.0 e.result.1) r.row) in
    absurd (c.in_err-so_far.ensures.past (looked_fits r p c.sums_with-lines.result c.args.look.stop c.requires.skips e.ensures.fits way none))

pub returns-in_err-so_far-clause-overflow : goal.returns-in_err-so_far-clause-overflow
returns-in_err-so_far-clause-overflow c =
    let r = c.args.ahead.now.reading.now in
    let p = c.args.so_far.now in
    let text = c.args.ahead.now.reading.now.text.now in
    let is_mark = is_marked c.args.ahead.now.marks.now in
    let e = c.fronts_before-solid in
    let fronts = e.ensures.fronts ∙ ap (λ s. front_count true (between text s c.args.look.stop)) c.requires.start in
    let marks = e.ensures.marks ∙ ap (λ s. mark_count is_mark true (between text s c.args.look.stop)) c.requires.start in
    let some = seen_inside p.start c.args.look.stop c.requires.look.low (λ e. c.if-look-so_far.false (sym e)) in
    let way = looked_way r p is_mark c.args.look some c.requires.look e.result.0 e.result.1 fronts marks c.sums_with-lines.result
    c.requires.skips c.requires.under_way c.requires.plain c.has_bytes.ensures c.args.ahead.now.marked.slots c.requires.clear c.requires.told
    (c.sums_with-lines.ensures ∙ ap (λ (g : Row). counts_with g.literate (c.args.look.newlines - e.result.0) e.result.0 e.result.1) r.row) in
    λ is fits. c.in_err-so_far.ensures.past (counts_fit r (gone_on p c.sums_with-lines.result c.args.look.stop) way fits)

pub returns-clause-under_way : goal.returns-clause-under_way
returns-clause-under_way c =
    let r = c.args.ahead.now.reading.now in
    let p = c.args.so_far.now in
    let text = c.args.ahead.now.reading.now.text.now in
    let is_mark = is_marked c.args.ahead.now.marks.now in
    let e = c.fronts_before-solid in
    let fronts = e.ensures.fronts ∙ ap (λ s. front_count true (between text s c.args.look.stop)) c.requires.start in
    let marks = e.ensures.marks ∙ ap (λ s. mark_count is_mark true (between text s c.args.look.stop)) c.requires.start in
    let some = seen_inside p.start c.args.look.stop c.requires.look.low (λ e. c.if-look-so_far.false (sym e)) in
    let way = looked_way r p is_mark c.args.look some c.requires.look e.result.0 e.result.1 fronts marks c.sums_with-lines.result
    c.requires.skips c.requires.under_way c.requires.plain c.has_bytes.ensures c.args.ahead.now.marked.slots c.requires.clear c.requires.told
    (c.sums_with-lines.ensures ∙ ap (λ (g : Row). counts_with g.literate (c.args.look.newlines - e.result.0) e.result.0 e.result.1) r.row) in
    counted_on r p c.in_ok-so_far.field-0 c.args.look.stop c.sums_with-lines.result c.in_ok-so_far.ensures.ok way
