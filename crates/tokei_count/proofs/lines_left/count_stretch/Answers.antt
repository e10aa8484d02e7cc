use Rattle.std.proofs.Common.{◌+◌, length, ap, ◌∙◌, arith}
use Rattle.tokei_table.specs.Row.{Row}
use Rattle.tokei_parts.proofs.OpenersInLines.{opener_later}
use Rattle.tokei_parts.specs.ReadingOf.{openers_in}
use Rattle.tokei_count.specs.NoComments.{counts_in}
use Rattle.tokei_stats.specs.Overflow.{CountsFit}
use Rattle.tokei_stats.specs.Seen.{sums_of}
use Rattle.tokei_stats.specs.Statistics.{plus}
use Rattle.tokei_count.proofs.ClearLines.{clear_way, newline_at, newline_taken, start_taken}
use Rattle.tokei_count.proofs.Refusals.{answered}
use Rattle.tokei_count.proofs.Skipping.{goes_on}
use Rattle.tokei_count.proofs.UnderWay.{counted_on, counts_fit, gone_on}
use Rattle.tokei_count.proofs.lines_left.count_stretch.Goals as goal

pub returns-in_err-so_far-clause-quiet : goal.returns-in_err-so_far-clause-quiet
returns-in_err-so_far-clause-quiet c = λ none.
    let r = c.args.reading.now in
    let p = c.args.so_far.now in
    let q = c.requires in
    let n = c.count_lines in
    let e = c.told_end-told in
    let way = clear_way r p c.args.next e.result c.in-Some.last n.result.blank n.result.solid c.sums_in-lines.result q.skips q.under_way q.plain q.next q.within
    e.ensures.low e.ensures.high e.ensures.told c.in-Some.ensures.0.high c.in-Some.ensures.1 n.ensures.solid n.ensures.all
    (c.sums_in-lines.ensures ∙ ap (λ (g : Row). counts_in g.literate n.result.blank n.result.solid) r.row) in
    let few = (way.quiet q.skips none).1 in
    let short = newline_at r.text.now p.start e.result c.in-Some.last e.ensures.low (omega (arith, e.ensures.high, q.within)) c.in-Some.ensures.0.high c.in-Some.ensures.1 in
    let fits : CountsFit (plus (sums_of p.own) (sums_of c.sums_in-lines.result)) = record {
      blanks = omega (arith, few, short.0, e.ensures.high, q.within);
      code = omega (arith, few, short.0, e.ensures.high, q.within);
      comments = omega (arith, few, short.0, e.ensures.high, q.within);
    } in
    absurd (c.in_err-so_far.ensures.past fits)

pub returns-in_err-so_far-clause-overflow : goal.returns-in_err-so_far-clause-overflow
returns-in_err-so_far-clause-overflow c =
    let r = c.args.reading.now in
    let p = c.args.so_far.now in
    let q = c.requires in
    let n = c.count_lines in
    let e = c.told_end-told in
    let way = clear_way r p c.args.next e.result c.in-Some.last n.result.blank n.result.solid c.sums_in-lines.result q.skips q.under_way q.plain q.next q.within
    e.ensures.low e.ensures.high e.ensures.told c.in-Some.ensures.0.high c.in-Some.ensures.1 n.ensures.solid n.ensures.all
    (c.sums_in-lines.ensures ∙ ap (λ (g : Row). counts_in g.literate n.result.blank n.result.solid) r.row) in
    λ is fits. c.in_err-so_far.ensures.past (counts_fit r (gone_on p c.sums_in-lines.result (p.start + c.in-Some.last + 1)) way fits)

pub returns-clause-under_way : goal.returns-clause-under_way
returns-clause-under_way c =
    let r = c.args.reading.now in
    let p = c.args.so_far.now in
    let q = c.requires in
    let n = c.count_lines in
    let e = c.told_end-told in
    counted_on r p c.in_ok-so_far.field-0 (p.start + c.in-Some.last + 1) c.sums_in-lines.result c.in_ok-so_far.ensures.ok
    (clear_way r p c.args.next e.result c.in-Some.last n.result.blank n.result.solid c.sums_in-lines.result q.skips q.under_way q.plain q.next q.within
    e.ensures.low e.ensures.high e.ensures.told c.in-Some.ensures.0.high c.in-Some.ensures.1 n.ensures.solid n.ensures.all
    (c.sums_in-lines.ensures ∙ ap (λ (g : Row). counts_in g.literate n.result.blank n.result.solid) r.row))

pub returns-clause-next : goal.returns-clause-next
returns-clause-next c =
    let r = c.args.reading.now in
    let p = c.args.so_far.now in
    let q = c.requires in
    let e = c.told_end-told in
    let short = newline_at r.text.now p.start e.result c.in-Some.last e.ensures.low (omega (arith, e.ensures.high, q.within)) c.in-Some.ensures.0.high c.in-Some.ensures.1 in
    opener_later (openers_in r) r.text.now p.start (p.start + c.in-Some.last + 1) c.args.next (omega arith) (omega (arith, short.0, e.ensures.high)) q.next

pub returns-clause-overflow : goal.returns-clause-overflow
returns-clause-overflow c = λ is fits. answered _ _ is

pub slice_bounds-count_lines-end : goal.slice_bounds-count_lines-end
slice_bounds-count_lines-end c =
    let e = c.told_end-told in
    newline_taken c.args.reading.now.text.now c.args.so_far.now.start e.result c.in-Some.last e.ensures.low
    (goes_on e.result c.args.next (length c.args.reading.now.text.now) e.ensures.high c.requires.within) c.in-Some.ensures.0.high c.in-Some.ensures.1

pub count_lines-requires : goal.count_lines-requires
count_lines-requires c =
    let e = c.told_end-told in
    start_taken c.args.reading.now.text.now c.args.so_far.now.start e.result c.in-Some.last e.ensures.low
    (goes_on e.result c.args.next (length c.args.reading.now.text.now) e.ensures.high c.requires.within) c.in-Some.ensures.0.high c.in-Some.ensures.1
