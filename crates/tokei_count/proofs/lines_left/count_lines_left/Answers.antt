use Rattle.std.proofs.Common.{◌∙◌, ap, length, arith}
use Rattle.tokei_table.specs.Row.{Row}
use Rattle.tokei_count.specs.NoComments.{counts_in}
use Rattle.tokei_stats.specs.Overflow.{CountsFit}
use Rattle.tokei_stats.specs.Seen.{sums_of}
use Rattle.tokei_stats.specs.Statistics.{plus}
use Rattle.tokei_count.proofs.LinesLeft.{all_left}
use Rattle.tokei_count.proofs.UnderWay.{counted_on, counts_fit, gone_on}
use Rattle.tokei_count.proofs.lines_left.count_lines_left.Goals as goal

pub returns-clause-under_way : goal.returns-clause-under_way
returns-clause-under_way c =
    let r = c.args.reading.now in
    let p = c.args.so_far.now in
    let q = c.requires in
    let n = c.count_lines in
    counted_on r p c.in_ok-so_far.field-0 (length r.text.now) c.sums_in-lines.result c.in_ok-so_far.ensures.ok
    (all_left r p q.skips q.plain q.bare c.sums_in-lines.result n.result.blank n.result.solid q.under_way q.none n.ensures.solid n.ensures.all
    (c.sums_in-lines.ensures ∙ ap (λ (g : Row). counts_in g.literate n.result.blank n.result.solid) r.row))

pub returns-in_err-so_far-clause-overflow : goal.returns-in_err-so_far-clause-overflow
returns-in_err-so_far-clause-overflow c =
    let r = c.args.reading.now in
    let p = c.args.so_far.now in
    let q = c.requires in
    let n = c.count_lines in
    let way = all_left r p q.skips q.plain q.bare c.sums_in-lines.result n.result.blank n.result.solid q.under_way q.none n.ensures.solid
    n.ensures.all (c.sums_in-lines.ensures ∙ ap (λ (g : Row). counts_in g.literate n.result.blank n.result.solid) r.row) in
    λ is fits. c.in_err-so_far.ensures.past (counts_fit r (gone_on p c.sums_in-lines.result (length r.text.now)) way fits)

pub returns-in_err-so_far-clause-quiet : goal.returns-in_err-so_far-clause-quiet
returns-in_err-so_far-clause-quiet c = λ none.
    let r = c.args.reading.now in
    let p = c.args.so_far.now in
    let q = c.requires in
    let n = c.count_lines in
    let way = all_left r p q.skips q.plain q.bare c.sums_in-lines.result n.result.blank n.result.solid q.under_way q.none n.ensures.solid
    n.ensures.all (c.sums_in-lines.ensures ∙ ap (λ (g : Row). counts_in g.literate n.result.blank n.result.solid) r.row) in
    let few = (way.quiet q.skips none).1 in
    let fits : CountsFit (plus (sums_of p.own) (sums_of c.sums_in-lines.result)) = record { blanks = omega (arith, few); code = omega (arith, few); comments = omega (arith, few) } in
    absurd (c.in_err-so_far.ensures.past fits)
