use Rattle.std.proofs.Common.{◌+◌}
use Rattle.tokei_count.proofs.CalmLines.{gone_within}
use Rattle.tokei_count.proofs.ClearLines.{newline_taken, start_taken}
use Rattle.tokei_count.proofs.LinesWithin.{counted_within, way_within}
use Rattle.tokei_count.proofs.Refusals.{answered}
use Rattle.tokei_count.proofs.UnderWay.{counts_fit}
use Rattle.tokei_count.proofs.lines_left.count_stretch_within.Goals as goal

pub returns-in_err-so_far-clause-overflow : goal.returns-in_err-so_far-clause-overflow
returns-in_err-so_far-clause-overflow c =
    let r = c.args.reading.now in
    let p = c.args.so_far.now in
    let q = c.requires in
    let n = c.count_newlines-lines in
    let way = way_within r p c.args.item c.class_within.result c.args.to c.in-Some.last n.result c.sums_of_class-within.result q.under_way q.within q.calm q.low q.high
    c.in-Some.ensures.0.high c.in-Some.ensures.1 n.ensures c.sums_of_class-within.ensures c.class_within.ensures in
    λ is fits. c.in_err-so_far.ensures.past (counts_fit r (gone_within p c.sums_of_class-within.result (p.start + c.in-Some.last + 1)) way fits)

pub returns-clause-under_way : goal.returns-clause-under_way
returns-clause-under_way c =
    let r = c.args.reading.now in
    let p = c.args.so_far.now in
    let q = c.requires in
    let n = c.count_newlines-lines in
    counted_within r p c.in_ok-so_far.field-0 c.sums_of_class-within.result (p.start + c.in-Some.last + 1) c.in_ok-so_far.ensures.ok
    (way_within r p c.args.item c.class_within.result c.args.to c.in-Some.last n.result c.sums_of_class-within.result q.under_way q.within q.calm q.low q.high
    c.in-Some.ensures.0.high c.in-Some.ensures.1 n.ensures c.sums_of_class-within.ensures c.class_within.ensures)

pub returns-clause-overflow : goal.returns-clause-overflow
returns-clause-overflow c = λ is fits. answered _ _ is

pub slice_bounds-count_newlines-end : goal.slice_bounds-count_newlines-end
slice_bounds-count_newlines-end c =
    newline_taken c.args.reading.now.text.now c.args.so_far.now.start c.args.to c.in-Some.last c.requires.low c.requires.high c.in-Some.ensures.0.high c.in-Some.ensures.1

pub count_newlines-lines-requires : goal.count_newlines-lines-requires
count_newlines-lines-requires c =
    start_taken c.args.reading.now.text.now c.args.so_far.now.start c.args.to c.in-Some.last c.requires.low c.requires.high c.in-Some.ensures.0.high c.in-Some.ensures.1
