use Rattle.std.proofs.Common.{◌≡◌, ◌+◌, ◌<◌, ℕ, List, length, drop, ap, arith}
use Rattle.tokei_embedding.specs.DocComments.{first_line}
use Rattle.tokei_count.proofs.CalmLines.{calm_more, gone_within, none_within}
use Rattle.tokei_parts.proofs.LineEnds.{line_stops}
use Rattle.tokei_count.proofs.LinesWithin.{counted_within}
use Rattle.tokei_count.proofs.Refusals.{answered}
use Rattle.tokei_count.proofs.Skipping.{goes_far, goes_on, less_left, line_on, line_reaches, stays_below}
use Rattle.tokei_count.proofs.StepReading.{line_some, lines_of-one}
use Rattle.tokei_stats.specs.Seen.{sums_of}
use Rattle.tokei_stats.specs.Statistics.{lines_of}
use Rattle.tokei_count.proofs.UnderWay.{counts_fit}
use Rattle.tokei_count.proofs.text_reading.count_within.Goals as goal
use Rattle.tokei_count.proofs.text_reading.count_within.Goals.{else-loop-next-test, then-loop-next-test+then-to-stop}

pub loop-next-init : goal.loop-next-init
loop-next-init c = record {
  under_way = none_within c.args.reading.now c.args.so_far.now c.requires.under_way c.new-within.result c.new-within.ensures;
  few = omega (arith, ap lines_of c.new-within.ensures);
  low = omega arith;
  high = c.requires.low;
}

pub loop-next-preserved : goal.loop-next-preserved
loop-next-preserved c =
    let text : List ℕ = c.args.reading.now.text.now in
    let at : ℕ = c.loop-next.next in
    let e = c.newline_before-newline.ensures in
    let some : at < length text = omega (arith, c.loop-next-test.true, c.requires.high) in
    let stop_is : c.line_stop-stop.result ≡ at + length (first_line (drop at text)) =
    line_stops text at c.newline_before-newline.result c.args.to c.line_stop-stop.result
    c.loop-next-test.true c.requires.high e.high e.line e.found c.line_stop-stop.ensures.more
    c.line_stop-stop.ensures.last c.if-to-stop.false in
    record {
      under_way = calm_more c.args.reading.now c.args.so_far.now c.args.item c.loop-next.within c.one_more.new.lines at c.line_stop-stop.result c.args.to c.class_within-class.result
          c.loop-next.invariant.low c.loop-next.invariant.under_way c.one_more.ensures some c.requires.within stop_is c.if-to-stop.false
          (λ p low high. c.requires.calm p (omega (arith, c.loop-next.invariant.low, low)) high) c.class_within-class.ensures;
      few = omega (arith, c.loop-next.invariant.few, ap lines_of c.one_more.ensures, lines_of-one (sums_of c.loop-next.within) c.class_within-class.result, stop_is, line_some text at some);
      low = omega (arith, c.loop-next.invariant.low, stop_is);
      high = c.if-to-stop.false;
    }

pub returns-in_err-so_far-clause-overflow : goal.returns-in_err-so_far-clause-overflow
returns-in_err-so_far-clause-overflow c =
    λ is fits. c.in_err-so_far.ensures.past (counts_fit c.args.reading.now
    (gone_within c.args.so_far.now c.loop-next.within c.loop-next.next)
    c.loop-next.invariant.under_way fits)

pub loop-next-smaller : goal.loop-next-smaller
loop-next-smaller c =
    let text : List ℕ = c.args.reading.now.text.now in
    let at : ℕ = c.loop-next.next in
    let e = c.newline_before-newline.ensures in
    let stop_is : c.line_stop-stop.result ≡ at + length (first_line (drop at text)) =
    line_stops text at c.newline_before-newline.result c.args.to c.line_stop-stop.result
    c.loop-next-test.true c.requires.high e.high e.line e.found c.line_stop-stop.ensures.more
    c.line_stop-stop.ensures.last c.if-to-stop.false in
    less_left c.args.to at c.line_stop-stop.result c.loop-next-test.true
    (line_on text at c.line_stop-stop.result (goes_far at c.args.to (length text) c.loop-next-test.true c.requires.high) stop_is)

pub returns-clause-under_way : goal.returns-clause-under_way
returns-clause-under_way c =
    counted_within c.args.reading.now c.args.so_far.now c.in_ok-so_far.field-0 c.loop-next.within c.loop-next.next c.in_ok-so_far.ensures.ok c.loop-next.invariant.under_way

pub returns-clause-overflow : goal.returns-clause-overflow
returns-clause-overflow c = λ is fits. answered _ _ is

pub returns-clause-clear : goal.returns-clause-clear
returns-clause-clear c =
    let at : ℕ = c.loop-next.next in
    elim c.loop-next-test.branch [
      | else-loop-next-test w ↦ goes_on c.args.to at _ w.loop-next-test.false (stays_below at _)
      | then-loop-next-test+then-to-stop w ↦
          let e = w.newline_before-newline.ensures in
          line_reaches w.newline_before-newline.result c.args.to w.line_stop-stop.result (length c.args.reading.now.text.now) _
          e.high e.line c.requires.high w.line_stop-stop.ensures.more w.if-to-stop.true
    ]
