use Rattle.std.proofs.Common.{◌≡◌, ◌+◌, ◌<◌, ◌≤◌, ℕ, List, length, drop, ap, arith}
use Rattle.tokei_embedding.specs.DocComments.{first_line}
use Rattle.tokei_parts.proofs.LineEnds.{end_is, end_within}
use Rattle.tokei_parts.proofs.OpenersInLines.{opener_later}
use Rattle.tokei_count.proofs.StepReading.{line_some, lines_of-one}
use Rattle.tokei_stats.specs.Seen.{sums_of}
use Rattle.tokei_stats.specs.Statistics.{lines_of}
use Rattle.tokei_parts.specs.ReadingOf.{openers_in}
use Rattle.tokei_count.proofs.LookedLines.{looked_fits}
use Rattle.tokei_count.proofs.Refusals.{answered}
use Rattle.tokei_count.proofs.Skipping.{ends_over, front_line, goes_far, goes_from, less_left, line_on, stays}
use Rattle.tokei_count.proofs.UnderWay.{counted_on, gone_on, none_more, counts_fit, skipped_more}
use Rattle.tokei_count.proofs.text_reading.count_lines.Goals as goal
use Rattle.tokei_count.proofs.text_reading.count_lines.Goals.{else-loop-at-test, then-loop-at-test+then-next-stop}

pub loop-at-init : goal.loop-at-init
loop-at-init c = record {
  under_way = none_more c.args.reading.now c.args.so_far.now c.requires.under_way c.new-lines.result c.new-lines.ensures;
  few = omega (arith, ap lines_of c.new-lines.ensures);
  high = omega (arith, c.requires.next);
  next = c.requires.next;
  line = c.requires.first;
  low = stays _;
  blank = λ p low high. absurd (omega (arith, low, high));
}

pub line_stop-stop-requires : goal.line_stop-stop-requires
line_stop-stop-requires c =
    end_within c.args.reading.now.text.now c.loop-at.at c.loop-at.end c.loop-at.invariant.under_way.within c.loop-at.invariant.line

pub loop-at-preserved : goal.loop-at-preserved
loop-at-preserved c =
    let text : List ℕ = c.args.reading.now.text.now in
    let at : ℕ = c.loop-at.at in
    let some : at < length text = goes_far at c.args.next (length text) c.loop-at-test.true c.requires.within in
    let stop_is : c.line_stop-stop.result ≡ at + length (first_line (drop at text)) =
    end_is text at c.loop-at.end c.line_stop-stop.result c.loop-at.invariant.under_way.within c.loop-at.invariant.line
    c.line_stop-stop.ensures.more c.line_stop-stop.ensures.last in
    let low : at ≤ c.line_stop-stop.result = omega (arith, stop_is) in
    record {
      under_way = skipped_more c.args.reading.now c.args.so_far.now c.loop-at.lines c.one_more.new.lines at c.line_stop-stop.result c.args.next c.class_of_plain.result
          c.requires.skips c.loop-at.invariant.under_way c.one_more.ensures some c.requires.plain stop_is c.loop-at.invariant.next c.if-next-stop.false c.class_of_plain.ensures;
      few = omega (arith, c.loop-at.invariant.few, ap lines_of c.one_more.ensures, lines_of-one (sums_of c.loop-at.lines) c.class_of_plain.result, stop_is, line_some text at some);
      high = c.if-next-stop.false;
      next = opener_later (openers_in c.args.reading.now) text at c.line_stop-stop.result c.args.next low c.if-next-stop.false c.loop-at.invariant.next;
      line = front_line text c.line_stop-stop.result c.line_front-front.result.newline c.line_stop-stop.ensures.within
          c.line_front-front.ensures.high c.line_front-front.ensures.line c.line_front-front.ensures.found;
      low = c.line_front-front.ensures.low;
      blank = c.line_front-front.ensures.blank;
    }

pub returns-in_err-so_far-clause-overflow : goal.returns-in_err-so_far-clause-overflow
returns-in_err-so_far-clause-overflow c = λ is fits. c.in_err-so_far.ensures.past
    (counts_fit c.args.reading.now (gone_on c.args.so_far.now c.loop-at.lines c.loop-at.at) c.loop-at.invariant.under_way fits)

pub returns-in_err-so_far-clause-quiet : goal.returns-in_err-so_far-clause-quiet
returns-in_err-so_far-clause-quiet c = λ none. absurd (c.in_err-so_far.ensures.past
    (looked_fits c.args.reading.now c.args.so_far.now c.loop-at.lines c.loop-at.at c.requires.skips (omega (arith, c.loop-at.invariant.high)) c.loop-at.invariant.under_way none))

pub returns-clause-more : goal.returns-clause-more
returns-clause-more c some =
    elim c.loop-at-test.branch [
      | else-loop-at-test w ↦ omega (arith, w.loop-at-test, c.loop-at.invariant.high, line_some c.args.reading.now.text.now c.loop-at.at some)
      | then-loop-at-test+then-next-stop w ↦
          let text : List ℕ = c.args.reading.now.text.now in
          ends_over c.args.next w.line_stop-stop.result _ w.if-next-stop.true
          (end_is text c.loop-at.at c.loop-at.end w.line_stop-stop.result c.loop-at.invariant.under_way.within c.loop-at.invariant.line
          w.line_stop-stop.ensures.more w.line_stop-stop.ensures.last)
    ]

pub loop-at-smaller : goal.loop-at-smaller
loop-at-smaller c =
    let text : List ℕ = c.args.reading.now.text.now in
    let at : ℕ = c.loop-at.at in
    let stop_is : c.line_stop-stop.result ≡ at + length (first_line (drop at text)) =
    end_is text at c.loop-at.end c.line_stop-stop.result c.loop-at.invariant.under_way.within c.loop-at.invariant.line
    c.line_stop-stop.ensures.more c.line_stop-stop.ensures.last in
    less_left c.args.next at c.line_stop-stop.result c.loop-at-test.true
    (line_on text at c.line_stop-stop.result (goes_far at c.args.next (length text) c.loop-at-test.true c.requires.within) stop_is)

pub class_of_plain-requires : goal.class_of_plain-requires
class_of_plain-requires c =
    let text : List ℕ = c.args.reading.now.text.now in
    let at : ℕ = c.loop-at.at in
    let stop_is : c.line_stop-stop.result ≡ at + length (first_line (drop at text)) =
    end_is text at c.loop-at.end c.line_stop-stop.result c.loop-at.invariant.under_way.within c.loop-at.invariant.line
    c.line_stop-stop.ensures.more c.line_stop-stop.ensures.last in
    record {
      order = goes_from at c.line_stop-stop.result _ stop_is;
      within = c.line_stop-stop.ensures.within;
      low = c.loop-at.invariant.low;
      solid = c.loop-at.invariant.blank;
    }

pub returns-clause-under_way : goal.returns-clause-under_way
returns-clause-under_way c =
    counted_on c.args.reading.now c.args.so_far.now c.in_ok-so_far.field-0 c.loop-at.at c.loop-at.lines c.in_ok-so_far.ensures.ok c.loop-at.invariant.under_way

pub returns-clause-overflow : goal.returns-clause-overflow
returns-clause-overflow c = λ is fits. answered _ _ is

pub returns-clause-end : goal.returns-clause-end
returns-clause-end c = c.loop-at.invariant.line
