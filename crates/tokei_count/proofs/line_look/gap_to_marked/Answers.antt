use Rattle.std.proofs.Common.{◌≡◌, ◌+◌, false, drop, sym, ◌∙◌, arith}
use Rattle.tokei_table_row.specs.Bytes.{begins_with_one}
use Rattle.tokei_count.proofs.LookedAhead.{clear_from}
use Rattle.tokei_count.proofs.SetBits.{all_done, next_within, past_next, up_to_next}
use Rattle.tokei_count.proofs.line_look.gap_to_marked.Goals as goal

pub returns-then-left-eq0-clause-clear : goal.returns-then-left-eq0-clause-clear
returns-then-left-eq0-clause-clear c = λ few.
    clear_from c.args.matchers.now.openers c.args.text.now c.args.from 32
    (all_done (λ k. begins_with_one c.args.matchers.now.openers (drop (c.args.from + k) c.args.text.now) ≡ false) c.args.marked c.loop-gap.gap
    c.requires.small c.requires.others c.loop-gap.invariant.clear c.if-left-eq0.true)

pub opener_stands-requires : goal.opener_stands-requires
opener_stands-requires c = omega (arith, c.requires.within, next_within c.args.marked c.loop-gap.gap c.requires.small c.if-left-eq0.false)

pub returns-then-opener_stands-clause-clear : goal.returns-then-opener_stands-clause-clear
returns-then-opener_stands-clause-clear c = λ few.
    clear_from c.args.matchers.now.openers c.args.text.now c.args.from _
    (up_to_next (λ k. begins_with_one c.args.matchers.now.openers (drop (c.args.from + k) c.args.text.now) ≡ false) c.args.marked c.loop-gap.gap
    c.requires.small c.requires.others c.loop-gap.invariant.clear c.if-left-eq0.false)

pub loop-gap-preserved : goal.loop-gap-preserved
loop-gap-preserved c = record {
  high = omega (arith, next_within c.args.marked c.loop-gap.gap c.requires.small c.if-left-eq0.false);
  clear = past_next (λ k. begins_with_one c.args.matchers.now.openers (drop (c.args.from + k) c.args.text.now) ≡ false) c.args.marked c.loop-gap.gap
      c.requires.small c.requires.others c.loop-gap.invariant.clear c.if-left-eq0.false (sym c.opener_stands.ensures ∙ c.if-opener_stands.false);
}

pub returns-clause-clear : goal.returns-clause-clear
returns-clause-clear c = λ few.
    clear_from c.args.matchers.now.openers c.args.text.now c.args.from 32
    (λ k low. c.loop-gap.invariant.clear k (omega (arith, low, c.loop-gap-test.false)))
