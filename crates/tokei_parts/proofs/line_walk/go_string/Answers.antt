use Rattle.std.proofs.Common.{◌∙◌, ◌-◌, Some, ap, arith, refl, subst, sym}
use Rattle.tokei_parts.specs.LineWalk.{chain_in, item_in, reach_of}
use Rattle.tokei_parts.specs.Modes.{Chain}
use Rattle.tokei_parts.specs.Places.{choice_from}
use Rattle.tokei_parts.specs.Reached.{Advances, GoesOn, IsReached, Reaches}
use Rattle.tokei_parts.specs.SeenChoices.{mode_of}
use Rattle.tokei_parts.specs.declared.line_walk.LineReach.{LineReach}
use Rattle.tokei_parts.specs.declared.walk.Reach.{Reach}
use Rattle.tokei_parts.proofs.LineSteps.{bytes_go, plain_high}
use Rattle.tokei_parts.proofs.Reaching.{end_in_text, reach_here}
use Rattle.tokei_parts.proofs.line_walk.go_string.Goals as goal
use Rattle.tokei_parts.proofs.line_walk.go_string.Goals.{After-item_end-plain}

-- where the turn's bytes lead
abbrev to : After-item_end-plain → LineReach
to c = record { at = c.item_end-plain.result; base = c.loop-reach.reach.base }

-- how the part leads on to behind them
led : (c : After-item_end-plain) → GoesOn c.args.part.now (chain_in (item_in c.args.item.now)) (reach_of c.args.reach.now) (chain_in (Some c.args.around)) (reach_of (to c))
led c = λ chain reaches.
    bytes_go c.args.part.now (Some c.args.around) c.loop-reach.reach (to c) c.loop-reach.invariant.base refl c.item_end-plain.ensures.low
    (plain_high c.loop-reach.reach.at c.item_end-plain.result c.args.part.now.end c.loop-reach-test.true c.item_end-plain.ensures.high)
    c.item_end-plain.ensures.plain (λ none. absurd cc)
    chain (c.loop-reach.invariant.goes_on chain reaches)

-- the string encloses that place too
reached : (c : After-item_end-plain) → IsReached c.args.part.now (chain_in (Some c.args.around)) (reach_of (to c))
reached c = (c.requires.reached.0, led c c.requires.reached.0 c.requires.reached.1)

-- where a choice there leads
advances : (c : After-item_end-plain) (next : Chain) (further : Reach) → Advances c.args.part.now (chain_in (Some c.args.around)) (reach_of (to c)) next further
    → Advances c.args.part.now (chain_in (item_in c.args.item.now)) (reach_of c.args.reach.now) next further
advances c next further step = record {
  on = omega (arith, c.loop-reach.invariant.low, c.item_end-plain.ensures.low, step.on);
  goes_on = λ chain reaches. step.goes_on chain (led c chain reaches);
}

pub loop-reach-init : goal.loop-reach-init
loop-reach-init c = record {
  kept = c.requires.within;
  low = omega arith;
  base = c.requires.low;
  goes_on = λ chain reaches.
      subst (λ i. Reaches c.args.part.now chain (chain_in i) c.args.reach.now.at (c.args.reach.now.at - c.args.reach.now.base)) c.requires.within reaches;
}

pub item_end-plain-requires : goal.item_end-plain-requires
item_end-plain-requires c = end_in_text c.args.part.now c.requires.reached.1.begins

pub choice_within-requires : goal.choice_within-requires
choice_within-requires c =
    let d = (goal.at.choice_within-requires c).After-item_end-plain in
    let r = reached d in
    record { here = reach_here c.args.part.now r.0 (chain_in (Some c.args.around)) (to d).at ((to d).at - (to d).base) r.1 c.if-part-reach.false }

pub take_escape-requires-clause-reached : goal.take_escape-requires-clause-reached
take_escape-requires-clause-reached c = reached (goal.at.take_escape-requires-clause-reached c).After-item_end-plain

pub take_one-requires : goal.take_one-requires
take_one-requires c =
    let d = (goal.at.take_one-requires c).After-item_end-plain in
    record {
      reached =
          subst (λ i. IsReached c.args.part.now (chain_in i) (reach_of (to d))) (sym c.loop-reach.invariant.kept) (reached d);
      low = omega (arith, c.loop-reach.invariant.base, c.item_end-plain.ensures.low);
      some = c.if-part-reach.false;
      choice =
          c.choice_within.ensures.choice
          ∙ ap (λ m. choice_from c.args.part.now (to d).at (mode_of m)) (sym c.loop-reach.invariant.kept);
      no_child = c.choice_within.ensures.no_child;
    }

pub loop-reach-preserved : goal.loop-reach-preserved
loop-reach-preserved c =
    let on =
    advances (goal.at.loop-reach-preserved c).After-item_end-plain (chain_in (Some c.args.around)) (reach_of c.take_escape.new.reach) c.take_escape.ensures.advances in
    record {
      kept = c.loop-reach.invariant.kept;
      low = omega (arith, on.on);
      base = c.take_escape.ensures.low;
      goes_on = on.goes_on;
    }

pub returns-then-part-reach-clause-advances : goal.returns-then-part-reach-clause-advances
returns-then-part-reach-clause-advances c = λ _.
    let d = (goal.at.returns-then-part-reach-clause-advances c).After-item_end-plain in
    record {
      on = omega (arith, c.if-part-reach.true, c.requires.some);
      goes_on =
          subst (λ i. GoesOn c.args.part.now (chain_in (item_in c.args.item.now)) (reach_of c.args.reach.now) (chain_in i) (reach_of (to d))) (sym c.loop-reach.invariant.kept)
          (led d);
    }

pub returns-in_default-clause-advances : goal.returns-in_default-clause-advances
returns-in_default-clause-advances c = λ is.
    let d = (goal.at.returns-in_default-clause-advances c).After-item_end-plain in
    advances d (chain_in (item_in c.take_one.new.item)) (reach_of c.take_one.new.reach)
    (subst (λ i. Advances c.args.part.now (chain_in i) (reach_of (to d)) (chain_in (item_in c.take_one.new.item)) (reach_of c.take_one.new.reach)) c.loop-reach.invariant.kept
    (c.take_one.ensures.advances is))
