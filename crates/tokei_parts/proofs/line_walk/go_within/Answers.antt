use Rattle.std.proofs.Common.{◌≡◌, ◌∙◌, ◌-◌, Option, None, Some, ap, arith, le_trans, refl, slice_index, subst, sym}
use Rattle.tokei_parts.specs.LineWalk.{chain_in, item_in, reach_of}
use Rattle.tokei_parts.specs.PlainBytes.{IsPlainByte}
use Rattle.tokei_parts.specs.Places.{choice_from, text_of}
use Rattle.tokei_parts.specs.Reached.{GoesOn}
use Rattle.tokei_parts.specs.SeenChoices.{mode_of}
use Rattle.tokei_parts.specs.declared.items.Enclosure as Code
use Rattle.tokei_parts.specs.declared.line_walk.LineReach.{LineReach}
use Rattle.tokei_parts.proofs.LineSteps.{bytes_go, plain_high}
use Rattle.tokei_parts.proofs.Reaching.{end_in_text, reach_here}
use Rattle.tokei_parts.proofs.line_walk.go_within.Goals as goal
use Rattle.tokei_parts.proofs.line_walk.go_within.Goals.{After-item_end-plain}

-- where the bytes lead
abbrev to : After-item_end-plain → LineReach
to c = record { at = c.item_end-plain.result; base = c.args.reach.now.base }

-- where an item is, there isn't none
some_item : (item : Option Code.Enclosure) (around : Code.Enclosure) → item ≡ Some around → item ≡ None → ⊥
some_item None around is none = cc
some_item (Some other) around is none = cc

led : (c : After-item_end-plain) → GoesOn c.args.part.now (chain_in (item_in c.args.item.now)) (reach_of c.args.reach.now) (chain_in (item_in c.args.item.now)) (reach_of (to c))
led c =
    bytes_go c.args.part.now (item_in c.args.item.now) c.args.reach.now (to c) c.requires.low refl c.item_end-plain.ensures.low
    (plain_high c.args.reach.now.at c.item_end-plain.result c.args.part.now.end c.requires.some c.item_end-plain.ensures.high)
    (λ q low high. subst (λ m. IsPlainByte c.args.part.now.reading.now.matchers.now (mode_of m) (slice_index (text_of c.args.part.now) q)) (sym c.requires.within)
    (c.item_end-plain.ensures.plain q low high))
    (λ none. absurd (some_item (item_in c.args.item.now) c.args.around c.requires.within none))

pub item_end-plain-requires : goal.item_end-plain-requires
item_end-plain-requires c = end_in_text c.args.part.now c.requires.reached.1.begins

pub choice_within-choice-requires : goal.choice_within-choice-requires
choice_within-choice-requires c =
    let begun = c.requires.reached in
    let d = (goal.at.choice_within-choice-requires c).After-item_end-plain in
    record { here = reach_here c.args.part.now begun.0 (chain_in (item_in c.args.item.now)) (to d).at ((to d).at - (to d).base) (led d begun.0 begun.1) c.if-part-reach.false }

pub take_one-requires-clause-reached : goal.take_one-requires-clause-reached
take_one-requires-clause-reached c =
    let begun = c.requires.reached in
    (begun.0, led (goal.at.take_one-requires-clause-reached c).After-item_end-plain begun.0 begun.1)

pub take_one-requires-clause-choice : goal.take_one-requires-clause-choice
take_one-requires-clause-choice c =
    c.choice_within-choice.ensures.choice ∙ ap (λ m. choice_from c.args.part.now c.item_end-plain.result (mode_of m)) (sym c.requires.within)

pub returns-then-part-reach-clause-advances : goal.returns-then-part-reach-clause-advances
returns-then-part-reach-clause-advances c = λ _. record {
  on = omega (arith, c.if-part-reach.true, c.requires.some);
  goes_on = led (goal.at.returns-then-part-reach-clause-advances c).After-item_end-plain;
}

pub returns-clause-advances : goal.returns-clause-advances
returns-clause-advances c = λ is.
    let step = c.take_one.ensures.advances is in
    let before = led (goal.at.returns-clause-advances c).After-item_end-plain in
    record {
      on = omega (arith, c.item_end-plain.ensures.low, step.on);
      goes_on = λ chain reaches. step.goes_on chain (before chain reaches);
    }

pub take_one-requires-clause-some : goal.take_one-requires-clause-some
take_one-requires-clause-some c = c.if-part-reach.false

pub take_one-requires-clause-low : goal.take_one-requires-clause-low
take_one-requires-clause-low c = le_trans c.requires.low c.item_end-plain.ensures.low

pub take_one-requires-clause-no_child : goal.take_one-requires-clause-no_child
take_one-requires-clause-no_child c = c.choice_within-choice.ensures.no_child

pub returns-clause-low : goal.returns-clause-low
returns-clause-low c = c.take_one.ensures.low

pub returns-then-part-reach-clause-low : goal.returns-then-part-reach-clause-low
returns-then-part-reach-clause-low c = le_trans c.requires.low c.item_end-plain.ensures.low
