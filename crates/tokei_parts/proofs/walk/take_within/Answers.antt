use Rattle.std.proofs.Common.{◌∙◌, inl, inr, sym, ap, subst, arith, ◌≡◌, None, Some, refl}
use Rattle.tokei_parts.specs.SeenChoices.{enclosure_of}
use Rattle.tokei_parts.specs.Items.{Enclosure, Mode}
use Rattle.tokei_parts.specs.Modes.{innermost}
use Rattle.tokei_parts.specs.Places.{choice_from}
use Rattle.tokei_parts.specs.Reached.{Advances, GoesOn, StepsTo}
use Rattle.tokei_parts.specs.Seen.{chain_of}
use Rattle.tokei_parts.proofs.Reaching.{end_in_text, reach_here}
use Rattle.tokei_parts.proofs.walk.take_within.Goals as goal
use Rattle.tokei_parts.proofs.walk.take_within.Goals.{After-take_bytes, In-On}

-- where the bytes lead
reached : (c : After-take_bytes) → GoesOn c.args.part.now (chain_of c.args.stack.now.items) c.args.reach.now (chain_of c.args.stack.now.items) c.take_bytes.new.reach
reached c = c.take_bytes.ensures.goes_on (chain_of c.args.stack.now.items) (sym c.requires.within)

pub item_end-plain-requires : goal.item_end-plain-requires
item_end-plain-requires c = end_in_text c.args.part.now c.requires.reached.1.begins

pub take_bytes-requires-clause-reached : goal.take_bytes-requires-clause-reached
take_bytes-requires-clause-reached c = (chain_of c.args.stack.now.items, (sym c.requires.within, c.requires.reached))

pub take_bytes-requires-clause-plain : goal.take_bytes-requires-clause-plain
take_bytes-requires-clause-plain c = c.item_end-plain.ensures.plain

pub choice_within-choice-requires : goal.choice_within-choice-requires
choice_within-choice-requires c =
    let begun = c.requires.reached in
    let r = reached (goal.at.choice_within-choice-requires c).After-take_bytes begun.0 begun.1 in
    record { here = reach_here c.args.part.now begun.0 (chain_of c.args.stack.now.items) c.take_bytes.new.reach.at c.take_bytes.new.reach.steps r c.if-part-reach.false }

pub take_step-requires-clause-choice : goal.take_step-requires-clause-choice
take_step-requires-clause-choice c =
    c.choice_within-choice.ensures.choice ∙ ap (choice_from c.args.part.now c.take_bytes.new.reach.at) c.requires.within

pub take_step-requires-clause-child : goal.take_step-requires-clause-child
take_step-requires-clause-child c = λ is. absurd (c.choice_within-choice.ensures.no_child is)

pub take_step-requires-clause-reached : goal.take_step-requires-clause-reached
take_step-requires-clause-reached c =
    let begun = c.requires.reached in
    (begun.0, reached (goal.at.take_step-requires-clause-reached c).After-take_bytes begun.0 begun.1)

-- where the choice behind them leads
stepped : (c : In-On) → Advances c.args.part.now (chain_of c.args.stack.now.items) c.take_bytes.new.reach (chain_of c.take_step.new.stack.items) c.take_step.new.reach
stepped c =
    let to = StepsTo c.args.part.now (chain_of c.args.stack.now.items) c.take_bytes.new.reach (chain_of c.take_step.new.stack.items) c.take_step.new.reach in
    elim c.in-On.is [
      | inl e ↦ subst to e.1 c.in_ok-take_step.ensures.steps
      | inr e ↦ subst to e.1 c.in_ok-take_step.ensures.steps
    ]

pub returns-clause-advances : goal.returns-clause-advances
returns-clause-advances c =
    let d = goal.at.returns-clause-advances c in
    let step = stepped d.In-On in
    let led = reached d.After-take_bytes in
    record {
      on = omega (arith, c.take_bytes.ensures.low, step.on);
      goes_on = λ chain reaches. step.goes_on chain (led chain reaches);
    }

pub returns-then-part-reach-clause-advances : goal.returns-then-part-reach-clause-advances
returns-then-part-reach-clause-advances c = record {
  on = omega (arith, c.if-part-reach.true, c.requires.some);
  goes_on = reached (goal.at.returns-then-part-reach-clause-advances c).After-take_bytes;
}

-- in an item no text is plain
no_item : (m : Mode) (item : Enclosure) → Some item ≡ m → m ≡ None → ⊥
no_item m item within plain = cc

pub unreachable-requires : goal.unreachable-requires
unreachable-requires c = elim c.in-Rest.is [
  | inl e ↦ no_item (innermost (chain_of c.args.stack.now.items)) (enclosure_of c.args.item) c.requires.within (c.in_ok-take_step.ensures.plain e)
  | inr e ↦ c.choice_within-choice.ensures.no_child (c.in_ok-take_step.ensures.child e)
]

pub take_bytes-requires-clause-childless : goal.take_bytes-requires-clause-childless
take_bytes-requires-clause-childless c = λ plain. absurd (no_item (Some (enclosure_of c.args.item)) (enclosure_of c.args.item) refl plain)

pub take_bytes-requires-clause-within : goal.take_bytes-requires-clause-within
take_bytes-requires-clause-within c = c.item_end-plain.ensures.high

pub take_step-requires-clause-some : goal.take_step-requires-clause-some
take_step-requires-clause-some c = c.if-part-reach.false

pub returns-clause-child : goal.returns-clause-child
returns-clause-child c = c.in_ok-take_step.ensures.same ∙ c.take_bytes.ensures.child

pub returns-then-part-reach-clause-child : goal.returns-then-part-reach-clause-child
returns-then-part-reach-clause-child c = c.take_bytes.ensures.child
