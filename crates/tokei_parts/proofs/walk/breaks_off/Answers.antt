use Rattle.std.proofs.Common.{◌≡◌, ◌∙◌, sym, ap, subst, is_some, Some, arith, refl}
use Rattle.std.proofs.lemmas.Bool.{false≢true}
use Rattle.tokei_parts.specs.Modes.{Chain}
use Rattle.tokei_parts.specs.Places.{block_from, choice_from}
use Rattle.tokei_parts.specs.Reached.{BreaksOff, StepsTo, Advances}
use Rattle.tokei_parts.specs.Seen.{block_of, chain_of}
use Rattle.tokei_parts.specs.declared.walk.Reach.{Reach}
use Rattle.tokei_parts.specs.declared.walk.Move.TheVariants.{On, Turn, Rest, Child}
use Rattle.tokei_parts.specs.declared.walk.Move.{Move}
use Rattle.tokei_parts.specs.declared.place.Place.{Place}
use Rattle.tokei_parts.proofs.Reaching.{reach_here}
use Rattle.tokei_parts.proofs.walk.breaks_off.Goals as goal
use Rattle.tokei_parts.proofs.walk.breaks_off.Goals.{In-Child}

-- a child that is chosen breaks the part off
breaks : (c : In-Child) → BreaksOff c.args.part.now (chain_of c.args.stack.now.items) c.args.reach.now (chain_of c.take_step.new.stack.items) c.take_step.new.reach
breaks c = subst (StepsTo c.args.part.now (chain_of c.args.stack.now.items) c.args.reach.now (chain_of c.take_step.new.stack.items) c.take_step.new.reach) c.in-Child.is c.in_ok-take_step.ensures.steps

pub finds_child-opens-requires-clause-here : goal.finds_child-opens-requires-clause-here
finds_child-opens-requires-clause-here c =
    let begun = c.requires.reached in
    reach_here c.args.part.now begun.0 (chain_of c.args.stack.now.items) c.args.reach.now.at c.args.reach.now.steps begun.1 c.requires.some

pub finds_child-opens-requires-clause-childless : goal.finds_child-opens-requires-clause-childless
finds_child-opens-requires-clause-childless c = λ low. c.requires.childless c.args.reach.now.at (omega arith) low

pub choice_in_plain-choice-requires-clause-here : goal.choice_in_plain-choice-requires-clause-here
choice_in_plain-choice-requires-clause-here c =
    let begun = c.requires.reached in
    reach_here c.args.part.now begun.0 (chain_of c.args.stack.now.items) c.args.reach.now.at c.args.reach.now.steps begun.1 c.requires.some

pub choice_in_plain-choice-requires-clause-child : goal.choice_in_plain-choice-requires-clause-child
choice_in_plain-choice-requires-clause-child c = λ some. ap is_some (c.finds_child-opens.ensures.found some)

pub choice_in_plain-choice-requires-clause-childless : goal.choice_in_plain-choice-requires-clause-childless
choice_in_plain-choice-requires-clause-childless c = λ none. c.finds_child-opens.ensures.none none

pub take_step-requires-clause-choice : goal.take_step-requires-clause-choice
take_step-requires-clause-choice c =
    c.choice_in_plain-choice.ensures.choice
    ∙ ap (choice_from c.args.part.now c.args.reach.now.at) (sym c.requires.plain)

pub take_step-requires-clause-child : goal.take_step-requires-clause-child
take_step-requires-clause-child c = λ is. ap is_some (c.finds_child-opens.ensures.found (c.choice_in_plain-choice.ensures.child is))

pub returns-in-Child-clause-breaks : goal.returns-in-Child-clause-breaks
returns-in-Child-clause-breaks c = λ _. breaks (goal.at.returns-in-Child-clause-breaks c).In-Child

pub returns-in-Child-clause-found : goal.returns-in-Child-clause-found
returns-in-Child-clause-found c = λ _.
    subst (λ m. block_from c.args.part.now m ≡ Some (block_of c.finds_child-opens.new.found)) (sym (breaks (goal.at.returns-in-Child-clause-found c).In-Child).same)
    (c.finds_child-opens.ensures.found (c.choice_in_plain-choice.ensures.child (c.in_ok-take_step.ensures.child c.in-Child.is)))

pub returns-in-Child-clause-childless : goal.returns-in-Child-clause-childless
returns-in-Child-clause-childless c = λ q low high.
    c.requires.childless q (omega (arith, low, (breaks (goal.at.returns-in-Child-clause-childless c).In-Child).same)) (omega (arith, high, c.in_ok-take_step.ensures.same))

-- another choice leads on
advances : (p : Place) (c : Chain) (r : Reach) (d : Chain) (s : Reach) (m : Move) → (m ≡ Child → ⊥) → StepsTo p c r d s m → Advances p c r d s
advances p c r d s (On n) other step = step
advances p c r d s (Turn n) other step = step
advances p c r d s Rest other step = step
advances p c r d s Child other step = absurd (other refl)

pub returns-in_default : goal.returns-in_default
returns-in_default c =
    let step = advances c.args.part.now (chain_of c.args.stack.now.items) c.args.reach.now (chain_of c.take_step.new.stack.items)
    c.take_step.new.reach c.in_ok-take_step.field-0 c.in_default.not-Child c.in_ok-take_step.ensures.steps in
    record {
      same = c.finds_child-opens.ensures.same;
      childless = λ q low high. c.requires.childless q (omega (arith, low, step.on)) (omega (arith, high, c.in_ok-take_step.ensures.same));
      found = λ e. absurd (false≢true e);
      breaks = λ e. absurd (false≢true e);
      advances = λ _. step;
    }

pub returns-in-Child-clause-advances : goal.returns-in-Child-clause-advances
returns-in-Child-clause-advances c = λ e. absurd (false≢true (sym e))

pub returns-in-Child-clause-same : goal.returns-in-Child-clause-same
returns-in-Child-clause-same c = c.finds_child-opens.ensures.same

pub returns-in_err-take_step-clause-same : goal.returns-in_err-take_step-clause-same
returns-in_err-take_step-clause-same c = c.finds_child-opens.ensures.same
