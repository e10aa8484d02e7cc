use Rattle.std.proofs.Common.{◌≡◌, ◌∙◌, ◌+◌, inl, inr, refl, sym, subst, arith, ℕ, ◌≤◌, drop, length}
use Rattle.tokei_table_row.specs.Bytes.{line_len}
use Rattle.tokei_parts.specs.Modes.{Chain}
use Rattle.tokei_parts.specs.Places.{text_of}
use Rattle.tokei_parts.specs.Reached.{StepsTo}
use Rattle.tokei_parts.specs.Seen.{chain_of}
use Rattle.tokei_parts.specs.declared.place.Place.{Place}
use Rattle.tokei_parts.specs.declared.walk.Move.{Move}
use Rattle.tokei_parts.specs.declared.walk.Move.TheVariants.{On, Turn}
use Rattle.tokei_parts.specs.declared.walk.Reach.{Reach}
use Rattle.tokei_parts.proofs.LineEnds.{end_is, end_within}
use Rattle.tokei_parts.proofs.Reaching.{advance_goes, advance_rest, child_breaks, end_in_text, reach_here}
use Rattle.tokei_parts.proofs.Walking.{MovesIn}
use Rattle.tokei_parts.proofs.walk.take_step.Goals as goal

pub take_choice-requires-clause-closable : goal.take_choice-requires-clause-closable
take_choice-requires-clause-closable c = c.requires.reached.1.closable

pub take_choice-requires-clause-here : goal.take_choice-requires-clause-here
take_choice-requires-clause-here c =
    let begun = c.requires.reached in
    reach_here c.args.part.now begun.0 (chain_of c.args.stack.now.items) c.args.reach.now.at c.args.reach.now.steps begun.1 c.requires.some

pub take_choice-requires-clause-room : goal.take_choice-requires-clause-room
take_choice-requires-clause-room c =
    omega (arith, c.requires.reached.1.few, c.requires.some, end_in_text c.args.part.now c.requires.reached.1.begins)

pub line_stop-reach-requires : goal.line_stop-reach-requires
line_stop-reach-requires c = end_in_text c.args.part.now c.requires.reached.1.begins

pub returns-in-On-clause-steps : goal.returns-in-On-clause-steps
returns-in-On-clause-steps c =
    let p : Place = c.args.part.now in
    let before : Chain = chain_of c.args.stack.now.items in
    let behind : Chain = chain_of c.take_choice.new.stack.items in
    let reach : Reach = c.args.reach.now in
    let further : Reach = record { at = reach.at + c.in-On.len; child = reach.child; steps = c.take_choice.new.steps } in
    let same : c.in_ok-taken.taken ≡ c.in-On.taken = cc in
    let steps : (m : Move) → c.in_ok-taken.taken ≡ m → (MovesIn p before behind reach.at m → StepsTo p before reach behind further m) → StepsTo p before reach behind further c.in-On.taken =
    λ m e step. subst (StepsTo p before reach behind further) (sym e ∙ same) (step (subst (MovesIn p before behind reach.at) e c.in_ok-taken.ensures.takes)) in
    elim c.in-On.is [
      | inl e ↦ steps (On c.in-On.len) e (λ moves. advance_goes p before behind reach further c.requires.some c.in_ok-taken.ensures.counted c.in-On.len moves refl)
      | inr e ↦ steps (Turn c.in-On.len) e (λ moves. advance_goes p before behind reach further c.requires.some c.in_ok-taken.ensures.counted c.in-On.len moves refl)
    ]

pub returns-in-Rest-clause-steps : goal.returns-in-Rest-clause-steps
returns-in-Rest-clause-steps c =
    let p : Place = c.args.part.now in
    let before : Chain = chain_of c.args.stack.now.items in
    let behind : Chain = chain_of c.take_choice.new.stack.items in
    let reach : Reach = c.args.reach.now in
    let further : Reach = record { at = c.line_stop-reach.result; child = reach.child; steps = c.take_choice.new.steps } in
    let begins = c.requires.reached.1.begins in
    subst (StepsTo p before reach behind further) (sym c.in-Rest.is)
    (advance_rest p before behind reach further c.requires.some c.in_ok-taken.ensures.counted
    (subst (MovesIn p before behind reach.at) c.in-Rest.is c.in_ok-taken.ensures.takes)
    c.requires.reached (end_is (text_of p) p.start p.end c.line_stop-reach.result begins.part.high begins.line c.line_stop-reach.ensures.more c.line_stop-reach.ensures.last))

pub returns-in-Child-clause-steps : goal.returns-in-Child-clause-steps
returns-in-Child-clause-steps c =
    let p : Place = c.args.part.now in
    let before : Chain = chain_of c.args.stack.now.items in
    let behind : Chain = chain_of c.take_choice.new.stack.items in
    let reach : Reach = c.args.reach.now in
    let further : Reach = record { at = reach.at; child = reach.child; steps = c.take_choice.new.steps } in
    let opens = subst (MovesIn p before behind reach.at) c.in-Child.is c.in_ok-taken.ensures.takes in
    subst (StepsTo p before reach behind further) (sym c.in-Child.is)
    (child_breaks p before behind reach further c.requires.some c.in_ok-taken.ensures.counted opens.0 opens.1 refl)

pub overflow_add-reach : goal.overflow_add-reach
overflow_add-reach c =
    let p : Place = c.args.part.now in
    let at : ℕ = c.args.reach.now.at in
    let moves = MovesIn p (chain_of c.args.stack.now.items) (chain_of c.take_choice.new.stack.items) at in
    let inside : c.in-On.len ≤ line_len (drop at (text_of p)) = elim c.in-On.is [
      | inl e ↦ (subst moves e c.in_ok-taken.ensures.takes).within
      | inr e ↦ (subst moves e c.in_ok-taken.ensures.takes).within
    ] in
    let low : at ≤ length (text_of p) = omega (arith, c.requires.some, end_in_text p c.requires.reached.1.begins) in
    omega (arith, inside, end_within (text_of p) at (at + line_len (drop at (text_of p))) low refl)

pub returns-in-On-clause-child : goal.returns-in-On-clause-child
returns-in-On-clause-child c = λ e. c.in_ok-taken.ensures.child (sym c.in-On.taken-is ∙ e)

pub returns-in-On-clause-plain : goal.returns-in-On-clause-plain
returns-in-On-clause-plain c = λ e. c.in_ok-taken.ensures.plain (sym c.in-On.taken-is ∙ e)

pub returns-in-On-clause-kept : goal.returns-in-On-clause-kept
returns-in-On-clause-kept c = λ n e. c.in_ok-taken.ensures.kept n (sym c.in-On.taken-is ∙ e)

pub returns-in-Rest-clause-child : goal.returns-in-Rest-clause-child
returns-in-Rest-clause-child c = c.in_ok-taken.ensures.child

pub returns-in-Rest-clause-plain : goal.returns-in-Rest-clause-plain
returns-in-Rest-clause-plain c = c.in_ok-taken.ensures.plain

pub returns-in-Rest-clause-kept : goal.returns-in-Rest-clause-kept
returns-in-Rest-clause-kept c = c.in_ok-taken.ensures.kept

pub returns-in-Child-clause-child : goal.returns-in-Child-clause-child
returns-in-Child-clause-child c = c.in_ok-taken.ensures.child

pub returns-in-Child-clause-plain : goal.returns-in-Child-clause-plain
returns-in-Child-clause-plain c = c.in_ok-taken.ensures.plain

pub returns-in-Child-clause-kept : goal.returns-in-Child-clause-kept
returns-in-Child-clause-kept c = c.in_ok-taken.ensures.kept

pub returns-in-On-clause-same : goal.returns-in-On-clause-same
returns-in-On-clause-same c = refl

pub returns-in-Rest-clause-same : goal.returns-in-Rest-clause-same
returns-in-Rest-clause-same c = refl

pub returns-in-Child-clause-same : goal.returns-in-Child-clause-same
returns-in-Child-clause-same c = refl
