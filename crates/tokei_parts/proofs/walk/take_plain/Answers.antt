use Rattle.std.proofs.Common.{◌∙◌, inl, inr, arith}
use Rattle.tokei_parts.specs.Seen.{chain_of}
use Rattle.tokei_parts.proofs.LineEnds.{below_or}
use Rattle.tokei_parts.proofs.Reaching.{end_in_text, reach_here, stop_low, stops_here}
use Rattle.tokei_parts.proofs.walk.take_plain.Goals as goal

pub next_child-reach-requires-clause-here : goal.next_child-reach-requires-clause-here
next_child-reach-requires-clause-here c =
    let begun = c.requires.reached in
    reach_here c.args.part.now begun.0 (chain_of c.args.stack.now) c.args.reach.now.at c.args.reach.now.steps begun.1 c.requires.some

pub next_child-reach-requires-clause-childless : goal.next_child-reach-requires-clause-childless
next_child-reach-requires-clause-childless c = c.requires.childless

pub next_child-reach-requires-clause-inside : goal.next_child-reach-requires-clause-inside
next_child-reach-requires-clause-inside c =
    let begun = c.requires.reached in
    omega (arith, c.requires.some, c.requires.stop, stop_low c.args.part.now begun.0 (chain_of c.args.stack.now) c.args.reach.now.at c.args.reach.now.steps begun.1 c.requires.some)

pub next_child-reach-requires-clause-line : goal.next_child-reach-requires-clause-line
next_child-reach-requires-clause-line c =
    let begun = c.requires.reached in
    c.requires.stop ∙ stops_here c.args.part.now begun.0 (chain_of c.args.stack.now) c.args.reach.now.at c.args.reach.now.steps begun.1 c.requires.some

pub plain_end-plain-requires : goal.plain_end-plain-requires
plain_end-plain-requires c = omega (arith, end_in_text c.args.part.now c.requires.reached.1.begins, c.min.ensures)

pub take_bytes-requires-clause-reached : goal.take_bytes-requires-clause-reached
take_bytes-requires-clause-reached c = (chain_of c.args.stack.now, (c.requires.plain, c.requires.reached))

pub take_bytes-requires-clause-childless : goal.take_bytes-requires-clause-childless
take_bytes-requires-clause-childless c = λ _ q low high.
    c.next_child-reach.ensures.childless q low (omega (arith, low, high, c.min.ensures, c.plain_end-plain.ensures.high))

pub take_bytes-requires-clause-plain : goal.take_bytes-requires-clause-plain
take_bytes-requires-clause-plain c = c.plain_end-plain.ensures.plain

pub returns-clause-childless : goal.returns-clause-childless
returns-clause-childless c = λ q low high. c.next_child-reach.ensures.childless q (omega (arith, low, c.take_bytes.ensures.low)) (omega (arith, high, c.take_bytes.ensures.child))

pub returns-clause-plain : goal.returns-clause-plain
returns-clause-plain c = c.plain_end-plain.ensures.plain

pub returns-clause-plain_high : goal.returns-clause-plain_high
returns-clause-plain_high c = elim (below_or c.args.reach.now.at c.plain_end-plain.result) [
  | inl h ↦ omega (arith, c.min.ensures, c.plain_end-plain.ensures.high h)
  | inr h ↦ omega (arith, h, c.requires.some)
]

pub take_bytes-requires-clause-within : goal.take_bytes-requires-clause-within
take_bytes-requires-clause-within c = λ low. omega (arith, c.min.ensures, c.plain_end-plain.ensures.high low)

pub take_bytes-requires-clause-some : goal.take_bytes-requires-clause-some
take_bytes-requires-clause-some c = c.requires.some

pub returns-clause-same : goal.returns-clause-same
returns-clause-same c = c.next_child-reach.ensures.same

pub returns-clause-low : goal.returns-clause-low
returns-clause-low c = c.take_bytes.ensures.low

pub returns-clause-plain_low : goal.returns-clause-plain_low
returns-clause-plain_low c = c.plain_end-plain.ensures.low

pub returns-clause-goes_on : goal.returns-clause-goes_on
returns-clause-goes_on c = c.take_bytes.ensures.goes_on (chain_of c.args.stack.now) c.requires.plain
