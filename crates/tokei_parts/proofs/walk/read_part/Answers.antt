use Rattle.std.proofs.Common.{◌≡◌, ◌∙◌, refl, sym, ap, subst, arith, ℕ, ◌<◌, ◌≤◌, ◌-◌, Some}
use Rattle.tokei_parts.specs.Items.{kind_in}
use Rattle.tokei_parts.specs.Modes.{innermost}
use Rattle.tokei_parts.specs.Places.{text_of, block_from}
use Rattle.tokei_parts.specs.Reached.{Reaches, part_stop}
use Rattle.tokei_parts.specs.ReadingOf.{row_in, blocks_of}
use Rattle.tokei_parts.specs.Seen.{chain_of, block_of}
use Rattle.tokei_parts.specs.Walked.{Reads}
use Rattle.tokei_parts.specs.declared.walk.PartEnd.TheVariants.{Broken}
use Rattle.tokei_parts.proofs.LineEnds.{end_is}
use Rattle.tokei_parts.proofs.Reaching.{end_in_text, front_none, reach_none}
use Rattle.tokei_parts.proofs.walk.read_part.Goals as goal
use Rattle.tokei_parts.proofs.walk.read_part.Goals.{After-line_stop-stop, After-take_plain-plain}

-- where the part's line stops
stop_is : (c : After-line_stop-stop) → c.line_stop-stop.result ≡ part_stop c.args.part.now
stop_is c =
    let p = c.args.part.now in
    end_is (text_of p) p.start p.end c.line_stop-stop.result c.requires.begins.part.high c.requires.begins.line c.line_stop-stop.ensures.more c.line_stop-stop.ensures.last

-- how the part leads on behind bytes of plain text
led : (c : After-take_plain-plain)
    → Reaches c.args.part.now (chain_of c.args.stack.now.items) (chain_of c.loop-reach.stack.items) c.take_plain-plain.new.reach.at c.take_plain-plain.new.reach.steps
led c =
    let p = c.args.part.now in
    let begun = chain_of c.args.stack.now.items in
    subst (λ es. Reaches p begun (chain_of es) c.take_plain-plain.new.reach.at c.take_plain-plain.new.reach.steps) c.deref-in-loop-reach-2.ensures.value
    (c.take_plain-plain.ensures.goes_on begun
    (subst (λ es. Reaches p begun (chain_of es) c.loop-reach.reach.at c.loop-reach.reach.steps) (sym c.deref-in-loop-reach-2.ensures.value) c.loop-reach.invariant.reaches))

pub line_stop-stop-requires : goal.line_stop-stop-requires
line_stop-stop-requires c = end_in_text c.args.part.now c.requires.begins

pub loop-reach-init : goal.loop-reach-init
loop-reach-init c = record {
  same = refl;
  reaches = reach_none c.args.part.now (chain_of c.args.stack.now.items) c.requires.begins c.requires.closable;
  childless = λ q low high. absurd (omega (arith, low, high));
  front = front_none c.args.part.now c.requires.begins;
}

pub take_plain-plain-requires-clause-stop : goal.take_plain-plain-requires-clause-stop
take_plain-plain-requires-clause-stop c = stop_is (goal.at.take_plain-plain-requires-clause-stop c).After-line_stop-stop

pub end_line-requires-clause-stop : goal.end_line-requires-clause-stop
end_line-requires-clause-stop c = stop_is (goal.at.end_line-requires-clause-stop c).After-line_stop-stop

pub take_within-requires-clause-reached : goal.take_within-requires-clause-reached
take_within-requires-clause-reached c = (chain_of c.args.stack.now.items, c.loop-reach.invariant.reaches)

pub take_plain-plain-requires-clause-reached : goal.take_plain-plain-requires-clause-reached
take_plain-plain-requires-clause-reached c =
    let begun = chain_of c.args.stack.now.items in
    (begun, subst (λ es. Reaches c.args.part.now begun (chain_of es) c.loop-reach.reach.at c.loop-reach.reach.steps) (sym c.deref-in-loop-reach-2.ensures.value) c.loop-reach.invariant.reaches)

pub take_plain-plain-requires-clause-plain : goal.take_plain-plain-requires-clause-plain
take_plain-plain-requires-clause-plain c =
    ap (λ es. innermost (chain_of es)) (c.deref-in-loop-reach-2.ensures.value ∙ sym c.deref-in-loop-reach.ensures.value) ∙ sym c.in_default.ensures

pub breaks_off-requires-clause-reached : goal.breaks_off-requires-clause-reached
breaks_off-requires-clause-reached c = (chain_of c.args.stack.now.items, led (goal.at.breaks_off-requires-clause-reached c).After-take_plain-plain)

pub breaks_off-requires-clause-plain : goal.breaks_off-requires-clause-plain
breaks_off-requires-clause-plain c = ap (λ es. innermost (chain_of es)) (sym c.deref-in-loop-reach.ensures.value) ∙ sym c.in_default.ensures

pub breaks_off-requires-clause-childless : goal.breaks_off-requires-clause-childless
breaks_off-requires-clause-childless c = c.take_plain-plain.ensures.childless

pub end_line-requires-clause-reached : goal.end_line-requires-clause-reached
end_line-requires-clause-reached c =
    let begun = chain_of c.args.stack.now.items in
    (begun, subst (λ es. Reaches c.args.part.now begun (chain_of es) c.loop-reach.reach.at c.loop-reach.reach.steps) (sym c.deref-2.ensures.value) c.loop-reach.invariant.reaches)

pub loop-reach-preserved-then-part-reach : goal.loop-reach-preserved-then-part-reach
loop-reach-preserved-then-part-reach c = record {
  same = c.take_plain-plain.ensures.same ∙ c.loop-reach.invariant.same;
  reaches = led (goal.at.loop-reach-preserved-then-part-reach c).After-take_plain-plain;
  childless = c.take_plain-plain.ensures.childless;
  front = c.front_behind-front.ensures;
}

pub loop-reach-preserved-in-Some : goal.loop-reach-preserved-in-Some
loop-reach-preserved-in-Some c =
    let e = c.in_ok-take_within.ensures in
    record {
      same = c.loop-reach.invariant.same;
      reaches = e.advances.goes_on (chain_of c.args.stack.now.items) c.loop-reach.invariant.reaches;
      childless = λ q low high. c.loop-reach.invariant.childless q (omega (arith, low, e.advances.on)) (omega (arith, high, e.child));
      front = c.loop-reach.invariant.front;
    }

pub loop-reach-preserved : goal.loop-reach-preserved
loop-reach-preserved c = record {
  same = c.breaks_off.ensures.same ∙ c.take_plain-plain.ensures.same ∙ c.loop-reach.invariant.same;
  reaches = (c.in_ok-breaks_off.ensures.advances c.if-branch.false).goes_on (chain_of c.args.stack.now.items) (led (goal.at.loop-reach-preserved c).After-take_plain-plain);
  childless = c.in_ok-breaks_off.ensures.childless;
  front = c.front_behind-front.ensures;
}

pub returns-then-branch-clause-reads : goal.returns-then-branch-clause-reads
returns-then-branch-clause-reads c =
    (c.in_ok-breaks_off.ensures.breaks c.if-branch.true).reads (chain_of c.args.stack.now.items) (led (goal.at.returns-then-branch-clause-reads c).After-take_plain-plain)

pub returns-clause-reads : goal.returns-clause-reads
returns-clause-reads c =
    let p = c.args.part.now in
    let begun = chain_of c.args.stack.now.items in
    let kind = sym (c.kind_of-begun.ensures ∙ ap kind_in (c.innermost.ensures ∙ ap (λ es. innermost (chain_of es)) c.deref.ensures.value)) in
    let reaches = subst (λ es. Reaches p begun (chain_of es) c.loop-reach.reach.at c.loop-reach.reach.steps) (sym c.deref-2.ensures.value) c.loop-reach.invariant.reaches in
    subst (λ es. Reads (row_in p.reading.now) (blocks_of p.reading.now) p.behind_child p.reading.now.docs_are_comments
    begun (chain_of es) p.start (text_of p) c.end_line.result) c.deref-2.ensures.value
    (c.end_line.ensures.reads begun kind reaches)

pub end_line-requires-clause-front : goal.end_line-requires-clause-front
end_line-requires-clause-front c = c.loop-reach.invariant.front

broken_at : (a b : ℕ) → Broken a ≡ Broken b → a ≡ b
broken_at a b e = cc

-- what is left of the line becomes less
nearer : (end at plain next : ℕ) → at < end → at ≤ plain → plain < next → end - next < end - at
nearer end at plain next inside low on = omega arith

ended : (end at next : ℕ) → at < end → end ≤ next → end - next < end - at
ended end at next inside over = omega arith

pub returns-then-branch-clause-found : goal.returns-then-branch-clause-found
returns-then-branch-clause-found c = λ at is.
    subst (λ n. block_from c.args.part.now n ≡ Some (block_of c.breaks_off.new.found)) (broken_at c.breaks_off.new.reach.at at is)
    (c.in_ok-breaks_off.ensures.found c.if-branch.true)

pub returns-then-branch-clause-same : goal.returns-then-branch-clause-same
returns-then-branch-clause-same c = c.breaks_off.ensures.same ∙ c.take_plain-plain.ensures.same ∙ c.loop-reach.invariant.same

pub returns-in_err-breaks_off-clause-same : goal.returns-in_err-breaks_off-clause-same
returns-in_err-breaks_off-clause-same c = c.breaks_off.ensures.same ∙ c.take_plain-plain.ensures.same ∙ c.loop-reach.invariant.same

pub returns-in_err-take_within-clause-same : goal.returns-in_err-take_within-clause-same
returns-in_err-take_within-clause-same c = c.loop-reach.invariant.same

pub returns-clause-found : goal.returns-clause-found
returns-clause-found c = λ at is. absurd (c.end_line.ensures.line at is)

pub loop-reach-smaller : goal.loop-reach-smaller
loop-reach-smaller c =
    nearer c.args.part.now.end c.loop-reach.reach.at c.take_plain-plain.new.reach.at c.breaks_off.new.reach.at c.loop-reach-test.true
    c.take_plain-plain.ensures.low (c.in_ok-breaks_off.ensures.advances c.if-branch.false).on

pub loop-reach-smaller-then-part-reach : goal.loop-reach-smaller-then-part-reach
loop-reach-smaller-then-part-reach c = ended c.args.part.now.end c.loop-reach.reach.at c.take_plain-plain.new.reach.at c.loop-reach-test.true c.if-part-reach.true

pub loop-reach-smaller-in-Some : goal.loop-reach-smaller-in-Some
loop-reach-smaller-in-Some c =
    nearer c.args.part.now.end c.loop-reach.reach.at c.loop-reach.reach.at c.take_within.new.reach.at c.loop-reach-test.true (omega arith)
    c.in_ok-take_within.ensures.advances.on

pub take_within-requires-clause-some : goal.take_within-requires-clause-some
take_within-requires-clause-some c = c.loop-reach-test.true

pub take_within-requires-clause-within : goal.take_within-requires-clause-within
take_within-requires-clause-within c = c.in-Some.ensures ∙ ap (λ es. innermost (chain_of es)) c.deref-in-loop-reach.ensures.value

pub take_plain-plain-requires-clause-some : goal.take_plain-plain-requires-clause-some
take_plain-plain-requires-clause-some c = c.loop-reach-test.true

pub take_plain-plain-requires-clause-childless : goal.take_plain-plain-requires-clause-childless
take_plain-plain-requires-clause-childless c = c.loop-reach.invariant.childless

pub take_plain-plain-requires-clause-searched : goal.take_plain-plain-requires-clause-searched
take_plain-plain-requires-clause-searched c = c.loop-reach.invariant.same ∙ c.requires.searched

pub front_behind-front-requires-clause-front : goal.front_behind-front-requires-clause-front
front_behind-front-requires-clause-front c = c.loop-reach.invariant.front

pub front_behind-front-requires-clause-low : goal.front_behind-front-requires-clause-low
front_behind-front-requires-clause-low c = c.take_plain-plain.ensures.plain_low

pub front_behind-front-requires-clause-high : goal.front_behind-front-requires-clause-high
front_behind-front-requires-clause-high c = c.take_plain-plain.ensures.plain_high

pub front_behind-front-requires-clause-plain : goal.front_behind-front-requires-clause-plain
front_behind-front-requires-clause-plain c = c.take_plain-plain.ensures.plain

pub breaks_off-requires-clause-some : goal.breaks_off-requires-clause-some
breaks_off-requires-clause-some c = c.if-part-reach.false

pub breaks_off-requires-clause-searched : goal.breaks_off-requires-clause-searched
breaks_off-requires-clause-searched c = c.take_plain-plain.ensures.same ∙ c.loop-reach.invariant.same ∙ c.requires.searched

pub end_line-requires-clause-ended : goal.end_line-requires-clause-ended
end_line-requires-clause-ended c = c.loop-reach-test.false

pub end_line-requires-clause-some : goal.end_line-requires-clause-some
end_line-requires-clause-some c = c.requires.some

pub end_line-requires-clause-within : goal.end_line-requires-clause-within
end_line-requires-clause-within c = c.line_stop-stop.ensures.within

pub returns-clause-same : goal.returns-clause-same
returns-clause-same c = c.loop-reach.invariant.same
