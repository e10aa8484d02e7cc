use Rattle.std.proofs.Common.{◌≡◌, ◌-◌, true, false, length, take, drop, length-drop, ◌∙◌, ap, sym, arith}
use Rattle.tokei_embedding.proofs.BlockLaws.{opening_fits}
use Rattle.tokei_embedding.proofs.FirstFences.{goes_on, over_closed}
use Rattle.tokei_embedding.proofs.FirstPlaces.{part_length}
use Rattle.tokei_embedding.proofs.Places.{first_where-found, first_where-none, part_from}
use Rattle.tokei_embedding.proofs.SolidFences.{none_at_all}
use Rattle.tokei_embedding.specs.Fences.{opens_fence, is_solid_fence}
use Rattle.tokei_embedding.proofs.fences.search_fence.Goals as goal

pub loop-at-init : goal.loop-at-init
loop-at-init c =
    let a = c.args in
    let e = c.next_backticks-at.ensures in
    record {
      low = omega (arith, e.low);
      high = e.high;
      none = goes_on a.text.now a.from a.from c.next_backticks-at.result a.to (omega arith) e.high
          (λ j l. absurd (omega (arith, l)))
          (over_closed a.text.now a.from c.next_backticks-at.result a.to c.requires.front e.passed);
    }

pub loop-at-preserved : goal.loop-at-preserved
loop-at-preserved c =
    let a = c.args in
    let i = c.loop-at.invariant in
    let at = c.loop-at.at in
    let e = c.next_backticks-at-in-loop-at.ensures in
    let next = c.next_backticks-at-in-loop-at.result in
    let closed : opens_fence (take (a.to - at) (drop at a.text.now)) ≡ false =
    sym c.opens_fence.ensures ∙ c.if-opens_fence.false in
    record {
      low = omega (arith, i.low, e.low);
      high = e.high;
      none = goes_on a.text.now a.from at next a.to i.low e.high i.none
          (over_closed a.text.now at next a.to closed e.passed);
    }

pub returns-then-opens_fence-clause-value : goal.returns-then-opens_fence-clause-value
returns-then-opens_fence-clause-value c =
    let a = c.args in
    let i = c.loop-at.invariant in
    let at = c.loop-at.at in
    let part = take (a.to - a.from) (drop a.from a.text.now) in
    let long : length part ≡ a.to - a.from = part_length a.text.now a.from (a.to - a.from) (omega arith) in
    let opens : opens_fence (drop (at - a.from) part) ≡ true =
    ap opens_fence (part_from a.text.now a.from at a.to i.low i.high) ∙ sym c.opens_fence.ensures ∙ c.if-opens_fence.true in
    sym (first_where-found opens_fence part (at - a.from) (omega (arith, long, i.low, c.loop-at-test.true)) opens i.none)

pub returns-then-opens_fence-clause-within : goal.returns-then-opens_fence-clause-within
returns-then-opens_fence-clause-within c =
    let a = c.args in
    let i = c.loop-at.invariant in
    let at = c.loop-at.at in
    let part = take (a.to - a.from) (drop a.from a.text.now) in
    let long : length part ≡ a.to - a.from = part_length a.text.now a.from (a.to - a.from) (omega arith) in
    let opens : opens_fence (drop (at - a.from) part) ≡ true =
    ap opens_fence (part_from a.text.now a.from at a.to i.low i.high) ∙ sym c.opens_fence.ensures ∙ c.if-opens_fence.true in
    omega (arith, long, opening_fits (drop (at - a.from) part) opens, length-drop (at - a.from) part)

pub returns-then-is_solid_fence-clause-value : goal.returns-then-is_solid_fence-clause-value
returns-then-is_solid_fence-clause-value c =
    let a = c.args in
    let i = c.loop-at.invariant in
    let at = c.loop-at.at in
    let part = take (a.to - a.from) (drop a.from a.text.now) in
    let solid : is_solid_fence (drop (at - a.from) part) ≡ true =
    ap is_solid_fence (part_from a.text.now a.from at a.to i.low i.high) ∙ sym c.is_solid_fence.ensures ∙ c.if-is_solid_fence.true in
    sym (first_where-none opens_fence part (λ j l. none_at_all part (at - a.from) i.none solid j))

pub returns-clause-value : goal.returns-clause-value
returns-clause-value c =
    let a = c.args in
    let i = c.loop-at.invariant in
    let part = take (a.to - a.from) (drop a.from a.text.now) in
    let long : length part ≡ a.to - a.from = part_length a.text.now a.from (a.to - a.from) (omega arith) in
    sym (first_where-none opens_fence part (λ j l. i.none j (omega (arith, l, long, c.loop-at-test.false))))

pub returns-then-from-to-clause-value : goal.returns-then-from-to-clause-value
returns-then-from-to-clause-value c =
    let a = c.args in
    let part = take (a.to - a.from) (drop a.from a.text.now) in
    let long : length part ≡ a.to - a.from = part_length a.text.now a.from (a.to - a.from) (omega arith) in
    sym (first_where-none opens_fence part (λ j l. absurd (omega (arith, l, long, c.if-from-to.true))))

pub overflow_add-at : goal.overflow_add-at
overflow_add-at c = omega arith
