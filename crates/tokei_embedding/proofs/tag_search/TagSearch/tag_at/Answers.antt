use Rattle.std.proofs.Common.{◌≡◌, ◌-◌, ◌≤◌, ◌∙◌, IfSome, length, ap, sym, subst, take, drop, length-take, length-drop, arith}
use Rattle.std.proofs.lemmas.Grind.{common_steps}
use Rattle.tokei_table_row.specs.Bytes.{begins}
use Rattle.tokei_embedding.specs.TagSearches.{TagSought}
use Rattle.tokei_embedding.proofs.Places.{part_from}
use Rattle.tokei_embedding.proofs.TagPlaces.{no_tag}
use Rattle.tokei_embedding.proofs.tag_search.TagSearch.tag_at.Goals as goal

pub returns-then-not-starts_with-clause-block : goal.returns-then-not-starts_with-clause-block
returns-then-not-starts_with-clause-block c =
    let a = c.args in
    let s = c.self.inside in
    let here = take (a.to - a.place) (drop a.place s.text.now) in
    rw (← c.self.view_is) (no_tag s.tag (take (a.to - a.from) (drop a.from s.text.now)) (drop a.place s.text.now) here (a.place - a.from)
    (part_from s.text.now a.from a.place a.to c.requires.order (omega arith))
    (ap (λ t. begins t here) (sym c.token_of.ensures) ∙ sym c.starts_with.ensures.value ∙ c.if-not-starts_with.true))

pub element_to-requires-clause-inside : goal.element_to-requires-clause-inside
element_to-requires-clause-inside c = grind (arith, common_steps)

pub slice_bounds-bytes_of-count : goal.slice_bounds-bytes_of-count
slice_bounds-bytes_of-count c = grind (arith, common_steps)

pub element_to-requires-clause-within : goal.element_to-requires-clause-within
element_to-requires-clause-within c = grind (arith, common_steps)

pub opening_at-requires-clause-ends : goal.opening_at-requires-clause-ends
opening_at-requires-clause-ends c = grind (arith, common_steps)

pub returns-in_err-opening-clause-block : goal.returns-in_err-opening-clause-block
returns-in_err-opening-clause-block c = grind (arith, common_steps)

pub opening_at-requires-clause-stands : goal.opening_at-requires-clause-stands
opening_at-requires-clause-stands c = grind (arith, common_steps)

pub bytes_of-value-requires : goal.bytes_of-value-requires
bytes_of-value-requires c =
    let a = c.args in
    let text = c.self.inside.text.now in
    let long : length (take (a.to - a.from) (drop a.from text)) ≡ a.to - a.from =
    omega (arith, length-take (a.to - a.from) (drop a.from text), length-drop a.from text, ap (λ (s : TagSought). length s.text) c.self.view_is) in
    subst (λ n. IfSome c.in_ok-opening.opening.value (λ s. (s.start ≤ s.stop) × (s.stop ≤ n))) (sym long) c.in_ok-opening.ensures.value_within

pub first_in-requires-clause-ends : goal.first_in-requires-clause-ends
first_in-requires-clause-ends c = grind (arith, common_steps)

pub returns-clause-same : goal.returns-clause-same
returns-clause-same c = grind (arith, common_steps)

pub returns-clause-block : goal.returns-clause-block
returns-clause-block c = grind (arith, common_steps)

pub overflow_sub-len : goal.overflow_sub-len
overflow_sub-len c = grind (arith, common_steps)

pub invariant_of-self-in_err-opening : goal.invariant_of-self-in_err-opening
invariant_of-self-in_err-opening c = grind (arith, common_steps)

pub slice_bounds-bytes_of-start : goal.slice_bounds-bytes_of-start
slice_bounds-bytes_of-start c = grind (arith, common_steps)

pub slice_bounds-bytes_of-end : goal.slice_bounds-bytes_of-end
slice_bounds-bytes_of-end c = grind (arith, common_steps)

pub first_in-requires-clause-order : goal.first_in-requires-clause-order
first_in-requires-clause-order c = omega arith

pub invariant_of-self-2 : goal.invariant_of-self-2
invariant_of-self-2 c =
    let i = c.self.invariant in
    record { begun = c.first_in.ensures.same ∙ i.begun; opened = c.opening_at.ensures.same ∙ i.opened; closed = i.closed; blank = i.blank }
