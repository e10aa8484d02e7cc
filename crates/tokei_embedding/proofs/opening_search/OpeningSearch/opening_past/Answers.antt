use Rattle.std.proofs.Common.{◌+◌, ◌-◌, ◌≤◌, None, Some, option_map, refl, ap, ◌∙◌, arith}
use Rattle.std.proofs.lemmas.Grind.{common_steps}
use Rattle.tokei_embedding.proofs.TagOpenings.{opens_past, end_within}
use Rattle.tokei_embedding.specs.Seen.{span_seen, opening_seen}
use Rattle.tokei_embedding.specs.Spans.{shifted}
use Rattle.tokei_embedding.proofs.opening_search.OpeningSearch.opening_past.Goals as goal

pub returns-in_err-end-clause-value : goal.returns-in_err-end-clause-value
returns-in_err-end-clause-value c =
    let a = c.args in
    let behind = c.value_end-behind.result in
    let value = option_map span_seen a.value in
    let near : a.start + behind ≤ a.to = omega (arith, c.value_end-behind.ensures, end_within a.value (a.to - a.start) c.requires.within) in
    rw (← c.self.view_is)
    (ap (option_map opening_seen) c.from_residual.ensures
    ∙ opens_past c.self.inside.text.now a.at a.inside a.start a.to behind c.self.inside.ends value
    (option_map (shifted a.inside) value) None c.self.invariant.first near
    c.value_end-behind.ensures refl c.in_err-end.ensures.value)

pub returns-clause-value : goal.returns-clause-value
returns-clause-value c =
    let a = c.args in
    let behind = c.value_end-behind.result in
    let near : a.start + behind ≤ a.to = omega (arith, c.value_end-behind.ensures, end_within a.value (a.to - a.start) c.requires.within) in
    rw (← c.self.view_is)
    (opens_past c.self.inside.text.now a.at a.inside a.start a.to behind c.self.inside.ends
    (option_map span_seen a.value) (option_map span_seen c.shifted.result)
    (Some c.in_ok-end.end) c.self.invariant.first near c.value_end-behind.ensures
    c.shifted.ensures.value c.in_ok-end.ensures.value)

pub shifted-requires : goal.shifted-requires
shifted-requires c = grind (arith, common_steps)

pub returns-in_err-end-clause-value_within : goal.returns-in_err-end-clause-value_within
returns-in_err-end-clause-value_within c = grind (arith, common_steps)

pub overflow_add-result-3 : goal.overflow_add-result-3
overflow_add-result-3 c = grind (arith, common_steps)

pub returns-in_err-end-clause-whole : goal.returns-in_err-end-clause-whole
returns-in_err-end-clause-whole c = grind (arith, common_steps)

pub returns-clause-value_within : goal.returns-clause-value_within
returns-clause-value_within c = grind (arith, common_steps)

pub returns-clause-whole : goal.returns-clause-whole
returns-clause-whole c = grind (arith, common_steps)

pub overflow_add-result-2 : goal.overflow_add-result-2
overflow_add-result-2 c = grind (arith, common_steps)
