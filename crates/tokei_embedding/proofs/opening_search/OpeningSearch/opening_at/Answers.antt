use Rattle.std.proofs.Common.{◌≡◌, ◌+◌, ◌-◌, length, take, drop, option_map, ap, ◌∙◌, arith}
use Rattle.std.proofs.lemmas.Grind.{common_steps}
use Rattle.tokei_embedding.proofs.TagOpenings.{no_opening, opened}
use Rattle.tokei_embedding.specs.Seen.{span_seen, opening_seen}
use Rattle.tokei_embedding.specs.TagSearches.{TagSought}
use Rattle.tokei_embedding.specs.Tags.{token_of, opening_past}
use Rattle.tokei_embedding.proofs.opening_search.OpeningSearch.opening_at.Goals as goal

pub returns-in_err-last-clause-value : goal.returns-in_err-last-clause-value
returns-in_err-last-clause-value c =
    let a = c.args in
    let s = c.self.inside in
    let n = a.at + length c.token_of.result.now in
    let long : length c.token_of.result.now ≡ length (token_of a.self.now.tag) = ap length c.token_of.ensures ∙ ap (λ (v : TagSought). length (token_of v.tag)) c.self.view_is in
    rw (← c.self.view_is)
    (ap (option_map opening_seen) c.from_residual.ensures
    ∙ no_opening s.tag s.text.now a.from a.at n a.to s.last_ends c.self.invariant.last
    (ap (λ t. a.at + length t) c.token_of.ensures) (omega (arith, long, c.requires.stands))
    c.in_err-last.ensures.value)

pub returns-clause-value : goal.returns-clause-value
returns-clause-value c =
    let a = c.args in
    let s = c.self.inside in
    let n = a.at + length c.token_of.result.now in
    let long : length c.token_of.result.now ≡ length (token_of a.self.now.tag) = ap length c.token_of.ensures ∙ ap (λ (v : TagSought). length (token_of v.tag)) c.self.view_is in
    rw (← c.self.view_is)
    (c.opening_past.ensures.value
    ∙ ap (λ (v : TagSought). opening_past a.at n (take (a.to - (a.from + n)) (drop (a.from + n) v.text)) (option_map span_seen c.value_in-value.result)) c.value_in-value.ensures.same
    ∙ opened s.tag s.text.now a.from a.at n a.to c.in_ok-last.last s.last_ends
    (option_map span_seen c.value_in-value.result) c.self.invariant.last
    (ap (λ t. a.at + length t) c.token_of.ensures)
    (omega (arith, long, c.requires.stands, c.in_ok-last.ensures.within))
    c.in_ok-last.ensures.value c.value_in-value.ensures.value)

pub overflow_add-start-2 : goal.overflow_add-start-2
overflow_add-start-2 c = grind (arith, common_steps)

pub returns-in_err-last-clause-whole : goal.returns-in_err-last-clause-whole
returns-in_err-last-clause-whole c = grind (arith, common_steps)

pub opening_past-requires-clause-ends : goal.opening_past-requires-clause-ends
opening_past-requires-clause-ends c = grind (arith, common_steps)

pub opening_past-requires-clause-order : goal.opening_past-requires-clause-order
opening_past-requires-clause-order c = grind (arith, common_steps)

pub value_in-value-requires-clause-ends : goal.value_in-value-requires-clause-ends
value_in-value-requires-clause-ends c = grind (arith, common_steps)

pub returns-in_err-last-clause-value_within : goal.returns-in_err-last-clause-value_within
returns-in_err-last-clause-value_within c = grind (arith, common_steps)

pub opening_past-requires-clause-behind : goal.opening_past-requires-clause-behind
opening_past-requires-clause-behind c = grind (arith, common_steps)

pub returns-clause-whole : goal.returns-clause-whole
returns-clause-whole c = grind (arith, common_steps)

pub returns-clause-value_within : goal.returns-clause-value_within
returns-clause-value_within c = grind (arith, common_steps)

pub opening_past-requires-clause-within : goal.opening_past-requires-clause-within
opening_past-requires-clause-within c = grind (arith, common_steps)
