use Rattle.std.proofs.Common.{arith}
use Rattle.std.proofs.lemmas.Grind.{common_steps}
use Rattle.tokei_embedding.proofs.tag_search.TagSearch.element_to.Goals as goal

pub slice_bounds-result-start : goal.slice_bounds-result-start
slice_bounds-result-start c = grind (arith, common_steps)

pub returns-then-is_blank_in-clause-element : goal.returns-then-is_blank_in-clause-element
returns-then-is_blank_in-clause-element c = grind (arith, common_steps)

pub is_blank_in-requires-clause-ends : goal.is_blank_in-requires-clause-ends
is_blank_in-requires-clause-ends c = grind (arith, common_steps)

pub returns-clause-same : goal.returns-clause-same
returns-clause-same c = grind (arith, common_steps)

pub slice_bounds-result-end : goal.slice_bounds-result-end
slice_bounds-result-end c = grind (arith, common_steps)

pub slice_bounds-result-count : goal.slice_bounds-result-count
slice_bounds-result-count c = grind (arith, common_steps)

pub returns-in_err-at-clause-element : goal.returns-in_err-at-clause-element
returns-in_err-at-clause-element c = grind (arith, common_steps)

pub returns-then-is_blank_in-clause-same : goal.returns-then-is_blank_in-clause-same
returns-then-is_blank_in-clause-same c = grind (arith, common_steps)

pub returns-clause-element : goal.returns-clause-element
returns-clause-element c = grind (arith, common_steps)
