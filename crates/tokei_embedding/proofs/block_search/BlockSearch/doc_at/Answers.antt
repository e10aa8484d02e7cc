use Rattle.std.proofs.Common.{arith}
use Rattle.std.proofs.lemmas.Grind.{common_steps}
use Rattle.tokei_embedding.proofs.block_search.BlockSearch.doc_at.Goals as goal

pub returns-clause-value : goal.returns-clause-value
returns-clause-value c = grind (arith, common_steps)

pub invariant_of-self : goal.invariant_of-self
invariant_of-self c = grind (arith, common_steps)

pub len_at-requires-clause-marked : goal.len_at-requires-clause-marked
len_at-requires-clause-marked c = grind (arith, common_steps)

pub invariant_of-self-then-eq : goal.invariant_of-self-then-eq
invariant_of-self-then-eq c = grind (arith, common_steps)

pub len_at-requires-clause-inside : goal.len_at-requires-clause-inside
len_at-requires-clause-inside c = grind (arith, common_steps)

pub returns-clause-same : goal.returns-clause-same
returns-clause-same c = grind (arith, common_steps)

pub invariant_of-self-2 : goal.invariant_of-self-2
invariant_of-self-2 c = grind (arith, common_steps)

pub len_at-requires-2-clause-inside : goal.len_at-requires-2-clause-inside
len_at-requires-2-clause-inside c = grind (arith, common_steps)

pub len_at-requires-2-clause-marked : goal.len_at-requires-2-clause-marked
len_at-requires-2-clause-marked c = grind (arith, common_steps)

pub returns-then-eq-clause-same : goal.returns-then-eq-clause-same
returns-then-eq-clause-same c = grind (arith, common_steps)

pub returns-then-eq-clause-value : goal.returns-then-eq-clause-value
returns-then-eq-clause-value c = grind (arith, common_steps)
