use Rattle.std.proofs.Common.{arith}
use Rattle.std.proofs.lemmas.Grind.{common_steps}
use Rattle.tokei_embedding.proofs.opening_search.first_opening.Goals as goal

pub opening_at-requires-clause-stands : goal.opening_at-requires-clause-stands
opening_at-requires-clause-stands c = grind (arith, common_steps)

pub returns-clause-value : goal.returns-clause-value
returns-clause-value c = grind (arith, common_steps)

pub returns-clause-whole : goal.returns-clause-whole
returns-clause-whole c = grind (arith, common_steps)

pub opening_at-requires-clause-ends : goal.opening_at-requires-clause-ends
opening_at-requires-clause-ends c = grind (arith, common_steps)

pub returns-clause-value_within : goal.returns-clause-value_within
returns-clause-value_within c = grind (arith, common_steps)
