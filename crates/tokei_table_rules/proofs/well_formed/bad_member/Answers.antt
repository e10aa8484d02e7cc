use Rattle.std.proofs.Common.{arith}
use Rattle.std.proofs.lemmas.Grind.{common_steps}
use Rattle.tokei_table_rules.specs.Tokens.{has_tokens}
use Rattle.tokei_table_rules.proofs.well_formed.bad_member.Goals as goal

pub returns-then-not-are_tokens-2-clause-bad : goal.returns-then-not-are_tokens-2-clause-bad
returns-then-not-are_tokens-2-clause-bad c = grind (arith, common_steps)

pub returns-then-not-are_pairs-5-clause-bad : goal.returns-then-not-are_pairs-5-clause-bad
returns-then-not-are_pairs-5-clause-bad c = grind (arith, common_steps)

pub returns-then-not-are_tokens-3-clause-bad : goal.returns-then-not-are_tokens-3-clause-bad
returns-then-not-are_tokens-3-clause-bad c = grind (arith, common_steps)

pub returns-else-not-are_tokens-3-clause-bad : goal.returns-else-not-are_tokens-3-clause-bad
returns-else-not-are_tokens-3-clause-bad c = grind (arith, common_steps)

pub returns-then-not-are_pairs-4-clause-bad : goal.returns-then-not-are_pairs-4-clause-bad
returns-then-not-are_pairs-4-clause-bad c = grind (arith, common_steps)

pub returns-then-not-are_pairs-3-clause-bad : goal.returns-then-not-are_pairs-3-clause-bad
returns-then-not-are_pairs-3-clause-bad c = grind (arith, common_steps)

pub returns-then-not-are_tokens-3-clause-found : goal.returns-then-not-are_tokens-3-clause-found
unfolding has_tokens
returns-then-not-are_tokens-3-clause-found c = grind (arith, common_steps)

pub returns-else-not-are_tokens-3-clause-found : goal.returns-else-not-are_tokens-3-clause-found
unfolding has_tokens
returns-else-not-are_tokens-3-clause-found c = grind (arith, common_steps)

pub returns-then-not-are_tokens-2-clause-found : goal.returns-then-not-are_tokens-2-clause-found
unfolding has_tokens
returns-then-not-are_tokens-2-clause-found c = grind (arith, common_steps)

pub returns-then-not-are_pairs-5-clause-found : goal.returns-then-not-are_pairs-5-clause-found
unfolding has_tokens
returns-then-not-are_pairs-5-clause-found c = grind (arith, common_steps)
