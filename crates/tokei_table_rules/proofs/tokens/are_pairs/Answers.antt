use Rattle.std.proofs.Common.{arith}
use Rattle.std.proofs.lemmas.Grind.{common_steps}
use Rattle.tokei_table_rules.proofs.tokens.are_pairs.Goals as goal

pub loop-pair-preserved : goal.loop-pair-preserved
loop-pair-preserved c = grind (arith, common_steps)

pub returns-then-not-is_token : goal.returns-then-not-is_token
returns-then-not-is_token c = grind (arith, common_steps)

pub returns : goal.returns
returns c = grind (arith, common_steps)
