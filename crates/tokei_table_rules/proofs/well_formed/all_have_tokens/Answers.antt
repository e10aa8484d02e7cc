use Rattle.std.proofs.Common.{arith}
use Rattle.std.proofs.lemmas.Grind.{common_steps}
use Rattle.tokei_table_rules.proofs.well_formed.all_have_tokens.Goals as goal

pub returns : goal.returns
returns c = grind (arith, common_steps)

pub loop-row-preserved : goal.loop-row-preserved
loop-row-preserved c = grind (arith, common_steps)

pub returns-then-is_some : goal.returns-then-is_some
returns-then-is_some c = grind (arith, common_steps)
