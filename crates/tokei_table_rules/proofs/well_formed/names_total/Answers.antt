use Rattle.std.proofs.Common.{arith}
use Rattle.std.proofs.lemmas.Grind.{common_steps}
use Rattle.tokei_table_rules.proofs.well_formed.names_total.Goals as goal

pub returns : goal.returns
returns c = grind (arith, common_steps)

pub returns-then-is_total : goal.returns-then-is_total
returns-then-is_total c = grind (arith, common_steps)

pub loop-row-preserved : goal.loop-row-preserved
loop-row-preserved c = grind (arith, common_steps)
