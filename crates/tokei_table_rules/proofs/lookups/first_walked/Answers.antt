use Rattle.std.proofs.Common.{arith}
use Rattle.std.proofs.lemmas.Grind.{common_steps}
use Rattle.tokei_table_rules.proofs.lookups.first_walked.Goals as goal

pub returns-then-has_walked : goal.returns-then-has_walked
returns-then-has_walked c = grind (arith, common_steps)

pub loop-i-preserved : goal.loop-i-preserved
loop-i-preserved c = grind (arith, common_steps)

pub returns : goal.returns
returns c = grind (arith, common_steps)
