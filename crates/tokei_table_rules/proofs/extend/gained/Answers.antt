use Rattle.std.proofs.Common.{arith}
use Rattle.std.proofs.lemmas.Grind.{common_steps}
use Rattle.tokei_table_rules.proofs.extend.gained.Goals as goal

pub loop-extension-preserved : goal.loop-extension-preserved
loop-extension-preserved c = grind (arith, common_steps)

pub returns-clause-gained : goal.returns-clause-gained
returns-clause-gained c = grind (arith, common_steps)

pub returns-clause-known : goal.returns-clause-known
returns-clause-known c = grind (arith, common_steps)
