use Rattle.std.proofs.Common.{arith}
use Rattle.std.proofs.lemmas.Grind.{common_steps}
use Rattle.tokei_table.proofs.extend.listed_for.Goals as goal

pub loop-addition-preserved : goal.loop-addition-preserved
loop-addition-preserved c = grind (arith, common_steps)

pub returns : goal.returns
returns c = grind (arith, common_steps)
