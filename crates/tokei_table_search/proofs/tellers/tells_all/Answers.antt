use Rattle.std.proofs.Common.{arith}
use Rattle.std.proofs.lemmas.Grind.{common_steps}
use Rattle.tokei_table_search.proofs.tellers.tells_all.Goals as goal

pub returns : goal.returns
returns c = grind (arith, common_steps)

pub returns-then-not-tells : goal.returns-then-not-tells
returns-then-not-tells c = grind (arith, common_steps)

pub loop-opener-preserved : goal.loop-opener-preserved
loop-opener-preserved c = grind (arith, common_steps)
