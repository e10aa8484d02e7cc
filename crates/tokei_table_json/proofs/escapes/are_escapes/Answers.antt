use Rattle.std.proofs.Common.{arith}
use Rattle.std.proofs.lemmas.Grind.{common_steps}
use Rattle.tokei_table_json.proofs.escapes.are_escapes.Goals as goal

pub loop-c-preserved : goal.loop-c-preserved
loop-c-preserved c = grind (arith, common_steps)

pub loop-c-preserved-then-c-eq92 : goal.loop-c-preserved-then-c-eq92
loop-c-preserved-then-c-eq92 c = grind (arith, common_steps)
