use Rattle.std.proofs.Common.{arith}
use Rattle.std.proofs.lemmas.Grind.{common_steps}
use Rattle.tokei_parts.proofs.class.encloses.Goals as goal

pub loop-pair-preserved : goal.loop-pair-preserved
loop-pair-preserved c = grind (arith, common_steps)

pub returns-then-ends_with : goal.returns-then-ends_with
returns-then-ends_with c = grind (arith, common_steps)

pub returns : goal.returns
returns c = grind (arith, common_steps)
