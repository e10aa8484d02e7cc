use Rattle.std.proofs.Common.{arith}
use Rattle.std.proofs.lemmas.Grind.{common_steps}
use Rattle.tokei_parts.proofs.choice.any_begins.Goals as goal

pub loop-token-preserved : goal.loop-token-preserved
loop-token-preserved c = grind (arith, common_steps)

pub returns-then-begins : goal.returns-then-begins
returns-then-begins c = grind (arith, common_steps)

pub returns : goal.returns
returns c = grind (arith, common_steps)
