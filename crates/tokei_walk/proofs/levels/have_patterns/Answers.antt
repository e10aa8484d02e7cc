use Rattle.std.proofs.Common.{arith}
use Rattle.std.proofs.lemmas.Grind.{common_steps}
use Rattle.tokei_walk.proofs.levels.have_patterns.Goals as goal

pub returns-then-has_patterns : goal.returns-then-has_patterns
returns-then-has_patterns c = grind (arith, common_steps)

pub loop-level-preserved : goal.loop-level-preserved
loop-level-preserved c = grind (arith, common_steps)

pub returns : goal.returns
returns c = grind (arith, common_steps)
