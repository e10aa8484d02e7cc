use Rattle.std.proofs.Common.{arith}
use Rattle.std.proofs.lemmas.Grind.{common_steps}
use Rattle.tokei_walk.specs.Levels.{is_excluded}
use Rattle.tokei_walk.proofs.levels.is_excluded.Goals as goal

pub returns-then-fits : goal.returns-then-fits
unfolding is_excluded
returns-then-fits c = grind (arith, common_steps)

pub loop-pattern-preserved : goal.loop-pattern-preserved
unfolding is_excluded
loop-pattern-preserved c = grind (arith, common_steps)

pub returns : goal.returns
unfolding is_excluded
returns c = grind (arith, common_steps)
