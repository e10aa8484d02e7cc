use Rattle.std.proofs.Common.{arith}
use Rattle.std.proofs.lemmas.Grind.{common_steps}
use Rattle.tokei_walk.proofs.roots.copied_roots.Goals as goal

pub loop-root-preserved : goal.loop-root-preserved
loop-root-preserved c = grind (arith, common_steps)
