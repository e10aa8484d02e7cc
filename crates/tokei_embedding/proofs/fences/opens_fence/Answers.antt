use Rattle.std.proofs.Common.{arith}
use Rattle.std.proofs.lemmas.Grind.{common_steps}
use Rattle.tokei_embedding.proofs.fences.opens_fence.Goals as goal

pub returns-else-len-gt0 : goal.returns-else-len-gt0
returns-else-len-gt0 c = grind (arith, common_steps)

pub returns-then-len-gt0 : goal.returns-then-len-gt0
returns-then-len-gt0 c = grind (arith, common_steps)

pub slice_bounds-behind-start : goal.slice_bounds-behind-start
slice_bounds-behind-start c = omega arith

pub slice_bounds-behind-count : goal.slice_bounds-behind-count
slice_bounds-behind-count c = omega arith
