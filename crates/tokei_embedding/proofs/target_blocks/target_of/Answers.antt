use Rattle.std.proofs.Common.{arith}
use Rattle.std.proofs.lemmas.Grind.{common_steps}
use Rattle.tokei_embedding.proofs.target_blocks.target_of.Goals as goal

pub loop-rest-preserved : goal.loop-rest-preserved
loop-rest-preserved c = grind (arith, common_steps)

pub returns : goal.returns
returns c = grind (arith, common_steps)

pub loop-rest-smaller : goal.loop-rest-smaller
loop-rest-smaller c = omega arith

pub bounds-rest-0 : goal.bounds-rest-0
bounds-rest-0 c = omega arith

pub slice_bounds-others-count : goal.slice_bounds-others-count
slice_bounds-others-count c = omega arith

pub slice_bounds-others-start : goal.slice_bounds-others-start
slice_bounds-others-start c = omega arith
