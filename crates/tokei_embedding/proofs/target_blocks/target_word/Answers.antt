use Rattle.std.proofs.Common.{arith}
use Rattle.std.proofs.lemmas.Grind.{common_steps}
use Rattle.tokei_embedding.proofs.target_blocks.target_word.Goals as goal

pub returns-then-ends_target : goal.returns-then-ends_target
returns-then-ends_target c = grind (arith, common_steps)

pub returns-else-len-gt0 : goal.returns-else-len-gt0
returns-else-len-gt0 c = grind (arith, common_steps)
