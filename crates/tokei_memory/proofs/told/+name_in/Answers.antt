use Rattle.std.proofs.Common.{arith}
use Rattle.std.proofs.lemmas.Grind.{common_steps}
use Rattle.tokei_memory.proofs.told.+name_in.Goals as goal

pub returns-in-None-Some-default-empty : goal.returns-in-None-Some-default-empty
returns-in-None-Some-default-empty t c = grind (arith, common_steps)

pub returns-in_default : goal.returns-in_default
returns-in_default t c = grind (arith, common_steps)
