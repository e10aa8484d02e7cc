use Rattle.std.proofs.Common.{arith}
use Rattle.std.proofs.lemmas.Grind.{common_steps}
use Rattle.tokei_folders.proofs.names.+compare.Goals as goal

pub returns-in-None-None : goal.returns-in-None-None
returns-in-None-None t c = grind (arith, common_steps)

pub returns-in-None-Some : goal.returns-in-None-Some
returns-in-None-Some t c = grind (arith, common_steps)
