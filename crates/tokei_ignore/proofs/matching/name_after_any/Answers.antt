use Rattle.std.proofs.Common.{arith}
use Rattle.std.proofs.lemmas.Grind.{common_steps}
use Rattle.tokei_ignore.proofs.matching.name_after_any.Goals as goal

pub returns-in-Some-Name-empty : goal.returns-in-Some-Name-empty
returns-in-Some-Name-empty c = grind (arith, common_steps)
