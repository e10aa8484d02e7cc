use Rattle.std.proofs.Common.{arith}
use Rattle.std.proofs.lemmas.Grind.{common_steps}
use Rattle.tokei_parts.proofs.choice.is_escape.Goals as goal

pub returns-else-begins : goal.returns-else-begins
returns-else-begins c = grind (arith, common_steps)
