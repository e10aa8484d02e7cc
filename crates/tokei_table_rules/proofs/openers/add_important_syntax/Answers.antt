use Rattle.std.proofs.Common.{arith}
use Rattle.std.proofs.lemmas.Grind.{common_steps}
use Rattle.tokei_table_rules.proofs.openers.add_important_syntax.Goals as goal

pub returns : goal.returns
returns c = grind (arith, common_steps)
