use Rattle.std.proofs.Common.{arith}
use Rattle.std.proofs.lemmas.Grind.{common_steps}
use Rattle.tokei_table_rules.proofs.text_index.add_row.Goals as goal

pub returns-in_ok-push-in-Names-2 : goal.returns-in_ok-push-in-Names-2
returns-in_ok-push-in-Names-2 c = grind (arith, common_steps)
