use Rattle.std.proofs.Common.{arith}
use Rattle.std.proofs.lemmas.Grind.{common_steps}
use Rattle.tokei_table_rules.proofs.openers.add_child_openers.Goals as goal

pub returns-in_ok-add_word-in-HtmlLike-2 : goal.returns-in_ok-add_word-in-HtmlLike-2
returns-in_ok-add_word-in-HtmlLike-2 c = grind (arith, common_steps)

pub returns-in_ok-add_word-in-Rust : goal.returns-in_ok-add_word-in-Rust
returns-in_ok-add_word-in-Rust c = grind (arith, common_steps)
