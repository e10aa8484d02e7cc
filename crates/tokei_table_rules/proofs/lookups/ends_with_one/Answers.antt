use Rattle.std.proofs.Common.{arith}
use Rattle.std.proofs.lemmas.Grind.{common_steps}
use Rattle.tokei_table_rules.specs.Lookups.{ends_with_one}
use Rattle.tokei_table_rules.proofs.lookups.ends_with_one.Goals as goal

pub loop-suffix-preserved : goal.loop-suffix-preserved
unfolding ends_with_one
loop-suffix-preserved c = grind (arith, common_steps)

pub returns-then-ends_with : goal.returns-then-ends_with
unfolding ends_with_one
returns-then-ends_with c = grind (arith, common_steps)

pub returns : goal.returns
unfolding ends_with_one
returns c = grind (arith, common_steps)
