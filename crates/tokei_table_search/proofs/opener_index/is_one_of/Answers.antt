use Rattle.std.proofs.Common.{arith}
use Rattle.std.proofs.lemmas.Grind.{common_steps}
use Rattle.tokei_table_search.proofs.opener_index.is_one_of.Goals as goal

pub loop-known-preserved : goal.loop-known-preserved
loop-known-preserved c = grind (arith, common_steps)

pub returns-then-byte-known : goal.returns-then-byte-known
returns-then-byte-known c = grind (arith, common_steps)

pub returns : goal.returns
returns c = grind (arith, common_steps)
