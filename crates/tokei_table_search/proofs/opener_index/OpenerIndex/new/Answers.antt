use Rattle.std.proofs.Common.{arith}
use Rattle.std.proofs.lemmas.Grind.{common_steps}
use Rattle.tokei_table_search.proofs.opener_index.OpenerIndex.new.Goals as goal

pub loop-opener-preserved : goal.loop-opener-preserved
loop-opener-preserved c = grind (arith, common_steps)

pub returns : goal.returns
returns c = grind (arith, common_steps)

pub of_texts-requires : goal.of_texts-requires
of_texts-requires c = grind (arith, common_steps)
