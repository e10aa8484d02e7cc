use Rattle.std.proofs.Common.{arith}
use Rattle.std.proofs.lemmas.Grind.{common_steps}
use Rattle.tokei_table_search.proofs.opener_index.near_of.Goals as goal

pub returns-in-len2-clause-same : goal.returns-in-len2-clause-same
returns-in-len2-clause-same c = grind (arith, common_steps)

pub returns-in-len3-clause-same : goal.returns-in-len3-clause-same
returns-in-len3-clause-same c = grind (arith, common_steps)

pub returns-in-len4-clause-same : goal.returns-in-len4-clause-same
returns-in-len4-clause-same c = grind (arith, common_steps)

pub returns-in-len1-clause-same : goal.returns-in-len1-clause-same
returns-in-len1-clause-same c = grind (arith, common_steps)
