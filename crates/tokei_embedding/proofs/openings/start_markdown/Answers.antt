use Rattle.std.proofs.Common.{arith}
use Rattle.std.proofs.lemmas.Grind.{common_steps}
use Rattle.tokei_embedding.proofs.openings.start_markdown.Goals as goal

pub returns : goal.returns
returns c = grind (arith, common_steps)

pub overflow_add-start : goal.overflow_add-start
overflow_add-start c = grind (arith, common_steps)

pub captured-requires-clause-ends : goal.captured-requires-clause-ends
captured-requires-clause-ends c = grind (arith, common_steps)

pub overflow_add-info_len : goal.overflow_add-info_len
overflow_add-info_len c = grind (arith, common_steps)
