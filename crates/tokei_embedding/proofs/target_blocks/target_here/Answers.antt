use Rattle.std.proofs.Common.{arith}
use Rattle.std.proofs.lemmas.Grind.{common_steps}
use Rattle.tokei_embedding.proofs.target_blocks.target_here.Goals as goal

pub returns-then-starts_with : goal.returns-then-starts_with
returns-then-starts_with c = grind (arith, common_steps)

pub slice_bounds-word_behind_blanks-start : goal.slice_bounds-word_behind_blanks-start
slice_bounds-word_behind_blanks-start c = omega arith

pub slice_bounds-word_behind_blanks-count : goal.slice_bounds-word_behind_blanks-count
slice_bounds-word_behind_blanks-count c = omega arith
