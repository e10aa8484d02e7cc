use Rattle.std.proofs.Common.{arith}
use Rattle.std.proofs.lemmas.Grind.{common_steps}
use Rattle.tokei_walk.specs.Walks.{excludes_of}
use Rattle.tokei_walk.specs.Notes.{notes_of_excludes}
use Rattle.tokei_walk.proofs.excludes.read_excludes.Goals as goal

pub loop-text-preserved : goal.loop-text-preserved
unfolding excludes_of notes_of_excludes
loop-text-preserved c = grind (arith, common_steps)

pub returns-clause-patterns : goal.returns-clause-patterns
unfolding excludes_of notes_of_excludes
returns-clause-patterns c = grind (arith, common_steps)

pub returns-clause-notes : goal.returns-clause-notes
unfolding excludes_of notes_of_excludes
returns-clause-notes c = grind (arith, common_steps)
