use Rattle.std.proofs.Common.{Err, refl, ap, ◌∙◌}
use Rattle.tokei_walk.proofs.Growing.{grows_same}
use Rattle.tokei_walk.proofs.Lasting.{unharmed, refused_stays}
use Rattle.tokei_walk.proofs.parents.folders_over.Goals as goal

pub returns-in-Ok-clause-folders : goal.returns-in-Ok-clause-folders
returns-in-Ok-clause-folders g c = unharmed c.above.ensures.same c.in-Ok.ensures.counts

pub returns-in-Ok-clause-notes : goal.returns-in-Ok-clause-notes
returns-in-Ok-clause-notes g c = grows_same _ _ refl

pub returns-in-Err-Memory-clause-notes : goal.returns-in-Err-Memory-clause-notes
returns-in-Err-Memory-clause-notes g c = grows_same _ _ refl

pub returns-in_ok-note-in-Err-Refused-clause-notes : goal.returns-in_ok-note-in-Err-Refused-clause-notes
returns-in_ok-note-in-Err-Refused-clause-notes g c = c.note.ensures.grows

pub returns-in_err-note-in-Err-Refused-clause-notes : goal.returns-in_err-note-in-Err-Refused-clause-notes
returns-in_err-note-in-Err-Refused-clause-notes g c = c.note.ensures.grows

pub returns-in_ok-note-in-Err-Refused-clause-folders : goal.returns-in_ok-note-in-Err-Refused-clause-folders
returns-in_ok-note-in-Err-Refused-clause-folders g c =
    unharmed c.above.ensures.same (refused_stays g.F.Folders.memory_faults _ _ c.above.result (c.in-Err-Refused.is ∙ ap Err c.in-Err-Refused.field-0-is) c.above.ensures.counts)
