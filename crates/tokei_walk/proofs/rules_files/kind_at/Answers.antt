-- In a known tree the kind is never refused.
use Rattle.std.proofs.Common.{◌≡◌, Err, subst, refl, ap, ◌∙◌}
use Rattle.tokei_folders.specs.declared.fs.Fault.{Fault}
use Rattle.tokei_walk.proofs.NeverRefused.{never_refused}
use Rattle.tokei_walk.proofs.Growing.{grows_same}
use Rattle.tokei_walk.proofs.Lasting.{unharmed, refused_stays}
use Rattle.tokei_walk.proofs.rules_files.kind_at.Goals as goal

pub returns-in_ok-note-in-Err-Refused-clause-quiet : goal.returns-in_ok-note-in-Err-Refused-clause-quiet
returns-in_ok-note-in-Err-Refused-clause-quiet g c =
    let refused = subst (λ (f : Fault). c.kind_if_any.result ≡ Err f) c.in-Err-Refused.field-0-is c.in-Err-Refused.is in
    λ t e. absurd (never_refused _ _ (c.kind_if_any.ensures.told t e) refused)

pub returns-in_ok-note-in-Err-Refused-clause-told : goal.returns-in_ok-note-in-Err-Refused-clause-told
returns-in_ok-note-in-Err-Refused-clause-told g c =
    let refused = subst (λ (f : Fault). c.kind_if_any.result ≡ Err f) c.in-Err-Refused.field-0-is c.in-Err-Refused.is in
    λ t e. absurd (never_refused _ _ (c.kind_if_any.ensures.told t e) refused)

pub returns-in-Ok-clause-folders : goal.returns-in-Ok-clause-folders
returns-in-Ok-clause-folders g c = unharmed c.kind_if_any.ensures.same c.in-Ok.ensures.counts

pub returns-in-Ok-clause-notes : goal.returns-in-Ok-clause-notes
returns-in-Ok-clause-notes g c = grows_same _ _ refl

pub returns-in-Err-Memory-clause-notes : goal.returns-in-Err-Memory-clause-notes
returns-in-Err-Memory-clause-notes g c = grows_same _ _ refl

pub returns-in_ok-note-in-Err-Refused-clause-notes : goal.returns-in_ok-note-in-Err-Refused-clause-notes
returns-in_ok-note-in-Err-Refused-clause-notes g c = c.note.ensures.grows

pub returns-in_err-note-in-Err-Refused-clause-notes : goal.returns-in_err-note-in-Err-Refused-clause-notes
returns-in_err-note-in-Err-Refused-clause-notes g c = c.note.ensures.grows

pub returns-in_ok-note-in-Err-Refused-clause-folders : goal.returns-in_ok-note-in-Err-Refused-clause-folders
returns-in_ok-note-in-Err-Refused-clause-folders g c =
    unharmed c.kind_if_any.ensures.same (refused_stays g.F.Folders.memory_faults _ _ c.kind_if_any.result (c.in-Err-Refused.is ∙ ap Err c.in-Err-Refused.field-0-is) c.kind_if_any.ensures.counts)
