use Rattle.std.proofs.Common.{◌≡◌, ◌++◌, ℕ, List, Err, refl, sym, ap, ◌∙◌}
use Rattle.tokei_folders.specs.declared.fs.Fault.TheVariants.{Refused}
use Rattle.tokei_folders.specs.Answers.{entries_of}
use Rattle.tokei_walk.specs.Notes.{lost_notes}
use Rattle.tokei_walk.proofs.Growing.{grows_same, grows_on, both_noted}
use Rattle.tokei_walk.proofs.Lasting.{refused, unharmed, refused_stays}
use Rattle.tokei_walk.proofs.NeverRefused.{answer_lasts, refusal_lasts}
use Rattle.tokei_walk.proofs.Noting.{listed_quiet, says_more, says_none}
use Rattle.tokei_walk.proofs.listings.listing.Goals as goal

pub returns-in_err-note_lost-in-Ok-clause-folders : goal.returns-in_err-note_lost-in-Ok-clause-folders
returns-in_err-note_lost-in-Ok-clause-folders g c = refused c.from_residual-in_err-note_lost-in-Ok.ensures.0 c.list.ensures.same

pub returns-in_err-note_lost-in-Ok-clause-notes : goal.returns-in_err-note_lost-in-Ok-clause-notes
returns-in_err-note_lost-in-Ok-clause-notes g c = grows_on _ _ _ c.note_unnamed.ensures.notes c.note_lost.ensures.notes

pub returns-in_ok-note_lost-in-Ok-clause-folders : goal.returns-in_ok-note_lost-in-Ok-clause-folders
returns-in_ok-note_lost-in-Ok-clause-folders g c = unharmed c.list.ensures.same c.in-Ok.ensures.counts

pub returns-in_ok-note_lost-in-Ok-clause-noted : goal.returns-in_ok-note_lost-in-Ok-clause-noted
returns-in_ok-note_lost-in-Ok-clause-noted g c =
    both_noted _ _ _ _ _ c.in_ok-note_unnamed-in-Ok.ensures.unnamed
    (c.in_ok-note_lost-in-Ok.ensures.lost ∙ ap (λ (x : List (List ℕ)). c.note_unnamed.new.notes ++ lost_notes c.args.place.now x) c.as_slice.ensures.value)

pub returns-in_ok-note_lost-in-Ok-clause-notes : goal.returns-in_ok-note_lost-in-Ok-clause-notes
returns-in_ok-note_lost-in-Ok-clause-notes g c = grows_on _ _ _ c.note_unnamed.ensures.notes c.note_lost.ensures.notes

pub returns-in_ok-note_lost-in-Ok-clause-told : goal.returns-in_ok-note_lost-in-Ok-clause-told
returns-in_ok-note_lost-in-Ok-clause-told g c = λ t e. sym (c.in-Ok.ensures.told t e (answer_lasts _))

pub returns-in_ok-note-in-Err-Refused-clause-folders : goal.returns-in_ok-note-in-Err-Refused-clause-folders
returns-in_ok-note-in-Err-Refused-clause-folders g c =
    unharmed c.list.ensures.same (refused_stays g.F.Folders.memory_faults _ _ c.list.result (c.in-Err-Refused.is ∙ ap Err c.in-Err-Refused.field-0-is) c.list.ensures.counts)

pub returns-in_ok-note-in-Err-Refused-clause-told : goal.returns-in_ok-note-in-Err-Refused-clause-told
returns-in_ok-note-in-Err-Refused-clause-told g c = λ t e.
    let is : c.list.result ≡ Err Refused = c.in-Err-Refused.is ∙ ap Err c.in-Err-Refused.field-0-is in
    sym (c.list.ensures.told t e (refusal_lasts c.list.result is)) ∙ ap entries_of is

pub returns-in-Err-Memory-clause-notes : goal.returns-in-Err-Memory-clause-notes
returns-in-Err-Memory-clause-notes g c = grows_same _ _ refl

pub returns-in_ok-note_lost-in-Ok-clause-said : goal.returns-in_ok-note_lost-in-Ok-clause-said
returns-in_ok-note_lost-in-Ok-clause-said g c = λ t e.
    says_none _ _
    (listed_quiet _ _ c.args.place.now c.in-Ok.listing (c.in-Ok.ensures.named t e) (c.in-Ok.ensures.lost t e)
    (both_noted _ _ _ _ _ c.in_ok-note_unnamed-in-Ok.ensures.unnamed
    (c.in_ok-note_lost-in-Ok.ensures.lost ∙ ap (λ (x : List (List ℕ)). c.note_unnamed.new.notes ++ lost_notes c.args.place.now x) c.as_slice.ensures.value)))

pub returns-in_ok-note-in-Err-Refused-clause-said : goal.returns-in_ok-note-in-Err-Refused-clause-said
returns-in_ok-note-in-Err-Refused-clause-said g c = λ t e. says_more _ _ _ c.in_ok-note-in-Err-Refused.ensures.ok
