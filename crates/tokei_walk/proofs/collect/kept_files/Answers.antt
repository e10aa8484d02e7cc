use Rattle.std.proofs.Common.{◌≡◌, ◌∙◌, List, Result, sym, subst, IfOk, OnOk}
use Rattle.tokei_walk.specs.Met.{noted_in}
use Rattle.tokei_walk.specs.Walks.{excludes_of, noted_to_come, texts_of, to_come}
use Rattle.tokei_walk.proofs.Growing.{grows_on, grows_same}
use Rattle.tokei_walk.proofs.RootSteps.{sound_of}
use Rattle.tokei_walk.specs.declared.kept_file.Note.{Note}
use Rattle.tokei_walk.specs.Noted.{NotesSay}
use Rattle.tokei_walk.specs.Notes.{notes_of}
use Rattle.tokei_walk.proofs.Noting.{says_what}
use Rattle.tokei_walk.proofs.collect.kept_files.Goals as goal

pub returns-clause-told : goal.returns-clause-told
returns-clause-told g c = λ t e.
    subst (λ (r : Result _ _). IfOk r (λ files. files.items ≡ to_come t c.in_ok-walk.walk)) c.in_ok-files.was (c.files_to_come-files.ensures.told t e)
    ∙ c.in_ok-walk.ensures.comes t (sound_of (g.F.Folders.tree c.args.folders.now) t (g.met.F.Folders.sound c.args.folders.now) e)

pub returns-clause-notes : goal.returns-clause-notes
returns-clause-notes g c =
    grows_on _ _ _ (grows_same _ _ c.in_ok-walk.ensures.notes) (grows_on _ _ _ c.files_to_come-files.ensures.notes (grows_same _ _ c.into_notes-notes.ensures))

pub returns-clause-noted : goal.returns-clause-noted
returns-clause-noted g c = λ t e.
    let walk = c.in_ok-walk.walk in
    let noted = noted_in (excludes_of (texts_of c.args.excludes.now)) c.args.rules.now t (texts_of c.args.roots.now) in
    let come = noted_to_come t walk in
    let said = subst (λ (r : Result _ _). OnOk r (NotesSay (notes_of walk) (notes_of c.files_to_come-files.new.walk) come))
    c.in_ok-files.was (c.files_to_come-files.ensures.noted t e) in
    subst (λ (n : List Note). NotesSay n c.into_notes-notes.result.items noted) c.in_ok-walk.ensures.notes
    (says_what _ _ _ _ (c.in_ok-walk.ensures.noted t)
    (subst (λ (n : List Note). NotesSay (notes_of walk) n come) (sym c.into_notes-notes.ensures) said))
