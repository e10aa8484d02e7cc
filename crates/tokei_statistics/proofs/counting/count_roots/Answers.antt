use Rattle.std.proofs.Common.{◌≡◌, ◌++◌, Err, List, ap, rules, subst, refl, ◌∙◌}
use Rattle.tokei_languages.specs.Seen.{languages_of}
use Rattle.tokei_stats.specs.declared.error.CountError.TheVariants.{Overflow}
use Rattle.tokei_folders.proofs.Contents.{sound_of}
use Rattle.tokei_walk.specs.declared.kept_file.KeptFile.{KeptFile}
use Rattle.tokei_files.specs.Files.{ReadingsFit}
use Rattle.tokei_files.specs.Seen.{counting_of}
use Rattle.tokei_files.specs.Unread.{unread_of}
use Rattle.tokei_files.proofs.UnreadNotes.{notes_are}
use Rattle.tokei_walk.specs.declared.kept_file.Note.{Note}
use Rattle.tokei_walk.specs.Walks.{to_come}
use Rattle.tokei_statistics.specs.Runs.{AddsFiles, AddsFirst}
use Rattle.tokei_walk.specs.Notes.{Grows}
use Rattle.tokei_walk.proofs.Growing.{grows_same, grows_on}
use Rattle.tokei_walk.proofs.Lasting.{answers}
use Rattle.tokei_walk.proofs.Noting.{says_what}
use Rattle.tokei_statistics.proofs.Running.{none_added, all_added, always_err}
use Rattle.tokei_statistics.proofs.counting.count_roots.Goals as goal

-- notes that grew, and others put behind them
grown_behind : (a b d n e more : List Note) → b ≡ a → Grows b d → n ≡ d → e ≡ n ++ more → Grows a e
grown_behind a b d n e more same grown all is =
    grows_on _ _ _ (grows_on _ _ _ (grows_same _ _ same) grown)
    (record { more = more; is = is ∙ ap (λ (q : List Note). q ++ more) all })

pub returns-in_err-walk-clause-partly : goal.returns-in_err-walk-clause-partly
returns-in_err-walk-clause-partly g c = λ t e. always_err c.from_residual.result (none_added (counting_of c.args.counting.now) t _ (languages_of c.args.languages.now))

pub returns-in_err-counted-clause-overflow : goal.returns-in_err-counted-clause-overflow
returns-in_err-counted-clause-overflow g c = λ q t e.
    let by = counting_of c.args.counting.now in
    let same : c.in_err-counted.field-0.0 ≡ Overflow = search rules in
    let comes = c.in_ok-walk.ensures.comes t (sound_of _ t (g.met.F.Folders.sound c.args.folders.now) e) in
    subst (λ (ks : List KeptFile). ReadingsFit by t ks → ⊥) comes (c.in_err-counted.ensures.overflow (ap (λ x. Err x) same) t e)

pub returns-clause-noted : goal.returns-clause-noted
returns-clause-noted g c = λ t e.
    let by = counting_of c.args.counting.now in
    let comes = c.in_ok-walk.ensures.comes t (sound_of _ t (g.met.F.Folders.sound c.args.folders.now) e) in
    notes_are _ _ _ _ _ _ _ c.in_ok-walk.ensures.notes c.count_files-counted.ensures.notes
    (says_what _ _ _ _ (c.in_ok-walk.ensures.noted t) (c.in_ok-counted.ensures.noted t e)) c.into_notes-notes.ensures
    (c.in_ok-append.ensures.items ∙ ap (λ (q : List Note). c.into_notes-notes.result.items ++ q)
    (c.in_ok-counted.ensures.unread t e ∙ ap (λ (q : List Note). q ++ unread_of by t (to_come t c.in_ok-walk.walk)) c.new-unread.ensures.items ∙ ap (unread_of by t) comes))

pub returns-in_err-append-clause-partly : goal.returns-in_err-append-clause-partly
returns-in_err-append-clause-partly g c = λ t e.
    let by = counting_of c.args.counting.now in
    let comes = c.in_ok-walk.ensures.comes t (sound_of _ t (g.met.F.Folders.sound c.args.folders.now) e) in
    let adds = subst (λ (ks : List KeptFile). AddsFiles by t ks (languages_of c.args.languages.now) (languages_of c.count_files-counted.new.languages)) comes (c.in_ok-counted.ensures.told t e) in
    always_err c.from_residual-in_err-append.result (all_added by t _ (languages_of c.args.languages.now) _ _ adds refl)

pub returns-in_err-counted-clause-partly : goal.returns-in_err-counted-clause-partly
returns-in_err-counted-clause-partly g c = λ t e.
    let by = counting_of c.args.counting.now in
    let comes = c.in_ok-walk.ensures.comes t (sound_of _ t (g.met.F.Folders.sound c.args.folders.now) e) in
    always_err c.from_residual-in_err-counted.result
    (subst (λ (ks : List KeptFile). AddsFirst by t ks (languages_of c.args.languages.now) (languages_of c.count_files-counted.new.languages)) comes (c.in_err-counted.ensures.partly t e))

pub returns-clause-told : goal.returns-clause-told
returns-clause-told g c = λ t e.
    let by = counting_of c.args.counting.now in
    let comes = c.in_ok-walk.ensures.comes t (sound_of _ t (g.met.F.Folders.sound c.args.folders.now) e) in
    subst (λ (ks : List KeptFile). AddsFiles by t ks (languages_of c.args.languages.now) (languages_of c.count_files-counted.new.languages)) comes (c.in_ok-counted.ensures.told t e)

pub returns-clause-notes : goal.returns-clause-notes
returns-clause-notes g c =
    grown_behind _ _ _ _ _ _ c.in_ok-walk.ensures.notes c.count_files-counted.ensures.notes c.into_notes-notes.ensures c.in_ok-append.ensures.items

pub returns-clause-folders : goal.returns-clause-folders
returns-clause-folders g c = answers c.in_ok-counted.ensures.folders
