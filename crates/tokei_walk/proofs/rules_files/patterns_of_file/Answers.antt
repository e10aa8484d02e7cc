use Rattle.std.proofs.Common.{◌≡◌, ◌++◌, ℕ, List, Some, Err, sym, ap, ap₂, ◌∙◌, subst, IfOk, OnOk}
use Rattle.tokei_folders.specs.declared.fs.Fault.TheVariants.{Refused}
use Rattle.tokei_folders.specs.Answers.{bytes_of}
use Rattle.tokei_folders.specs.Tree.{node_at, names_of}
use Rattle.tokei_ignore.specs.declared.patterns.Pattern.{Pattern}
use Rattle.tokei_ignore.specs.IgnoreFiles.{patterns_of, bad_lines_of}
use Rattle.tokei_walk.specs.declared.kept_file.Note.{Note}
use Rattle.tokei_walk.specs.Notes.{bad_line_notes}
use Rattle.tokei_walk.proofs.Growing.{grows_on}
use Rattle.tokei_walk.proofs.Lasting.{lasts, refused, unharmed, refused_stays}
use Rattle.tokei_walk.proofs.NeverRefused.{answer_lasts, refusal_lasts}
use Rattle.tokei_walk.proofs.RuleFiles.{file_read, lines_noted, file_unread, unread_noted}
use Rattle.tokei_walk.proofs.rules_files.patterns_of_file.Goals as goal

pub returns-in-Ok-clause-folders : goal.returns-in-Ok-clause-folders
returns-in-Ok-clause-folders g c = lasts c.in_ok-kind_at.ensures.folders (unharmed c.read.ensures.same c.in-Ok.ensures.counts)

pub returns-in-Ok-clause-notes : goal.returns-in-Ok-clause-notes
returns-in-Ok-clause-notes g c = grows_on _ _ _ c.kind_at.ensures.notes c.patterns_in.ensures.notes

pub returns-in-Ok-clause-told : goal.returns-in-Ok-clause-told
returns-in-Ok-clause-told g c = λ t e.
    let node = node_at t (names_of c.args.place.now) in let content = c.in-Ok.content.items in
    let kind = sym (c.in-Some-File.is ∙ ap Some c.in-Some-File.field-0-is) ∙ c.in_ok-kind_at.ensures.told t e in
    let read = c.in-Ok.ensures.told t (c.kind_at.ensures.folders.same ∙ e) (answer_lasts _) in
    subst (λ (y : List Pattern). IfOk c.patterns_in.result (λ ps. ps ≡ y)) (ap patterns_of c.as_slice.ensures.value ∙ file_read node content kind read) c.patterns_in.ensures.patterns

pub returns-in-Ok-clause-noted : goal.returns-in-Ok-clause-noted
returns-in-Ok-clause-noted g c = λ t e.
    let place = c.args.place.now in let node = node_at t (names_of place) in let content = c.in-Ok.content.items in
    let kind = sym (c.in-Some-File.is ∙ ap Some c.in-Some-File.field-0-is) ∙ c.in_ok-kind_at.ensures.told t e in
    let read = c.in-Ok.ensures.told t (c.kind_at.ensures.folders.same ∙ e) (answer_lasts _) in
    let lines = ap (λ (x : List ℕ). bad_line_notes place (bad_lines_of x)) c.as_slice.ensures.value ∙ lines_noted node place content kind read in
    subst (λ (y : List Note). OnOk c.patterns_in.result (c.patterns_in.new.notes ≡ y))
    (ap₂ (λ (a b : List Note). a ++ b) (c.in_ok-kind_at.ensures.quiet t e) lines) c.patterns_in.ensures.bad

pub returns-in_err-note-in-Err-Refused-clause-folders : goal.returns-in_err-note-in-Err-Refused-clause-folders
returns-in_err-note-in-Err-Refused-clause-folders g c = refused c.from_residual-in_err-note-in-Err-Refused.ensures.0 (c.read.ensures.same ∙ c.kind_at.ensures.folders.same)

pub returns-in_err-note-in-Err-Refused-clause-notes : goal.returns-in_err-note-in-Err-Refused-clause-notes
returns-in_err-note-in-Err-Refused-clause-notes g c = grows_on _ _ _ c.kind_at.ensures.notes c.note.ensures.grows

pub returns-in_ok-note-in-Err-Refused-clause-folders : goal.returns-in_ok-note-in-Err-Refused-clause-folders
returns-in_ok-note-in-Err-Refused-clause-folders g c =
    lasts c.in_ok-kind_at.ensures.folders
    (unharmed c.read.ensures.same (refused_stays g.F.Folders.memory_faults _ _ c.read.result (c.in-Err-Refused.is ∙ ap Err c.in-Err-Refused.field-0-is) c.read.ensures.counts))

pub returns-in_ok-note-in-Err-Refused-clause-notes : goal.returns-in_ok-note-in-Err-Refused-clause-notes
returns-in_ok-note-in-Err-Refused-clause-notes g c = grows_on _ _ _ c.kind_at.ensures.notes c.note.ensures.grows

pub returns-in_ok-note-in-Err-Refused-clause-told : goal.returns-in_ok-note-in-Err-Refused-clause-told
returns-in_ok-note-in-Err-Refused-clause-told g c = λ t e.
    let node = node_at t (names_of c.args.place.now) in
    let kind = sym (c.in-Some-File.is ∙ ap Some c.in-Some-File.field-0-is) ∙ c.in_ok-kind_at.ensures.told t e in
    let is : c.read.result ≡ Err Refused = c.in-Err-Refused.is ∙ ap Err c.in-Err-Refused.field-0-is in
    let read = c.read.ensures.told t (c.kind_at.ensures.folders.same ∙ e) (refusal_lasts c.read.result is) in
    c.new-in-Err-Refused.ensures ∙ file_unread node kind (sym (ap bytes_of is) ∙ read)

pub returns-in_ok-note-in-Err-Refused-clause-noted : goal.returns-in_ok-note-in-Err-Refused-clause-noted
returns-in_ok-note-in-Err-Refused-clause-noted g c = λ t e.
    let place = c.args.place.now in let node = node_at t (names_of place) in
    let kind = sym (c.in-Some-File.is ∙ ap Some c.in-Some-File.field-0-is) ∙ c.in_ok-kind_at.ensures.told t e in
    let is : c.read.result ≡ Err Refused = c.in-Err-Refused.is ∙ ap Err c.in-Err-Refused.field-0-is in
    let read = c.read.ensures.told t (c.kind_at.ensures.folders.same ∙ e) (refusal_lasts c.read.result is) in
    c.in_ok-note-in-Err-Refused.ensures.ok ∙ ap₂ (λ (a b : List Note). a ++ b) (c.in_ok-kind_at.ensures.quiet t e) (unread_noted node place kind (sym (ap bytes_of is) ∙ read))

pub returns-in-Err-Memory-clause-folders : goal.returns-in-Err-Memory-clause-folders
returns-in-Err-Memory-clause-folders g c = record { same = c.read.ensures.same ∙ c.kind_at.ensures.folders.same; honest = tt }
