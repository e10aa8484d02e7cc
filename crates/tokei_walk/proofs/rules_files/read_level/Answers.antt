use Rattle.std.proofs.Common.{◌≡◌, ◌++◌, ◌∷◌, [], List, OnOk, subst, ◌∙◌}
use Rattle.tokei_folders.specs.Tree.{names_of}
use Rattle.tokei_walk.specs.declared.levels.Level.{Level}
use Rattle.tokei_walk.proofs.Growing.{grows_on}
use Rattle.tokei_walk.proofs.Lasting.{lasts, on_ok_by}
use Rattle.tokei_walk.proofs.RuleFiles.{level_asked}
use Rattle.tokei_walk.specs.declared.kept_file.Note.{Note}
use Rattle.tokei_walk.specs.Noted.{NotesSay, noted_level}
use Rattle.tokei_walk.proofs.Noting.{level_noted, says_what}
use Rattle.tokei_walk.proofs.rules_files.read_level.Goals as goal

pub returns-clause-told : goal.returns-clause-told
returns-clause-told g c = λ t e.
    subst (λ (l : Level). OnOk c.read_sought.result (c.read_sought.new.levels ≡ c.args.levels.now ++ l ∷ []))
    (level_asked t c.args.rules.now (names_of c.args.place.now) c.in_ok-git.git
    (c.in_ok-git.ensures.told t e))
    (c.read_sought.ensures.told t (c.is_repository.ensures.folders.same ∙ e))

pub returns-clause-folders : goal.returns-clause-folders
returns-clause-folders g c = lasts c.in_ok-git.ensures.folders c.read_sought.ensures.folders

pub returns-clause-notes : goal.returns-clause-notes
returns-clause-notes g c = grows_on _ _ _ c.is_repository.ensures.notes c.read_sought.ensures.notes

pub returns-clause-noted : goal.returns-clause-noted
returns-clause-noted g c = λ t e.
    let r = c.args.rules.now in let p = names_of c.args.place.now in
    on_ok_by c.read_sought.result
    (λ said. subst (λ (n : List Note). NotesSay n c.read_sought.new.notes (noted_level t r p)) (c.in_ok-git.ensures.quiet t e)
    (says_what _ _ _ _ (level_noted t r p c.in_ok-git.git (c.in_ok-git.ensures.told t e)) said))
    (c.read_sought.ensures.noted t (c.is_repository.ensures.folders.same ∙ e))
