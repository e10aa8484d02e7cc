use Rattle.std.proofs.Common.{◌++◌, ◌∷◌, [], ap, ◌∙◌}
use Rattle.tokei_folders.specs.Ends.{without_last}
use Rattle.tokei_folders.proofs.ListEnds.{without_last-push}
use Rattle.tokei_walk.specs.declared.levels.Level.{Level}
use Rattle.tokei_folders.specs.Tree.{names_of}
use Rattle.tokei_walk.proofs.RuleFiles.{tokeignore_told, ignore_told, gitignore_told, git_exclude_told, level_told}
use Rattle.tokei_walk.proofs.Growing.{grows_on}
use Rattle.tokei_walk.proofs.Lasting.{lasts, answers, refused}
use Rattle.tokei_walk.proofs.Noting.{sought_noted}
use Rattle.tokei_walk.proofs.Refusals.{refuses_none}
use Rattle.tokei_walk.proofs.rules_files.read_sought.Goals as goal

pub returns-clause-told : goal.returns-clause-told
returns-clause-told g c = λ t e.
    let s = c.args.sought in let p = names_of c.args.place.now in
    let later = c.patterns_of_two.ensures.folders.same ∙ e in
    let level =
    level_told t s p _ _ _ _
    (tokeignore_told t s p _ (c.in_ok-tokeignore.ensures.first t e)) (ignore_told t s p _ (c.in_ok-tokeignore.ensures.second t e))
    (gitignore_told t s p _ (c.in_ok-gitignore.ensures.first t later)) (git_exclude_told t s p _ (c.in_ok-gitignore.ensures.second t later)) in
    c.in_ok-push.ensures.ok ∙ ap (λ (l : Level). c.args.levels.now ++ l ∷ []) level

pub returns-clause-last : goal.returns-clause-last
returns-clause-last g c = ap without_last c.in_ok-push.ensures.ok ∙ without_last-push c.args.levels.now _

pub returns-in_err-push-clause-folders : goal.returns-in_err-push-clause-folders
returns-in_err-push-clause-folders g c =
    refused c.from_residual-in_err-push.ensures.0 (c.patterns_of_two-2.ensures.folders.same ∙ c.patterns_of_two.ensures.folders.same)

pub returns-in_err-push-clause-notes : goal.returns-in_err-push-clause-notes
returns-in_err-push-clause-notes g c = grows_on _ _ _ c.patterns_of_two.ensures.notes c.patterns_of_two-2.ensures.notes

pub returns-in_err-gitignore-clause-folders : goal.returns-in_err-gitignore-clause-folders
returns-in_err-gitignore-clause-folders g c = refused c.from_residual-in_err-gitignore.ensures.0 (c.patterns_of_two-2.ensures.folders.same ∙ c.patterns_of_two.ensures.folders.same)

pub returns-in_err-gitignore-clause-notes : goal.returns-in_err-gitignore-clause-notes
returns-in_err-gitignore-clause-notes g c = grows_on _ _ _ c.patterns_of_two.ensures.notes c.patterns_of_two-2.ensures.notes

pub returns-clause-folders : goal.returns-clause-folders
returns-clause-folders g c = answers (lasts c.in_ok-tokeignore.ensures.folders c.in_ok-gitignore.ensures.folders)

pub returns-clause-notes : goal.returns-clause-notes
returns-clause-notes g c = grows_on _ _ _ c.patterns_of_two.ensures.notes c.patterns_of_two-2.ensures.notes

pub returns-clause-noted : goal.returns-clause-noted
returns-clause-noted g c = λ t e.
    sought_noted t c.args.sought (names_of c.args.place.now) _ _ _ (c.in_ok-tokeignore.ensures.noted t e)
    (c.in_ok-gitignore.ensures.noted t (c.patterns_of_two.ensures.folders.same ∙ e))

pub returns-in_err-gitignore-clause-last : goal.returns-in_err-gitignore-clause-last
returns-in_err-gitignore-clause-last g c = refuses_none _ _ c.from_residual-in_err-gitignore.ensures.0

pub returns-in_err-gitignore-clause-told : goal.returns-in_err-gitignore-clause-told
returns-in_err-gitignore-clause-told g c = λ t e. refuses_none _ _ c.from_residual-in_err-gitignore.ensures.0

pub returns-in_err-gitignore-clause-noted : goal.returns-in_err-gitignore-clause-noted
returns-in_err-gitignore-clause-noted g c = λ t e. refuses_none _ _ c.from_residual-in_err-gitignore.ensures.0

pub returns-in_err-push-clause-last : goal.returns-in_err-push-clause-last
returns-in_err-push-clause-last g c = refuses_none _ _ c.from_residual-in_err-push.ensures.0

pub returns-in_err-push-clause-told : goal.returns-in_err-push-clause-told
returns-in_err-push-clause-told g c = λ t e. refuses_none _ _ c.from_residual-in_err-push.ensures.0

pub returns-in_err-push-clause-noted : goal.returns-in_err-push-clause-noted
returns-in_err-push-clause-noted g c = λ t e. refuses_none _ _ c.from_residual-in_err-push.ensures.0

pub returns-in_err-tokeignore-clause-folders : goal.returns-in_err-tokeignore-clause-folders
returns-in_err-tokeignore-clause-folders g c = refused c.from_residual.ensures.0 c.patterns_of_two.ensures.folders.same

pub returns-in_err-tokeignore-clause-notes : goal.returns-in_err-tokeignore-clause-notes
returns-in_err-tokeignore-clause-notes g c = c.patterns_of_two.ensures.notes

pub returns-in_err-tokeignore-clause-last : goal.returns-in_err-tokeignore-clause-last
returns-in_err-tokeignore-clause-last g c = refuses_none _ _ c.from_residual.ensures.0

pub returns-in_err-tokeignore-clause-told : goal.returns-in_err-tokeignore-clause-told
returns-in_err-tokeignore-clause-told g c = λ t e. refuses_none _ _ c.from_residual.ensures.0

pub returns-in_err-tokeignore-clause-noted : goal.returns-in_err-tokeignore-clause-noted
returns-in_err-tokeignore-clause-noted g c = λ t e. refuses_none _ _ c.from_residual.ensures.0
