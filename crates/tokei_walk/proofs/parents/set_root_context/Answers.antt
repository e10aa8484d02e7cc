use Rattle.std.proofs.Common.{◌++◌, List, ℕ, ap, ◌∙◌, refl}
use Rattle.tokei_walk.specs.declared.levels.Level.{Level}
use Rattle.tokei_folders.specs.Tree.{names_of}
use Rattle.tokei_walk.specs.Walks.{names_over, levels_over}
use Rattle.tokei_walk.proofs.RootSteps.{context_told, context_alone}
use Rattle.tokei_walk.proofs.Growing.{grows_same, grows_on}
use Rattle.tokei_walk.proofs.Lasting.{lasts, on_ok_by, on_ok_by3}
use Rattle.tokei_walk.proofs.Noting.{all_above, none_above}
use Rattle.tokei_walk.proofs.parents.set_root_context.Goals as goal

pub returns-clause-told : goal.returns-clause-told
returns-clause-told g c = λ t e.
    let r = c.args.settings.now.rules in let found = c.in_ok-found.found in let cx = c.read_over.new.context in
    on_ok_by3 c.read_over.result
    (λ levels names shown.
    context_told t r (names_of c.args.root.now) found cx c.if-not-settings.false (c.in_ok-found.ensures.told t e)
    (levels ∙ ap (λ (q : List Level). q ++ levels_over t r found) c.clear.ensures)
    (names ∙ ap (λ (q : List (List ℕ)). q ++ names_over found) c.clear-2.ensures) (shown ∙ c.in_ok-context.ensures))
    (c.read_over.ensures.levels t (c.folders_over.ensures.folders.same ∙ e)) c.read_over.ensures.names c.read_over.ensures.shown

pub returns-then-not-settings-clause-told : goal.returns-then-not-settings-clause-told
returns-then-not-settings-clause-told g c = λ t e.
    context_alone t c.args.settings.now.rules (names_of c.args.root.now) _ c.if-not-settings.true c.clear.ensures c.clear-2.ensures c.in_ok-context.ensures

pub returns-in_err-context-clause-notes : goal.returns-in_err-context-clause-notes
returns-in_err-context-clause-notes g c = grows_same _ _ refl

pub returns-then-not-settings-clause-notes : goal.returns-then-not-settings-clause-notes
returns-then-not-settings-clause-notes g c = grows_same _ _ refl

pub returns-clause-notes : goal.returns-clause-notes
returns-clause-notes g c = grows_on _ _ _ c.folders_over.ensures.notes c.read_over.ensures.notes

pub returns-clause-folders : goal.returns-clause-folders
returns-clause-folders g c = lasts c.in_ok-found.ensures.folders c.read_over.ensures.folders

pub returns-clause-noted : goal.returns-clause-noted
returns-clause-noted g c = λ t e.
    on_ok_by c.read_over.result
    (λ said. all_above t c.args.settings.now.rules (names_of c.args.root.now) c.in_ok-found.found _ _ _ c.if-not-settings.false
    (c.in_ok-found.ensures.told t e) (c.in_ok-found.ensures.quiet t e) said)
    (c.read_over.ensures.noted t (c.folders_over.ensures.folders.same ∙ e))

pub returns-then-not-settings-clause-noted : goal.returns-then-not-settings-clause-noted
returns-then-not-settings-clause-noted g c = λ t e. none_above t c.args.settings.now.rules (names_of c.args.root.now) _ _ c.if-not-settings.true refl
