use Rattle.std.proofs.Common.{◌≡◌, ◌++◌, ◌∷◌, [], List, ℕ, OnOk, subst, refl}
use Rattle.tokei_folders.specs.Tree.{names_of}
use Rattle.tokei_walk.specs.Levels.{level_at}
use Rattle.tokei_walk.proofs.Lasting.{on_ok}
use Rattle.tokei_walk.specs.Noted.{NotesSay, noted_level}
use Rattle.tokei_walk.proofs.Growing.{grows_same}
use Rattle.tokei_walk.proofs.parents.read_above.Goals as goal

pub returns-clause-levels : goal.returns-clause-levels
returns-clause-levels g c = λ t e.
    let r = c.args.settings.now.rules in
    subst (λ (p : List ℕ). OnOk c.read_level.result (c.read_level.new.levels ≡ c.args.context.now.levels ++ level_at t r (names_of p) ∷ []))
    c.as_str-place.ensures (c.read_level.ensures.told t e)

pub returns-clause-names : goal.returns-clause-names
returns-clause-names g c = on_ok c.read_level.result c.in_ok-push.ensures.ok

pub returns-clause-folders : goal.returns-clause-folders
returns-clause-folders g c = c.read_level.ensures.folders

pub returns-clause-notes : goal.returns-clause-notes
returns-clause-notes g c = c.read_level.ensures.notes

pub returns-clause-noted : goal.returns-clause-noted
returns-clause-noted g c = λ t e.
    let r = c.args.settings.now.rules in
    subst (λ (p : List ℕ). OnOk c.read_level.result (NotesSay c.args.notes.now c.read_level.new.notes (noted_level t r (names_of p))))
    c.as_str-place.ensures (c.read_level.ensures.noted t e)

pub returns-in_err-push-clause-notes : goal.returns-in_err-push-clause-notes
returns-in_err-push-clause-notes g c = grows_same _ _ refl

pub returns-clause-shown : goal.returns-clause-shown
returns-clause-shown g c = on_ok _ refl
