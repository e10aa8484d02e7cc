use Rattle.std.proofs.Common.{◌≡◌, ◌&&◌, ◌++◌, codes, is_some, sym, ap, ◌∙◌, refl}
use Rattle.tokei_folders.specs.Places.{joined}
use Rattle.tokei_folders.specs.Tree.{Names, names_of, node_at}
use Rattle.tokei_folders.proofs.Joining.{names_of-joined}
use Rattle.tokei_walk.proofs.Lasting.{answers}
use Rattle.tokei_walk.proofs.RuleFiles.{some_kind}
use Rattle.tokei_walk.proofs.Growing.{grows_same}
use Rattle.tokei_walk.proofs.rules_files.is_repository.Goals as goal

pub returns-clause-told : goal.returns-clause-told
returns-clause-told g c = λ t e.
    let is : c.as_str.result.now ≡ joined c.args.place.now (codes ".git") = c.as_str.ensures ∙ c.in_ok-whole.ensures.place in
    let there = names_of-joined c.args.place.now (codes ".git") in
    c.is_some.ensures ∙ ap is_some (c.in_ok-kind.ensures.told t e) ∙ some_kind (node_at t (names_of c.as_str.result.now)) ∙ ap (λ (p : Names). is_some (node_at t p)) (ap names_of is ∙ there)
    ∙ ap (λ b. b && is_some (node_at t (names_of c.args.place.now ++ names_of (codes ".git")))) (sym c.if-not-on.false)

pub returns-clause-folders : goal.returns-clause-folders
returns-clause-folders g c = answers c.in_ok-kind.ensures.folders

pub returns-clause-notes : goal.returns-clause-notes
returns-clause-notes g c = c.kind_at.ensures.notes

pub returns-then-not-on-clause-notes : goal.returns-then-not-on-clause-notes
returns-then-not-on-clause-notes g c = grows_same _ _ refl

pub returns-in_err-whole-clause-notes : goal.returns-in_err-whole-clause-notes
returns-in_err-whole-clause-notes g c = grows_same _ _ refl

pub returns-then-not-on-clause-told : goal.returns-then-not-on-clause-told
returns-then-not-on-clause-told g c = λ t e. ap (λ b. b && is_some (node_at t (names_of c.args.place.now ++ names_of (codes ".git")))) (sym c.if-not-on.true)
