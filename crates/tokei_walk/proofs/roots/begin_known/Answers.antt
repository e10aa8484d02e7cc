use Rattle.std.proofs.Common.{◌≡◌, [], Some, sym, ◌∙◌, rules, refl}
use Rattle.tokei_folders.specs.declared.fs.Kind.TheVariants.{File, Folder, Other}
use Rattle.tokei_walk.proofs.Ranking.{below_root}
use Rattle.tokei_walk.proofs.RootSteps.{known_kind, root_other}
use Rattle.tokei_walk.proofs.Growing.{grows_same, grows_by}
use Rattle.tokei_walk.proofs.Lasting.{answers}
use Rattle.tokei_walk.specs.Met.{as_met}
use Rattle.tokei_walk.proofs.Meeting.{met_from, met_said, met_same, met_to}
use Rattle.tokei_walk.proofs.MetRoots.{one_file, root_file, root_folder, root_missing}
use Rattle.tokei_walk.proofs.MetSteps.{empty_meets}
use Rattle.tokei_walk.proofs.Noting.{says_more}
use Rattle.tokei_walk.proofs.roots.begin_known.Goals as goal

pub returns-in_ok-push-in-None-clause-bounded : goal.returns-in_ok-push-in-None-clause-bounded
returns-in_ok-push-in-None-clause-bounded g c = below_root c.args.stack.now

pub returns-in_ok-path-in-Some-File-clause-bounded : goal.returns-in_ok-path-in-Some-File-clause-bounded
returns-in_ok-path-in-Some-File-clause-bounded g c = below_root c.args.stack.now

pub returns-in-Some-Other-clause-bounded : goal.returns-in-Some-Other-clause-bounded
returns-in-Some-Other-clause-bounded g c = below_root c.args.stack.now

pub returns-in_ok-push-in-None-clause-notes : goal.returns-in_ok-push-in-None-clause-notes
returns-in_ok-push-in-None-clause-notes g c = grows_by _ _ _ c.in_ok-push-in-None.ensures.ok

pub returns-in_ok-path-in-Some-File-clause-notes : goal.returns-in_ok-path-in-Some-File-clause-notes
returns-in_ok-path-in-Some-File-clause-notes g c = grows_same _ _ refl

pub returns-in-Some-Other-clause-notes : goal.returns-in-Some-Other-clause-notes
returns-in-Some-Other-clause-notes g c = grows_same _ _ refl

pub returns-in_ok-enter_root-in-Some-Folder-clause-notes : goal.returns-in_ok-enter_root-in-Some-Folder-clause-notes
returns-in_ok-enter_root-in-Some-Folder-clause-notes g c = c.enter_root.ensures.notes

pub returns-in_ok-enter_root-in-Some-Folder-clause-folders : goal.returns-in_ok-enter_root-in-Some-Folder-clause-folders
returns-in_ok-enter_root-in-Some-Folder-clause-folders g c = answers c.in_ok-enter_root-in-Some-Folder.ensures.folders

pub returns-in_err-push-in-None-clause-notes : goal.returns-in_err-push-in-None-clause-notes
returns-in_err-push-in-None-clause-notes g c = grows_same _ _ c.in_err-push-in-None.ensures.err

pub returns-in_err-path-in-Some-File-clause-notes : goal.returns-in_err-path-in-Some-File-clause-notes
returns-in_err-path-in-Some-File-clause-notes g c = grows_same _ _ refl

pub returns-in_ok-push-in-None-clause-met : goal.returns-in_ok-push-in-None-clause-met
unfolding as_met
returns-in_ok-push-in-None-clause-met g c = λ t e is left below.
    let x = c.args.settings.now in let root = c.args.root in
    met_to _ _ _ [] _ (sym (empty_meets x.excludes x.rules t c.args.stack.now left below))
    (met_said _ _ _ _ (root_missing x.excludes x.rules t root.place root.kind is c.in-None.is) (says_more _ _ _ c.in_ok-push-in-None.ensures.ok))

pub returns-in_ok-path-in-Some-File-clause-met : goal.returns-in_ok-path-in-Some-File-clause-met
returns-in_ok-path-in-Some-File-clause-met g c = λ t e is left below.
    let x = c.args.settings.now in let root = c.args.root in
    let kind : c.args.root.kind ≡ Some File = search rules in
    met_same _ _ _ _ refl
    (root_file x.excludes x.rules t root.place root.kind is kind
    ∙ one_file c.in_ok-path-in-Some-File.path root.place _ (c.in_ok-path-in-Some-File.ensures ∙ c.as_str.ensures) (empty_meets x.excludes x.rules t c.args.stack.now left below))

pub returns-in_ok-enter_root-in-Some-Folder-clause-met : goal.returns-in_ok-enter_root-in-Some-Folder-clause-met
returns-in_ok-enter_root-in-Some-Folder-clause-met g c = λ t e is left below.
    let x = c.args.settings.now in let root = c.args.root in
    let kind : c.args.root.kind ≡ Some Folder = search rules in
    met_from _ _ _ _ _ (root_folder x.excludes x.rules t root.place root.kind is kind) (c.in_ok-enter_root-in-Some-Folder.ensures.met t e left below)

pub returns-in-Some-Other-clause-met : goal.returns-in-Some-Other-clause-met
returns-in-Some-Other-clause-met g c = λ t e is left below.
    let root = c.args.root in
    let kind : c.args.root.kind ≡ Some Other = search rules in
    absurd (root_other t root.place (known_kind t root.place root.kind _ is kind))
