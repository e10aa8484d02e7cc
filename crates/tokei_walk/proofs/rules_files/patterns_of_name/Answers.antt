use Rattle.std.proofs.Common.{◌≡◌, [], ◌∙◌, refl, ◌++◌, cond, sym, ap}
use Rattle.tokei_folders.specs.Places.{joined}
use Rattle.tokei_walk.specs.Levels.{patterns_at}
use Rattle.tokei_folders.specs.Tree.{node_at, names_of}
use Rattle.tokei_walk.proofs.RuleFiles.{told_of_joined}
use Rattle.tokei_walk.proofs.Growing.{grows_same}
use Rattle.tokei_walk.proofs.Noting.{noted_joined}
use Rattle.tokei_walk.proofs.rules_files.patterns_of_name.Goals as goal

pub returns-clause-told : goal.returns-clause-told
returns-clause-told g c = λ t e.
    let is : c.as_str.result.now ≡ joined c.args.place.now c.args.file.name.now = c.as_str.ensures ∙ c.in_ok-whole.ensures.place in
    told_of_joined c.patterns_of_file.result (λ p. patterns_at (node_at t p)) c.args.file.on []
    c.as_str.result.now c.args.place.now c.args.file.name.now c.if-not-file.false
    is (c.patterns_of_file.ensures.told t e)

pub returns-then-not-file-clause-notes : goal.returns-then-not-file-clause-notes
returns-then-not-file-clause-notes g c = grows_same _ _ refl

pub returns-in_err-whole-clause-notes : goal.returns-in_err-whole-clause-notes
returns-in_err-whole-clause-notes g c = grows_same _ _ refl

pub returns-clause-notes : goal.returns-clause-notes
returns-clause-notes g c = c.patterns_of_file.ensures.notes

pub returns-then-not-file-clause-told : goal.returns-then-not-file-clause-told
returns-then-not-file-clause-told g c = λ t e.
    c.new.ensures ∙ ap (λ b. cond b (patterns_at (node_at t (names_of c.args.place.now ++ names_of c.args.file.name.now))) []) (sym c.if-not-file.true)

pub returns-clause-noted : goal.returns-clause-noted
returns-clause-noted g c = λ t e.
    let is : c.as_str.result.now ≡ joined c.args.place.now c.args.file.name.now = c.as_str.ensures ∙ c.in_ok-whole.ensures.place in
    noted_joined c.patterns_of_file.result t c.args.notes.now c.patterns_of_file.new.notes c.args.file.on
    c.as_str.result.now c.args.place.now c.args.file.name.now c.if-not-file.false
    is (c.patterns_of_file.ensures.noted t e)
