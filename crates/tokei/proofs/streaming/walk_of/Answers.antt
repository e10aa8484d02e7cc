use Rattle.std.proofs.Common.{◌≡◌, true, IfOk, List, subst}
use Rattle.std.specs.Global.{Global}
use Rattle.std.specs.Prelude.{String}
use Rattle.tokei_folders.specs.Tree.{Tree, is_sound}
use Rattle.tokei_files.specs.Configs.{kept_by, noted_by}
use Rattle.tokei_walk.specs.Kept.{kept_in}
use Rattle.tokei_walk.specs.Walks.{excludes_of, noted_to_come, texts_of, to_come}
use Rattle.tokei_walk.specs.declared.levels.Rules.{Rules}
use Rattle.tokei_walk.specs.Met.{noted_in}
use Rattle.tokei.proofs.streaming.walk_of.Goals as goal

pub returns-clause-comes : goal.returns-clause-comes
unfolding kept_by
returns-clause-comes c =
    let GivesKept : Rules → List (String Global) → List (String Global) → Type 0 = λ rules ignored paths.
    IfOk c.new.result (λ w. (t : Tree) → is_sound t ≡ true
    → to_come t w ≡ kept_in (excludes_of (texts_of ignored)) rules t (texts_of paths)) in
    let job = c.args.job.now in
    let rules = c.rules.result in
    subst (λ (r : Rules). GivesKept r job.ignored.items job.paths.items) c.rules.ensures
    (subst (λ (xs : List (String Global)). GivesKept rules xs job.paths.items) c.deref-2.ensures.value
    (subst (λ (xs : List (String Global)). GivesKept rules c.deref-2.result.now xs) c.deref.ensures.value
    c.new.ensures.comes))

pub returns-clause-noted : goal.returns-clause-noted
unfolding noted_by
returns-clause-noted c =
    let Notes : Rules → List (String Global) → List (String Global) → Type 0 = λ rules ignored paths.
    IfOk c.new.result (λ w. (t : Tree) → noted_to_come t w ≡ noted_in (excludes_of (texts_of ignored)) rules t (texts_of paths)) in
    let job = c.args.job.now in
    let rules = c.rules.result in
    subst (λ (r : Rules). Notes r job.ignored.items job.paths.items) c.rules.ensures
    (subst (λ (xs : List (String Global)). Notes rules xs job.paths.items) c.deref-2.ensures.value
    (subst (λ (xs : List (String Global)). Notes rules c.deref-2.result.now xs) c.deref.ensures.value
    c.new.ensures.noted))
