use Rattle.std.proofs.Common.{◌++◌, ◌∷◌, [], ℕ, List, Bool, Option, Some, None, length, reverse, sym, ap, ap₂, ◌∙◌, subst, arith, refl}
use Rattle.std.proofs.lemmas.List.{length-append}
use Rattle.tokei_walk.specs.declared.kept_file.KeptFile.{KeptFile}
use Rattle.tokei_walk.specs.declared.stack.Frame.{Frame}
use Rattle.tokei_walk.specs.declared.stack.Stack.{Stack}
use Rattle.tokei_walk.specs.Ranks.{stack_rank}
use Rattle.tokei_walk.specs.Stacks.{Leaves}
use Rattle.tokei_walk.proofs.Ranking.{left_rank, all_stays, root_falls, root_passed}
use Rattle.tokei_walk.proofs.Growing.{grows_same}
use Rattle.tokei_walk.proofs.Lasting.{answers}
use Rattle.tokei_walk.specs.Met.{Met, met_in, met_root}
use Rattle.tokei_walk.specs.MetSteps.{Meets, with_found}
use Rattle.tokei_walk.specs.ToMeet.{met_all, met_stack}
use Rattle.tokei_walk.proofs.Meeting.{met_same}
use Rattle.tokei_walk.proofs.MetRoots.{meets_root}
use Rattle.tokei_walk.proofs.MetSteps.{left_meets, top_ends}
use Rattle.tokei_walk.proofs.walking.go_on.Goals as goal

pub returns-then-leave-clause-falls : goal.returns-then-leave-clause-falls
returns-then-leave-clause-falls g c =
    let s = c.args.stack.now in let w = c.leave.new.stack in
    let left = subst (λ (b : Bool). Leaves s w b) c.if-leave.true c.leave.ensures in
    let f : Frame = record { place = w.place; left = w.left } in
    (all_stays s w c.args.roots.now (left_rank s w left), omega (arith, ap length left.0, length-append w.holders (f ∷ [])))

pub returns-in_default-clause-falls : goal.returns-in_default-clause-falls
returns-in_default-clause-falls g c =
    let left = c.if-leave.ensures in
    (ap (λ (u : Stack). u.left) left.1 ∙ c.requires, ap (λ (u : Stack). u.holders) left.1 ∙ left.0, c.in_default.ensures.1)

pub returns-in-Some-2-clause-falls : goal.returns-in-Some-2-clause-falls
returns-in-Some-2-clause-falls g c =
    let left = c.if-leave.ensures in
    root_falls c.args.stack.now c.begin_root.new.stack c.args.roots.now c.pop.new.self c.in-Some.root c.in-Some.ensures
    (omega (arith, ap stack_rank left.1, c.in_ok-file.ensures.bounded))

pub returns-in-None-clause-falls : goal.returns-in-None-clause-falls
returns-in-None-clause-falls g c =
    let left = c.if-leave.ensures in
    root_passed c.args.stack.now c.begin_root.new.stack c.args.roots.now c.pop.new.self c.in-Some.root c.in-Some.ensures
    (omega (arith, ap stack_rank left.1, c.in_ok-file.ensures.bounded))
    (omega (arith, ap (λ (u : Stack). length u.holders) left.1, c.in_ok-file.ensures.holders))

pub returns-then-leave-clause-notes : goal.returns-then-leave-clause-notes
returns-then-leave-clause-notes g c = grows_same _ _ refl

pub returns-in_default-clause-notes : goal.returns-in_default-clause-notes
returns-in_default-clause-notes g c = grows_same _ _ refl

pub returns-in-Some-2-clause-notes : goal.returns-in-Some-2-clause-notes
returns-in-Some-2-clause-notes g c = c.begin_root.ensures.notes

pub returns-in-None-clause-notes : goal.returns-in-None-clause-notes
returns-in-None-clause-notes g c = c.begin_root.ensures.notes

pub returns-in-Some-2-clause-folders : goal.returns-in-Some-2-clause-folders
returns-in-Some-2-clause-folders g c = answers c.in_ok-file.ensures.folders

pub returns-in-None-clause-folders : goal.returns-in-None-clause-folders
returns-in-None-clause-folders g c = answers c.in_ok-file.ensures.folders

pub returns-then-leave-clause-met : goal.returns-then-leave-clause-met
returns-then-leave-clause-met g c = λ t e.
    let x = c.args.settings.now in let s = c.args.stack.now in let roots = c.args.roots.now in
    met_same _ _ _ _ refl
    (ap (λ (q : List Met). q ++ met_in x.excludes x.rules t (reverse roots))
    (left_meets x.excludes x.rules t s c.leave.new.stack c.leave.result c.if-leave.true
    (top_ends x.excludes x.rules t s (ap reverse c.requires)) c.leave.ensures))

pub returns-in_default-clause-met : goal.returns-in_default-clause-met
returns-in_default-clause-met g c = λ t e.
    let x = c.args.settings.now in
    met_same _ _ _ _ refl
    (ap₂ (λ (u : Stack) (q : List (List ℕ)). met_all x.excludes x.rules t u q) (sym c.if-leave.ensures.1) (c.in_default.ensures.0 ∙ sym c.in_default.ensures.1))

pub returns-in-Some-2-clause-met : goal.returns-in-Some-2-clause-met
returns-in-Some-2-clause-met g c = λ t e.
    let x = c.args.settings.now in let s = c.args.stack.now in let root = c.in-Some.root in let front = c.pop.new.self in
    let left = c.if-leave.ensures in
    let begun =
    subst
    (λ (o : Option KeptFile). Meets c.args.notes.now (met_root x.excludes x.rules t root) c.begin_root.new.notes (with_found o (met_stack x.excludes x.rules t c.begin_root.new.stack)))
    c.in-Some-2.is (c.in_ok-file.ensures.met t e (ap (λ (u : Stack). u.left) left.1 ∙ c.requires) (ap (λ (u : Stack). u.holders) left.1 ∙ left.0)) in
    meets_root x.excludes x.rules t s c.begin_root.new.stack c.args.roots.now front root c.args.notes.now c.begin_root.new.notes (Some c.in-Some-2.file) c.requires left.0 c.in-Some.ensures begun

pub returns-in-None-clause-met : goal.returns-in-None-clause-met
returns-in-None-clause-met g c = λ t e.
    let x = c.args.settings.now in let s = c.args.stack.now in let root = c.in-Some.root in let front = c.pop.new.self in
    let left = c.if-leave.ensures in
    let begun =
    subst
    (λ (o : Option KeptFile). Meets c.args.notes.now (met_root x.excludes x.rules t root) c.begin_root.new.notes (with_found o (met_stack x.excludes x.rules t c.begin_root.new.stack)))
    c.in-None.is (c.in_ok-file.ensures.met t e (ap (λ (u : Stack). u.left) left.1 ∙ c.requires) (ap (λ (u : Stack). u.holders) left.1 ∙ left.0)) in
    meets_root x.excludes x.rules t s c.begin_root.new.stack c.args.roots.now front root c.args.notes.now c.begin_root.new.notes None c.requires left.0 c.in-Some.ensures begun
