use Rattle.std.proofs.Common.{◌≡◌, ◌+◌, ◌-◌, ◌++◌, ◌≤◌, ◌<◌, [], ◌∷◌, length, Bool, cond, Option, OnSome, refl, sym, ap, ◌∙◌, arith, subst, rules}
use Rattle.std.proofs.lemmas.List.{length-append}
use Rattle.tokei_walk.specs.declared.kept_file.KeptFile.{KeptFile}
use Rattle.tokei_folders.specs.declared.fs.Entry.{Entry}
use Rattle.tokei_folders.specs.Places.{joined}
use Rattle.tokei_walk.specs.declared.stack.Frame.{Frame}
use Rattle.tokei_walk.specs.declared.stack.Stack.{Stack}
use Rattle.tokei_walk.specs.Levels.{under}
use Rattle.tokei_walk.specs.declared.stack.Step.{Step}
use Rattle.tokei_walk.specs.Ranks.{weight, stack_rank, FoundFalls}
use Rattle.tokei_walk.specs.Stacks.{Pops, NoneIsSame, NoneStays, StepStays}
use Rattle.tokei_walk.proofs.StackSteps.{visit_left}
use Rattle.tokei_walk.proofs.Growing.{grows_on, grows_same}
use Rattle.tokei_walk.proofs.Ranking.{popped, entered_rank, stays_rank, file_falls, fewer_left, file_stays}
use Rattle.tokei_walk.proofs.Lasting.{lasts, answers, refused, stay_on}
use Rattle.tokei_walk.specs.declared.stack.Step.TheVariants.{Passed}
use Rattle.tokei_walk.specs.MetSteps.{ExploreMeets, Meets, StepMeets, VisitMeets, met_visit}
use Rattle.tokei_walk.specs.ToMeet.{met_stack, met_top}
use Rattle.tokei_walk.proofs.Meeting.{met_more, met_to}
use Rattle.tokei_walk.proofs.MetSteps.{meets_ended, meets_file, meets_in_stack, meets_none, meets_other, meets_some, stack_entered}
use Rattle.tokei_walk.proofs.stack.+exploring.Goals as goal

pub explore-loop-file-preserved : goal.explore-loop-file-preserved
explore-loop-file-preserved g t c =
    let inv = c.loop-file.invariant in let x = c.args.settings.now in let s = c.loop-file.stack in let v = c.meet_next.new.stack in
    let stays = subst (λ (o : Step). StepStays s v o) c.in-Passed.is c.in_ok-file.ensures.stays in
    let fewer : length v.left ≤ length s.left = omega (arith, stays.1) in record {
      notes = grows_on _ _ _ inv.notes c.meet_next.ensures.notes;
      same = c.meet_next.ensures.folders.same ∙ inv.same;
      honest = stay_on g.F.Folders.memory_faults _ _ _ inv.honest c.in_ok-file.ensures.folders.honest;
      stays = (stays.0.0 ∙ inv.stays.0, stays.0.1 ∙ inv.stays.1, stays.0.2 ∙ inv.stays.2);
      falls = omega (arith, stays_rank s v stays.0 fewer, inv.falls);
      met = λ t' e. inv.met t' e
          ∙ subst (λ (o : Step). StepMeets x.excludes x.rules t' s v c.loop-file.notes c.meet_next.new.notes o) c.in-Passed.is (c.in_ok-file.ensures.met t' (inv.same ∙ e));
    }

pub meet_next-returns-in-File-clause-falls : goal.meet_next-returns-in-File-clause-falls
meet_next-returns-in-File-clause-falls g t c =
    let pops = subst (λ (o : Option Entry). Pops c.args.stack.now c.next_entry.new.stack o) c.in-Some.is c.next_entry.ensures in
    file_falls c.args.stack.now c.next_entry.new.stack c.file_step.new.stack c.in-Some.entry c.file_step.result pops c.file_step.ensures.stays

pub meet_next-returns-in-Some-2-clause-falls : goal.meet_next-returns-in-Some-2-clause-falls
meet_next-returns-in-Some-2-clause-falls g t c =
    let s = c.args.stack.now in let u = c.next_entry.new.stack in let v = c.visit.new.stack in
    let pops = subst (λ (o : Option Entry). Pops s u o) c.in-Some.is c.next_entry.ensures in
    let falls = subst (λ (o : Option KeptFile). OnSome o (stack_rank v < stack_rank u + weight (256 - length u.holders))) c.in-Some-2.is c.in_ok-file-in-Folder.ensures.falls in
    let below = ap (λ (w : Stack). weight (256 - length w.holders)) pops.1 in
    omega (arith, popped s u c.in-Some.entry pops, below, falls)

pub visit-explore-requires : goal.visit-explore-requires
visit-explore-requires g t c κs within =
    let s = c.args.stack.now in
    let f : Frame = record { place = s.place; left = s.left } in
    let enters = c.in_ok-enter_entry.ensures.entered c.if-not-branch.false in
    let shallow = c.in_ok-enter_entry.ensures.shallow c.if-not-branch.false in
    let deeper : length c.enter_entry.new.stack.holders ≡ length s.holders + 1 = ap length enters.holders_is ∙ length-append s.holders (f ∷ []) in
    (omega (arith, shallow, deeper), search rules)

pub visit-returns-in-Some-clause-falls : goal.visit-returns-in-Some-clause-falls
visit-returns-in-Some-clause-falls g t c =
    let s = c.args.stack.now in let u = c.enter_entry.new.stack in let name = c.args.name in
    let falls = subst (λ (o : Option KeptFile). OnSome o (stack_rank c.explore.new.stack < stack_rank u)) c.in-Some.is c.in_ok-file.ensures.falls in
    let enters = c.in_ok-enter_entry.ensures.entered c.if-not-branch.false in
    let shallow = c.in_ok-enter_entry.ensures.shallow c.if-not-branch.false in
    omega (arith, entered_rank s u (under s.context name) (joined s.place name) shallow enters, falls)

pub visit-returns-in-None-clause-stays : goal.visit-returns-in-None-clause-stays
visit-returns-in-None-clause-stays g t c =
    let s = c.args.stack.now in let u = c.enter_entry.new.stack in let name = c.args.name in
    let stays = subst (λ (o : Option KeptFile). NoneStays u c.explore.new.stack o) c.in-None.is c.in_ok-file.ensures.stays in
    visit_left s u c.explore.new.stack c.leave.new.stack (under s.context name) c.leave.result name (joined s.place name) refl
    (c.in_ok-enter_entry.ensures.entered c.if-not-branch.false) stays.0 c.leave.ensures

pub explore-returns-in_err-file-clause-notes : goal.explore-returns-in_err-file-clause-notes
explore-returns-in_err-file-clause-notes g t c = grows_on _ _ _ c.loop-file.invariant.notes c.meet_next.ensures.notes

pub explore-returns-in-Found-clause-notes : goal.explore-returns-in-Found-clause-notes
explore-returns-in-Found-clause-notes g t c = grows_on _ _ _ c.loop-file.invariant.notes c.meet_next.ensures.notes

pub explore-returns-in-Ended-clause-notes : goal.explore-returns-in-Ended-clause-notes
explore-returns-in-Ended-clause-notes g t c = grows_on _ _ _ c.loop-file.invariant.notes c.meet_next.ensures.notes

pub meet_next-returns-in_default-clause-notes : goal.meet_next-returns-in_default-clause-notes
meet_next-returns-in_default-clause-notes g t c = grows_same _ _ refl

pub meet_next-returns-in-Other-clause-notes : goal.meet_next-returns-in-Other-clause-notes
meet_next-returns-in-Other-clause-notes g t c = grows_same _ _ refl

pub meet_next-returns-in-File-clause-notes : goal.meet_next-returns-in-File-clause-notes
meet_next-returns-in-File-clause-notes g t c = grows_same _ _ refl

pub visit-returns-in_err-file-clause-notes : goal.visit-returns-in_err-file-clause-notes
visit-returns-in_err-file-clause-notes g t c = grows_on _ _ _ c.enter_entry.ensures.notes c.explore.ensures.notes

pub visit-returns-in-Some-clause-notes : goal.visit-returns-in-Some-clause-notes
visit-returns-in-Some-clause-notes g t c = grows_on _ _ _ c.enter_entry.ensures.notes c.explore.ensures.notes

pub visit-returns-in-None-clause-notes : goal.visit-returns-in-None-clause-notes
visit-returns-in-None-clause-notes g t c = grows_on _ _ _ c.enter_entry.ensures.notes c.explore.ensures.notes

pub explore-loop-file-init : goal.explore-loop-file-init
explore-loop-file-init g t c = record {
  notes = grows_same _ _ refl;
  same = refl;
  honest = λ h. refl;
  stays = (refl, refl, refl);
  falls = omega arith;
  met = λ t' e. refl;
}

pub visit-returns-then-not-branch-clause-folders : goal.visit-returns-then-not-branch-clause-folders
visit-returns-then-not-branch-clause-folders g t c = answers c.in_ok-enter_entry.ensures.folders

pub visit-returns-in_err-file-clause-folders : goal.visit-returns-in_err-file-clause-folders
visit-returns-in_err-file-clause-folders g t c = refused c.from_residual-in_err-file.ensures.0 (c.explore.ensures.folders.same ∙ c.enter_entry.ensures.folders.same)

pub visit-returns-in-Some-clause-folders : goal.visit-returns-in-Some-clause-folders
visit-returns-in-Some-clause-folders g t c = answers (lasts c.in_ok-enter_entry.ensures.folders c.in_ok-file.ensures.folders)

pub visit-returns-in-None-clause-folders : goal.visit-returns-in-None-clause-folders
visit-returns-in-None-clause-folders g t c = answers (lasts c.in_ok-enter_entry.ensures.folders c.in_ok-file.ensures.folders)

pub explore-returns-in_err-file-clause-folders : goal.explore-returns-in_err-file-clause-folders
explore-returns-in_err-file-clause-folders g t c = refused c.from_residual.ensures.0 (c.meet_next.ensures.folders.same ∙ c.loop-file.invariant.same)

pub explore-returns-in-Found-clause-folders : goal.explore-returns-in-Found-clause-folders
explore-returns-in-Found-clause-folders g t c =
    let inv = c.loop-file.invariant in record {
      same = c.meet_next.ensures.folders.same ∙ inv.same;
      honest = stay_on g.F.Folders.memory_faults _ _ _ inv.honest c.in_ok-file.ensures.folders.honest;
    }

pub explore-returns-in-Ended-clause-folders : goal.explore-returns-in-Ended-clause-folders
explore-returns-in-Ended-clause-folders g t c =
    let inv = c.loop-file.invariant in record {
      same = c.meet_next.ensures.folders.same ∙ inv.same;
      honest = stay_on g.F.Folders.memory_faults _ _ _ inv.honest c.in_ok-file.ensures.folders.honest;
    }

pub explore-returns-in-Found-clause-falls : goal.explore-returns-in-Found-clause-falls
explore-returns-in-Found-clause-falls g t c =
    let falls = subst (λ (o : Step). FoundFalls c.loop-file.stack c.meet_next.new.stack o) c.in-Found.is c.in_ok-file.ensures.falls in
    omega (arith, falls, c.loop-file.invariant.falls)

pub explore-returns-in-Ended-clause-stays : goal.explore-returns-in-Ended-clause-stays
explore-returns-in-Ended-clause-stays g t c =
    let inv = c.loop-file.invariant in
    let stays = subst (λ (o : Step). StepStays c.loop-file.stack c.meet_next.new.stack o) c.in-Ended.is c.in_ok-file.ensures.stays in
    ((stays.0.0 ∙ inv.stays.0, stays.0.1 ∙ inv.stays.1, stays.0.2 ∙ inv.stays.2), stays.1)

pub meet_next-returns-in-Other-clause-stays : goal.meet_next-returns-in-Other-clause-stays
meet_next-returns-in-Other-clause-stays g t c =
    let s = c.args.stack.now in let u = c.next_entry.new.stack in
    fewer_left s u c.in-Some.entry (subst (λ (o : Option Entry). Pops s u o) c.in-Some.is c.next_entry.ensures)

pub meet_next-returns-in-File-clause-stays : goal.meet_next-returns-in-File-clause-stays
meet_next-returns-in-File-clause-stays g t c =
    let s = c.args.stack.now in let u = c.next_entry.new.stack in
    let pops = subst (λ (o : Option Entry). Pops s u o) c.in-Some.is c.next_entry.ensures in
    file_stays s u c.file_step.new.stack c.in-Some.entry _ _ c.file_step.result pops c.file_step.ensures.stays c.file_step.ensures.kept

pub meet_next-returns-in-None-clause-stays : goal.meet_next-returns-in-None-clause-stays
meet_next-returns-in-None-clause-stays g t c =
    let s = c.args.stack.now in let u = c.next_entry.new.stack in let v = c.visit.new.stack in
    let pops = subst (λ (o : Option Entry). Pops s u o) c.in-Some.is c.next_entry.ensures in
    let same = subst (λ (o : Option KeptFile). NoneIsSame u v o) c.in-None.is c.in_ok-file-in-Folder.ensures.stays in
    subst (λ (w : Stack). StepStays s w Passed) (sym same) (fewer_left s u c.in-Some.entry pops)

pub visit-returns-then-not-branch-clause-stays : goal.visit-returns-then-not-branch-clause-stays
visit-returns-then-not-branch-clause-stays g t c = c.in_ok-enter_entry.ensures.refused c.if-not-branch.true

pub visit-returns-then-not-branch-clause-notes : goal.visit-returns-then-not-branch-clause-notes
visit-returns-then-not-branch-clause-notes g t c = c.enter_entry.ensures.notes

pub meet_next-returns-in-Some-2-clause-folders : goal.meet_next-returns-in-Some-2-clause-folders
meet_next-returns-in-Some-2-clause-folders g t c = answers c.in_ok-file-in-Folder.ensures.folders

pub meet_next-returns-in-None-clause-folders : goal.meet_next-returns-in-None-clause-folders
meet_next-returns-in-None-clause-folders g t c = answers c.in_ok-file-in-Folder.ensures.folders

pub meet_next-returns-in-Some-2-clause-notes : goal.meet_next-returns-in-Some-2-clause-notes
meet_next-returns-in-Some-2-clause-notes g t c = c.visit.ensures.notes

pub meet_next-returns-in-None-clause-notes : goal.meet_next-returns-in-None-clause-notes
meet_next-returns-in-None-clause-notes g t c = c.visit.ensures.notes

pub meet_next-returns-in_default-clause-stays : goal.meet_next-returns-in_default-clause-stays
meet_next-returns-in_default-clause-stays g t c =
    let pops = subst (λ (o : Option Entry). Pops c.args.stack.now c.next_entry.new.stack o) c.in_default.is c.next_entry.ensures in
    ((ap (λ (u : Stack). u.context) pops.1, ap (λ (u : Stack). u.place) pops.1, ap (λ (u : Stack). u.holders) pops.1), ap (λ (u : Stack). u.left) pops.1 ∙ pops.0)

pub meet_next-returns-in_default-clause-met : goal.meet_next-returns-in_default-clause-met
meet_next-returns-in_default-clause-met g t c = λ t' e.
    let s = c.args.stack.now in let x = c.args.settings.now in
    let pops = subst (λ (o : Option Entry). Pops s c.next_entry.new.stack o) c.in_default.is c.next_entry.ensures in
    meets_ended x.excludes x.rules t' s c.next_entry.new.stack c.args.notes.now pops

pub meet_next-returns-in-Other-clause-met : goal.meet_next-returns-in-Other-clause-met
meet_next-returns-in-Other-clause-met g t c = λ t' e.
    let s = c.args.stack.now in let x = c.args.settings.now in
    let pops = subst (λ (o : Option Entry). Pops s c.next_entry.new.stack o) c.in-Some.is c.next_entry.ensures in
    meets_other x.excludes x.rules t' s c.next_entry.new.stack c.in-Some.entry c.args.notes.now pops c.in-Other.is

pub meet_next-returns-in-File-clause-met : goal.meet_next-returns-in-File-clause-met
meet_next-returns-in-File-clause-met g t c = λ t' e.
    let s = c.args.stack.now in let x = c.args.settings.now in
    let pops = subst (λ (o : Option Entry). Pops s c.next_entry.new.stack o) c.in-Some.is c.next_entry.ensures in
    meets_file x.excludes x.rules t' s c.next_entry.new.stack c.file_step.new.stack c.in-Some.entry c.args.notes.now c.file_step.result pops c.in-File.is
    c.file_step.ensures.stays c.file_step.ensures.kept

pub meet_next-returns-in-Some-2-clause-met : goal.meet_next-returns-in-Some-2-clause-met
meet_next-returns-in-Some-2-clause-met g t c = λ t' e.
    let s = c.args.stack.now in let x = c.args.settings.now in let u = c.next_entry.new.stack in let entry = c.in-Some.entry in
    let pops = subst (λ (o : Option Entry). Pops s u o) c.in-Some.is c.next_entry.ensures in
    let met =
    subst (λ (o : Option KeptFile). VisitMeets x.excludes x.rules t' u c.visit.new.stack c.args.notes.now c.visit.new.notes entry.name (joined u.place entry.name) o)
    c.in-Some-2.is (c.in_ok-file-in-Folder.ensures.met t' e) in
    meets_some x.excludes x.rules t' s u entry c.args.notes.now c.visit.new.notes _ pops c.in-Folder.is met

pub meet_next-returns-in-None-clause-met : goal.meet_next-returns-in-None-clause-met
meet_next-returns-in-None-clause-met g t c = λ t' e.
    let s = c.args.stack.now in let x = c.args.settings.now in let u = c.next_entry.new.stack in let entry = c.in-Some.entry in
    let pops = subst (λ (o : Option Entry). Pops s u o) c.in-Some.is c.next_entry.ensures in
    let met =
    subst (λ (o : Option KeptFile). VisitMeets x.excludes x.rules t' u c.visit.new.stack c.args.notes.now c.visit.new.notes entry.name (joined u.place entry.name) o)
    c.in-None.is (c.in_ok-file-in-Folder.ensures.met t' e) in
    let same = subst (λ (o : Option KeptFile). NoneIsSame u c.visit.new.stack o) c.in-None.is c.in_ok-file-in-Folder.ensures.stays in
    meets_none x.excludes x.rules t' s u c.visit.new.stack entry c.args.notes.now c.visit.new.notes pops c.in-Folder.is same met

pub visit-returns-then-not-branch-clause-met : goal.visit-returns-then-not-branch-clause-met
visit-returns-then-not-branch-clause-met g t c = λ t' e.
    let x = c.args.settings.now in let s = c.args.stack.now in let name = c.args.name in
    subst
    (λ (b : Bool). Meets c.args.notes.now (met_visit x.excludes x.rules t' s name (joined s.place name)) c.enter_entry.new.notes (cond b (met_top x.excludes x.rules t' c.enter_entry.new.stack) []))
    c.if-not-branch.true (c.in_ok-enter_entry.ensures.met t' e)

pub visit-returns-in-Some-clause-met : goal.visit-returns-in-Some-clause-met
visit-returns-in-Some-clause-met g t c = λ t' e.
    let x = c.args.settings.now in let s = c.args.stack.now in let u = c.enter_entry.new.stack in let name = c.args.name in
    let enters = c.in_ok-enter_entry.ensures.entered c.if-not-branch.false in
    let own = met_visit x.excludes x.rules t' s name (joined s.place name) in
    let n = c.args.notes.now in let m = c.enter_entry.new.notes in
    let met =
    subst (λ (b : Bool). Meets n own m (cond b (met_top x.excludes x.rules t' u) [])) c.if-not-branch.false (c.in_ok-enter_entry.ensures.met t' e) in
    let explored =
    subst (λ (o : Option KeptFile). ExploreMeets x.excludes x.rules t' u c.explore.new.stack m c.explore.new.notes o) c.in-Some.is
    (c.in_ok-file.ensures.met t' (c.enter_entry.ensures.folders.same ∙ e)) in
    met_to n m (own ++ met_stack x.excludes x.rules t' s) _ (met_stack x.excludes x.rules t' u)
    (sym (stack_entered x.excludes x.rules t' s u (under s.context name) name (joined s.place name) refl enters))
    (met_more n m own (met_top x.excludes x.rules t' u) (met_stack x.excludes x.rules t' s) met)
    ∙ explored

pub visit-returns-in-None-clause-met : goal.visit-returns-in-None-clause-met
visit-returns-in-None-clause-met g t c = λ t' e.
    let x = c.args.settings.now in let s = c.args.stack.now in let u = c.enter_entry.new.stack in let name = c.args.name in
    let own = met_visit x.excludes x.rules t' s name (joined s.place name) in
    let n = c.args.notes.now in let m = c.enter_entry.new.notes in
    let met =
    subst (λ (b : Bool). Meets n own m (cond b (met_top x.excludes x.rules t' u) [])) c.if-not-branch.false (c.in_ok-enter_entry.ensures.met t' e) in
    let explored =
    subst (λ (o : Option KeptFile). ExploreMeets x.excludes x.rules t' u c.explore.new.stack m c.explore.new.notes o) c.in-None.is
    (c.in_ok-file.ensures.met t' (c.enter_entry.ensures.folders.same ∙ e)) in
    met ∙ explored

pub explore-returns-in-Found-clause-met : goal.explore-returns-in-Found-clause-met
explore-returns-in-Found-clause-met g t c = λ t' e.
    let inv = c.loop-file.invariant in let x = c.args.settings.now in let s = c.loop-file.stack in
    let found =
    subst (λ (o : Step). StepMeets x.excludes x.rules t' s c.meet_next.new.stack c.loop-file.notes c.meet_next.new.notes o) c.in-Found.is
    (c.in_ok-file.ensures.met t' (inv.same ∙ e)) in
    meets_in_stack x.excludes x.rules t' c.args.stack.now s c.args.notes.now c.loop-file.notes inv.stays (inv.met t' e) ∙ found

pub explore-returns-in-Ended-clause-met : goal.explore-returns-in-Ended-clause-met
explore-returns-in-Ended-clause-met g t c = λ t' e.
    let inv = c.loop-file.invariant in let x = c.args.settings.now in
    let ended =
    subst (λ (o : Step). StepMeets x.excludes x.rules t' c.loop-file.stack c.meet_next.new.stack c.loop-file.notes c.meet_next.new.notes o) c.in-Ended.is
    (c.in_ok-file.ensures.met t' (inv.same ∙ e)) in
    inv.met t' e ∙ ended
