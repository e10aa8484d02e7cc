use Rattle.std.proofs.Common.{◌<◌, Option, OnSome, length, ap, ◌∙◌, subst, arith, refl}
use Rattle.tokei_walk.specs.declared.kept_file.KeptFile.{KeptFile}
use Rattle.tokei_walk.specs.declared.stack.Step.{Step}
use Rattle.tokei_walk.specs.Ranks.{stack_rank}
use Rattle.tokei_walk.specs.MetSteps.{ExploreMeets, Meets, file_of, with_found}
use Rattle.tokei_walk.specs.ToMeet.{met_all}
use Rattle.tokei_walk.specs.Stacks.{NoneStays}
use Rattle.tokei_walk.specs.Turns.{TurnFalls}
use Rattle.tokei_walk.proofs.Growing.{grows_on, grows_same}
use Rattle.tokei_walk.proofs.Ranking.{explored_rank, all_falls, all_stays}
use Rattle.tokei_walk.proofs.MetRoots.{all_explored, all_found}
use Rattle.tokei_walk.proofs.Lasting.{stay_on, refused}
use Rattle.tokei_walk.proofs.walking.advance.Goals as goal

pub go_on-requires : goal.go_on-requires
go_on-requires g c = (subst (λ (o : Option KeptFile). NoneStays c.loop-file.stack c.explore.new.stack o) c.in-None.is c.in_ok-file.ensures.stays).1

pub loop-file-smaller : goal.loop-file-smaller
loop-file-smaller g c =
    let s = c.loop-file.stack in let v = c.explore.new.stack in
    let stays = subst (λ (o : Option KeptFile). NoneStays s v o) c.in-None.is c.in_ok-file.ensures.stays in
    let falls = subst (λ (o : Step). TurnFalls v c.loop-file.roots c.go_on.new.stack c.go_on.new.roots o) c.in-Passed.is c.in_ok-file-2.ensures.falls in
    omega (arith, ap length stays.0.2, falls.1)

pub loop-file-preserved : goal.loop-file-preserved
loop-file-preserved g c =
    let inv = c.loop-file.invariant in let x = c.args.settings.now in let s = c.loop-file.stack in let v = c.explore.new.stack in
    let roots = c.loop-file.roots in let w = c.go_on.new.stack in let front = c.go_on.new.roots in
    let stays = subst (λ (o : Option KeptFile). NoneStays s v o) c.in-None.is c.in_ok-file.ensures.stays in
    let falls = subst (λ (o : Step). TurnFalls v roots w front o) c.in-Passed.is c.in_ok-file-2.ensures.falls in record {
      notes = grows_on _ _ _ (grows_on _ _ _ inv.notes c.explore.ensures.notes) c.go_on.ensures.notes;
      falls = omega (arith, all_stays s v roots (explored_rank s v stays.0 stays.1), falls.0, inv.falls);
      same = c.go_on.ensures.folders.same ∙ c.explore.ensures.folders.same ∙ inv.same;
      honest = stay_on g.F.Folders.memory_faults _ _ _ inv.honest (stay_on g.F.Folders.memory_faults _ _ _ c.in_ok-file.ensures.folders.honest c.in_ok-file-2.ensures.folders.honest);
      met = λ t e.
          let top = subst (λ (o : Option KeptFile). ExploreMeets x.excludes x.rules t s v c.loop-file.notes c.explore.new.notes o) c.in-None.is (c.in_ok-file.ensures.met t (inv.same ∙ e)) in
          let turn =
          subst (λ (o : Step). Meets c.explore.new.notes (met_all x.excludes x.rules t v roots) c.go_on.new.notes (with_found (file_of o) (met_all x.excludes x.rules t w front))) c.in-Passed.is
          (c.in_ok-file-2.ensures.met t (c.explore.ensures.folders.same ∙ inv.same ∙ e)) in
          inv.met t e ∙ all_explored x.excludes x.rules t s v roots _ _ stays top ∙ turn;
    }

pub returns-in-Some-clause-fewer : goal.returns-in-Some-clause-fewer
returns-in-Some-clause-fewer g c =
    let s = c.loop-file.stack in let v = c.explore.new.stack in
    let falls = subst (λ (o : Option KeptFile). OnSome o (stack_rank v < stack_rank s)) c.in-Some.is c.in_ok-file.ensures.falls in
    omega (arith, all_falls s v c.loop-file.roots falls, c.loop-file.invariant.falls)

pub returns-in-Found-clause-fewer : goal.returns-in-Found-clause-fewer
returns-in-Found-clause-fewer g c =
    let s = c.loop-file.stack in let v = c.explore.new.stack in
    let stays = subst (λ (o : Option KeptFile). NoneStays s v o) c.in-None.is c.in_ok-file.ensures.stays in
    let falls = subst (λ (o : Step). TurnFalls v c.loop-file.roots c.go_on.new.stack c.go_on.new.roots o) c.in-Found.is c.in_ok-file-2.ensures.falls in
    omega (arith, all_stays s v c.loop-file.roots (explored_rank s v stays.0 stays.1), falls, c.loop-file.invariant.falls)

pub returns-in-Ended-clause-ended : goal.returns-in-Ended-clause-ended
returns-in-Ended-clause-ended g c = λ q.
    subst (λ (o : Step). TurnFalls c.explore.new.stack c.loop-file.roots c.go_on.new.stack c.go_on.new.roots o) c.in-Ended.is c.in_ok-file-2.ensures.falls

pub returns-in_err-file-clause-notes : goal.returns-in_err-file-clause-notes
returns-in_err-file-clause-notes g c = grows_on _ _ _ c.loop-file.invariant.notes c.explore.ensures.notes

pub returns-in-Some-clause-notes : goal.returns-in-Some-clause-notes
returns-in-Some-clause-notes g c = grows_on _ _ _ c.loop-file.invariant.notes c.explore.ensures.notes

pub returns-in_err-file-2-clause-notes : goal.returns-in_err-file-2-clause-notes
returns-in_err-file-2-clause-notes g c = grows_on _ _ _ c.loop-file.invariant.notes (grows_on _ _ _ c.explore.ensures.notes c.go_on.ensures.notes)

pub returns-in-Found-clause-notes : goal.returns-in-Found-clause-notes
returns-in-Found-clause-notes g c = grows_on _ _ _ c.loop-file.invariant.notes (grows_on _ _ _ c.explore.ensures.notes c.go_on.ensures.notes)

pub returns-in-Ended-clause-notes : goal.returns-in-Ended-clause-notes
returns-in-Ended-clause-notes g c = grows_on _ _ _ c.loop-file.invariant.notes (grows_on _ _ _ c.explore.ensures.notes c.go_on.ensures.notes)

pub loop-file-init : goal.loop-file-init
loop-file-init g c = record {
  notes = grows_same _ _ refl;
  falls = omega arith;
  same = refl;
  honest = λ h. refl;
  met = λ t e. refl;
}

pub returns-in_err-file-clause-folders : goal.returns-in_err-file-clause-folders
returns-in_err-file-clause-folders g c = refused c.from_residual.ensures.0 (c.explore.ensures.folders.same ∙ c.loop-file.invariant.same)

pub returns-in_err-file-2-clause-folders : goal.returns-in_err-file-2-clause-folders
returns-in_err-file-2-clause-folders g c = refused c.from_residual-in_err-file-2.ensures.0 (c.go_on.ensures.folders.same ∙ c.explore.ensures.folders.same ∙ c.loop-file.invariant.same)

pub returns-in-Some-clause-folders : goal.returns-in-Some-clause-folders
returns-in-Some-clause-folders g c =
    let inv = c.loop-file.invariant in record {
      same = c.explore.ensures.folders.same ∙ inv.same;
      honest = stay_on g.F.Folders.memory_faults _ _ _ inv.honest c.in_ok-file.ensures.folders.honest;
    }

pub returns-in-Found-clause-folders : goal.returns-in-Found-clause-folders
returns-in-Found-clause-folders g c =
    let inv = c.loop-file.invariant in record {
      same = c.go_on.ensures.folders.same ∙ c.explore.ensures.folders.same ∙ inv.same;
      honest = stay_on g.F.Folders.memory_faults _ _ _ inv.honest (stay_on g.F.Folders.memory_faults _ _ _ c.in_ok-file.ensures.folders.honest c.in_ok-file-2.ensures.folders.honest);
    }

pub returns-in-Ended-clause-folders : goal.returns-in-Ended-clause-folders
returns-in-Ended-clause-folders g c =
    let inv = c.loop-file.invariant in record {
      same = c.go_on.ensures.folders.same ∙ c.explore.ensures.folders.same ∙ inv.same;
      honest = stay_on g.F.Folders.memory_faults _ _ _ inv.honest (stay_on g.F.Folders.memory_faults _ _ _ c.in_ok-file.ensures.folders.honest c.in_ok-file-2.ensures.folders.honest);
    }

pub returns-in-Some-clause-met : goal.returns-in-Some-clause-met
returns-in-Some-clause-met g c = λ t e.
    let inv = c.loop-file.invariant in let x = c.args.settings.now in let s = c.loop-file.stack in let v = c.explore.new.stack in
    let explored = subst (λ (o : Option KeptFile). ExploreMeets x.excludes x.rules t s v c.loop-file.notes c.explore.new.notes o) c.in-Some.is (c.in_ok-file.ensures.met t (inv.same ∙ e)) in
    inv.met t e ∙ all_found x.excludes x.rules t s v c.loop-file.roots _ _ c.in-Some.file explored

pub returns-in-Found-clause-met : goal.returns-in-Found-clause-met
returns-in-Found-clause-met g c = λ t e.
    let inv = c.loop-file.invariant in let x = c.args.settings.now in let s = c.loop-file.stack in let v = c.explore.new.stack in let roots = c.loop-file.roots in
    let stays = subst (λ (o : Option KeptFile). NoneStays s v o) c.in-None.is c.in_ok-file.ensures.stays in
    let top = subst (λ (o : Option KeptFile). ExploreMeets x.excludes x.rules t s v c.loop-file.notes c.explore.new.notes o) c.in-None.is (c.in_ok-file.ensures.met t (inv.same ∙ e)) in
    let turn =
    subst
    (λ (o : Step). Meets c.explore.new.notes (met_all x.excludes x.rules t v roots) c.go_on.new.notes (with_found (file_of o) (met_all x.excludes x.rules t c.go_on.new.stack c.go_on.new.roots)))
    c.in-Found.is
    (c.in_ok-file-2.ensures.met t (c.explore.ensures.folders.same ∙ inv.same ∙ e)) in
    inv.met t e ∙ all_explored x.excludes x.rules t s v roots _ _ stays top ∙ turn

pub returns-in-Ended-clause-met : goal.returns-in-Ended-clause-met
returns-in-Ended-clause-met g c = λ t e.
    let inv = c.loop-file.invariant in let x = c.args.settings.now in let s = c.loop-file.stack in let v = c.explore.new.stack in let roots = c.loop-file.roots in
    let stays = subst (λ (o : Option KeptFile). NoneStays s v o) c.in-None.is c.in_ok-file.ensures.stays in
    let top = subst (λ (o : Option KeptFile). ExploreMeets x.excludes x.rules t s v c.loop-file.notes c.explore.new.notes o) c.in-None.is (c.in_ok-file.ensures.met t (inv.same ∙ e)) in
    let turn =
    subst
    (λ (o : Step). Meets c.explore.new.notes (met_all x.excludes x.rules t v roots) c.go_on.new.notes (with_found (file_of o) (met_all x.excludes x.rules t c.go_on.new.stack c.go_on.new.roots)))
    c.in-Ended.is
    (c.in_ok-file-2.ensures.met t (c.explore.ensures.folders.same ∙ inv.same ∙ e)) in
    inv.met t e ∙ all_explored x.excludes x.rules t s v roots _ _ stays top ∙ turn
