use Rattle.std.proofs.Common.{◌++◌, refl, List, Option, Ok, ◌∙◌, sym, ap, append-nil, subst}
use Rattle.tokei_walk.specs.declared.kept_file.KeptFile.{KeptFile}
use Rattle.tokei_walk.specs.Walks.{to_come, Advances}
use Rattle.tokei_walk.proofs.Growing.{grows_on, grows_same}
use Rattle.tokei_walk.proofs.RootSteps.{more}
use Rattle.tokei_walk.proofs.Lasting.{stay_on, refused}
use Rattle.tokei_walk.proofs.Noting.{come_all}
use Rattle.tokei_walk.proofs.Over.{over_notes}
use Rattle.tokei_walk.proofs.collect.files_to_come.Goals as goal

pub loop-files-init : goal.loop-files-init
loop-files-init g c = record {
  notes = grows_same _ _ refl;
  same = refl;
  honest = λ h. refl;
  told = λ t e. ap (λ (x : List KeptFile). x ++ to_come t c.args.walk.now) c.new-files.ensures;
  noted = λ t e. refl;
}

pub loop-files-preserved : goal.loop-files-preserved
loop-files-preserved g c =
    let inv = c.loop-files.invariant in record {
      notes = grows_on _ _ _ inv.notes c.next.ensures.notes;
      same = c.next.ensures.folders.same ∙ inv.same;
      honest = stay_on g.F.Folders.memory_faults _ _ _ inv.honest c.in_ok-file.ensures.folders.honest;
      told = λ t e.
          let given = subst (λ (o : Option KeptFile). Advances (to_come t c.loop-files.walk) (to_come t c.next.new.self) o) c.in-Some.is (c.in_ok-file.ensures.told t (inv.same ∙ e)) in
          more c.loop-files.files c.push.new.self (to_come t c.loop-files.walk) (to_come t c.next.new.self) _ c.in-Some.file c.in_ok-push.ensures.ok given (inv.told t e);
      noted = λ t e. inv.noted t e ∙ c.in_ok-file.ensures.noted t (inv.same ∙ e);
    }

pub returns-clause-told : goal.returns-clause-told
returns-clause-told g c = λ t e.
    let inv = c.loop-files.invariant in
    let none = subst (λ (o : Option KeptFile). Advances (to_come t c.loop-files.walk) (to_come t c.next.new.self) o) c.in_default.is (c.in_ok-file.ensures.told t (inv.same ∙ e)) in
    c.into_vec.ensures ∙ sym (append-nil c.loop-files.files) ∙ ap (λ (x : List KeptFile). c.loop-files.files ++ x) (sym none) ∙ inv.told t e

pub returns-in_err-file-clause-notes : goal.returns-in_err-file-clause-notes
returns-in_err-file-clause-notes g c = grows_on _ _ _ c.loop-files.invariant.notes c.next.ensures.notes

pub returns-in_err-push-clause-notes : goal.returns-in_err-push-clause-notes
returns-in_err-push-clause-notes g c = grows_on _ _ _ c.loop-files.invariant.notes c.next.ensures.notes

pub returns-clause-notes : goal.returns-clause-notes
returns-clause-notes g c = grows_on _ _ _ c.loop-files.invariant.notes c.next.ensures.notes

pub returns-in_err-file-clause-folders : goal.returns-in_err-file-clause-folders
returns-in_err-file-clause-folders g c = refused c.from_residual.ensures.0 (c.next.ensures.folders.same ∙ c.loop-files.invariant.same)

pub returns-in_err-push-clause-folders : goal.returns-in_err-push-clause-folders
returns-in_err-push-clause-folders g c = refused c.from_residual-in_err-push.ensures.0 (c.next.ensures.folders.same ∙ c.loop-files.invariant.same)

pub returns-clause-folders : goal.returns-clause-folders
returns-clause-folders g c =
    let inv = c.loop-files.invariant in record {
      same = c.next.ensures.folders.same ∙ inv.same;
      honest = stay_on g.F.Folders.memory_faults _ _ _ inv.honest c.in_ok-file.ensures.folders.honest;
    }

pub returns-clause-noted : goal.returns-clause-noted
returns-clause-noted g c = λ t e.
    let inv = c.loop-files.invariant in
    come_all _ _ _ _ (over_notes t c.next.new.self (c.in_ok-file.ensures.over (ap Ok c.in_default.is)))
    (inv.noted t e ∙ c.in_ok-file.ensures.noted t (inv.same ∙ e))
