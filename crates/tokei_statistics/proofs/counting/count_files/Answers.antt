use Rattle.std.proofs.Common.{◌≡◌, ◌++◌, append-nil, Option, Ok, Err, refl, ap, sym, ◌∙◌, subst, rules, List, ℕ}
use Rattle.tokei_languages.specs.Seen.{languages_of}
use Rattle.tokei_languages.specs.Values.{LanguageValue}
use Rattle.tokei_stats.specs.declared.error.CountError.TheVariants.{Overflow}
use Rattle.tokei_walk.specs.declared.kept_file.KeptFile.{KeptFile}
use Rattle.tokei_walk.specs.Walks.{to_come, Advances}
use Rattle.tokei_walk.proofs.Growing.{grows_same, grows_on}
use Rattle.tokei_walk.proofs.Lasting.{stay_on, refused}
use Rattle.tokei_statistics.specs.Runs.{AddsFirst}
use Rattle.tokei_files.specs.Seen.{counting_of}
use Rattle.tokei_files.specs.Unread.{unread_of}
use Rattle.tokei_files.proofs.UnreadNotes.{noted_more}
use Rattle.tokei_statistics.proofs.Running.{none_yet, one_more, all_done, first_done, one_over, always_err}
use Rattle.tokei_walk.proofs.Noting.{come_all}
use Rattle.tokei_walk.proofs.Over.{over_notes}
use Rattle.tokei_statistics.proofs.counting.count_files.Goals as goal

pub loop-file-init : goal.loop-file-init
loop-file-init g c = record {
  same = refl;
  notes = grows_same _ _ refl;
  honest = λ h. refl;
  told = λ t e. none_yet (counting_of c.args.counting.now) t (to_come t c.args.walk.now) (languages_of c.args.languages.now);
  unread = λ t e. refl;
  noted = λ t e. refl;
}

pub returns-in_err-file-clause-partly : goal.returns-in_err-file-clause-partly
returns-in_err-file-clause-partly g c = λ t e. always_err c.from_residual.result (first_done (counting_of c.args.counting.now) t _ _ _ _ (c.loop-file.invariant.told t e))

pub loop-file-preserved : goal.loop-file-preserved
loop-file-preserved g c =
    let inv = c.loop-file.invariant in record {
      same = c.add_file.ensures.same ∙ c.next.ensures.folders.same ∙ inv.same;
      notes = grows_on _ _ _ inv.notes c.next.ensures.notes;
      honest = stay_on g.F.Folders.memory_faults _ _ _ inv.honest (stay_on g.F.Folders.memory_faults _ _ _ c.in_ok-file.ensures.folders.honest (c.in_ok-add_file.ensures.honest (λ q. cc)));
      told = λ t e.
          let here = inv.same ∙ e in
          let given = subst (λ (o : Option KeptFile). Advances (to_come t c.loop-file.walk) (to_come t c.next.new.self) o) c.in-Some.is (c.in_ok-file.ensures.told t here) in
          one_more (counting_of c.args.counting.now) t _ _ _ c.in-Some.file _ _ _ (inv.told t e) given (c.in_ok-add_file.ensures.told t (c.next.ensures.folders.same ∙ here));
      unread = λ t e.
          let here = inv.same ∙ e in
          let given = subst (λ (o : Option KeptFile). Advances (to_come t c.loop-file.walk) (to_come t c.next.new.self) o) c.in-Some.is (c.in_ok-file.ensures.told t here) in
          noted_more (counting_of c.args.counting.now) t _ _ c.in-Some.file _ _ _ (inv.unread t e) given (c.in_ok-add_file.ensures.unread t (c.next.ensures.folders.same ∙ here));
      noted = λ t e. inv.noted t e ∙ c.in_ok-file.ensures.noted t (inv.same ∙ e);
    }

pub returns-in_err-add_file-clause-partly : goal.returns-in_err-add_file-clause-partly
returns-in_err-add_file-clause-partly g c = λ t e.
    let by = counting_of c.args.counting.now in
    let some = first_done by t _ _ _ _ (c.loop-file.invariant.told t e) in
    always_err c.from_residual-in_err-add_file.result (subst
    (λ (x : List (ℕ × LanguageValue)). AddsFirst by t (to_come t c.args.walk.now)
    (languages_of c.args.languages.now) x)
    (sym c.in_err-add_file.ensures.stays) some)

pub returns-in_err-add_file-clause-overflow : goal.returns-in_err-add_file-clause-overflow
returns-in_err-add_file-clause-overflow g c = λ q t e.
    let inv = c.loop-file.invariant in let here = inv.same ∙ e in
    let given = subst (λ (o : Option KeptFile). Advances (to_come t c.loop-file.walk) (to_come t c.next.new.self) o) c.in-Some.is (c.in_ok-file.ensures.told t here) in
    let same : c.in_err-add_file.field-0.0 ≡ Overflow = search rules in
    one_over (counting_of c.args.counting.now) t _ _ _ c.in-Some.file _ _ (inv.told t e) given (c.in_err-add_file.ensures.overflow (ap (λ x. Err x) same) t (c.next.ensures.folders.same ∙ here))

pub returns-clause-told : goal.returns-clause-told
returns-clause-told g c = λ t e.
    let inv = c.loop-file.invariant in let here = inv.same ∙ e in
    let none = subst (λ (o : Option KeptFile). Advances (to_come t c.loop-file.walk) (to_come t c.next.new.self) o) c.in_default.is (c.in_ok-file.ensures.told t here) in
    all_done (counting_of c.args.counting.now) t _ _ _ _ (inv.told t e) none

pub returns-clause-unread : goal.returns-clause-unread
returns-clause-unread g c = λ t e.
    let by = counting_of c.args.counting.now in
    let inv = c.loop-file.invariant in let here = inv.same ∙ e in
    let none = subst (λ (o : Option KeptFile). Advances (to_come t c.loop-file.walk) (to_come t c.next.new.self) o) c.in_default.is (c.in_ok-file.ensures.told t here) in
    sym (append-nil c.loop-file.unread.items) ∙ ap (λ (ks : List KeptFile). c.loop-file.unread.items ++ unread_of by t ks) (sym none) ∙ inv.unread t e

pub returns-clause-notes : goal.returns-clause-notes
returns-clause-notes g c = grows_on _ _ _ c.loop-file.invariant.notes c.next.ensures.notes

pub returns-in_err-file-clause-notes : goal.returns-in_err-file-clause-notes
returns-in_err-file-clause-notes g c = grows_on _ _ _ c.loop-file.invariant.notes c.next.ensures.notes

pub returns-in_err-add_file-clause-notes : goal.returns-in_err-add_file-clause-notes
returns-in_err-add_file-clause-notes g c = grows_on _ _ _ c.loop-file.invariant.notes c.next.ensures.notes

pub returns-in_err-file-clause-folders : goal.returns-in_err-file-clause-folders
returns-in_err-file-clause-folders g c = refused c.from_residual.ensures.0 (c.next.ensures.folders.same ∙ c.loop-file.invariant.same)

pub returns-in_err-add_file-clause-folders : goal.returns-in_err-add_file-clause-folders
returns-in_err-add_file-clause-folders g c =
    refused c.from_residual-in_err-add_file.ensures.0 (c.add_file.ensures.same ∙ c.next.ensures.folders.same ∙ c.loop-file.invariant.same)

pub returns-clause-folders : goal.returns-clause-folders
returns-clause-folders g c =
    let inv = c.loop-file.invariant in record {
      same = c.next.ensures.folders.same ∙ inv.same;
      honest = stay_on g.F.Folders.memory_faults _ _ _ inv.honest c.in_ok-file.ensures.folders.honest;
    }

pub returns-clause-noted : goal.returns-clause-noted
returns-clause-noted g c = λ t e.
    let inv = c.loop-file.invariant in
    come_all _ _ _ _ (over_notes t c.next.new.self (c.in_ok-file.ensures.over (ap Ok c.in_default.is)))
    (inv.noted t e ∙ c.in_ok-file.ensures.noted t (inv.same ∙ e))
