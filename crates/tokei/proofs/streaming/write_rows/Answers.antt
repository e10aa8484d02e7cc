use Rattle.std.proofs.Common.{◌≡◌, Option, Ok, Err, refl, sym, ap, ◌∙◌, subst, rules, List, ℕ}
use Rattle.tokei_files.specs.Files.{ReadingsFit}
use Rattle.tokei_files.specs.Seen.{counting_of}
use Rattle.tokei_files.proofs.UnreadNotes.{noted_more}
use Rattle.tokei_walk.specs.declared.kept_file.KeptFile.{KeptFile}
use Rattle.tokei_walk.specs.Walks.{to_come, Advances}
use Rattle.tokei_walk.proofs.Growing.{grows_same, grows_on}
use Rattle.tokei_walk.proofs.Lasting.{stay_on, refused}
use Rattle.tokei.proofs.WrittenRows.{all_rows, no_row_yet, one_row_more}
use Rattle.tokei.specs.Streams.{file_row, rows_of}
use Rattle.tokei_io.specs.declared.error.OutputError.TheVariants.{Overflow}
use Rattle.tokei_walk.proofs.Noting.{come_all}
use Rattle.tokei_walk.proofs.Over.{over_notes}
use Rattle.std.specs.Io.KnownBytes.{Appends}
use Rattle.std.proofs.lemmas.Result.{err_from_is_err_and}
use Rattle.tokei.specs.Shapes.{WritesSomeRows}
use Rattle.tokei.proofs.Shaping.{no_row, rows_on}
use Rattle.tokei.proofs.streaming.write_rows.Goals as goal

pub loop-file-init : goal.loop-file-init
loop-file-init g c = record {
  same = refl;
  told = λ t e. no_row_yet (file_row c.args.by.now.rows.now.form c.args.by.now.rows.now.table.now (counting_of c.args.by.now.counting.now) t) (to_come t c.args.walk.now) _;
  fits = λ t e f. f;
  notes = grows_same _ _ refl;
  unread = λ t e. refl;
  noted = λ t e. refl;
  rows = no_row _ _ _;
  no_fault = λ h. refl;
  honest = λ h. refl;
}

pub loop-file-preserved : goal.loop-file-preserved
loop-file-preserved g c =
    let inv = c.loop-file.invariant in
    let by = counting_of c.args.by.now.counting.now in record {
      same = c.write_file.ensures.folders.same ∙ c.next.ensures.folders.same ∙ inv.same;
      told = λ t e.
          let here = inv.same ∙ e in
          let given = subst (λ (o : Option KeptFile). Advances (to_come t c.loop-file.walk) (to_come t c.next.new.self) o) c.in-Some.is (c.in_ok-file.ensures.told t here) in
          one_row_more (file_row c.args.by.now.rows.now.form c.args.by.now.rows.now.table.now by t) _ _ _ c.in-Some.file _ _ _ (inv.told t e) given
          (c.in_ok-write_file.ensures.told t (c.next.ensures.folders.same ∙ here));
      fits = λ t e f.
          let here = inv.same ∙ e in
          let given = subst (λ (o : Option KeptFile). Advances (to_come t c.loop-file.walk) (to_come t c.next.new.self) o) c.in-Some.is (c.in_ok-file.ensures.told t here) in
          (subst (λ (ks : List KeptFile). ReadingsFit by t ks) given (inv.fits t e f)).1;
      notes = grows_on _ _ _ inv.notes c.next.ensures.notes;
      unread = λ t e.
          let here = inv.same ∙ e in
          let given = subst (λ (o : Option KeptFile). Advances (to_come t c.loop-file.walk) (to_come t c.next.new.self) o) c.in-Some.is (c.in_ok-file.ensures.told t here) in
          noted_more by t _ _ c.in-Some.file _ _ _ (inv.unread t e) given (c.in_ok-write_file.ensures.unread t (c.next.ensures.folders.same ∙ here));
      noted = λ t e. inv.noted t e ∙ c.in_ok-file.ensures.noted t (inv.same ∙ e);
      rows = rows_on _ _ _ _ _ inv.rows c.in_ok-write_file.ensures.rows;
      no_fault = search rules;
      honest = stay_on g.F.Folders.memory_faults _ _ _ inv.honest (stay_on g.F.Folders.memory_faults _ _ _ c.in_ok-file.ensures.folders.honest c.in_ok-write_file.ensures.folders.honest);
    }

pub returns-in_err-write_file-clause-overflow : goal.returns-in_err-write_file-clause-overflow
returns-in_err-write_file-clause-overflow g c = λ q t e f.
    let inv = c.loop-file.invariant in let here = inv.same ∙ e in
    let given = subst (λ (o : Option KeptFile). Advances (to_come t c.loop-file.walk) (to_come t c.next.new.self) o) c.in-Some.is (c.in_ok-file.ensures.told t here) in
    let same : c.in_err-write_file.field-0.0 ≡ Overflow = search rules in
    c.in_err-write_file.ensures.overflow (ap (λ x. Err x) same) t (c.next.ensures.folders.same ∙ here)
    (subst (λ (ks : List KeptFile). ReadingsFit (counting_of c.args.by.now.counting.now) t ks) given (inv.fits t e f)).0

pub returns-clause-notes : goal.returns-clause-notes
returns-clause-notes g c = grows_on _ _ _ c.loop-file.invariant.notes c.next.ensures.notes

pub returns-in_err-file-clause-folders : goal.returns-in_err-file-clause-folders
returns-in_err-file-clause-folders g c = refused c.from_residual.ensures.0 (c.next.ensures.folders.same ∙ c.loop-file.invariant.same)

pub returns-in_err-write_file-clause-folders : goal.returns-in_err-write_file-clause-folders
returns-in_err-write_file-clause-folders g c =
    refused c.from_residual-in_err-write_file.ensures.0 (c.write_file.ensures.folders.same ∙ c.next.ensures.folders.same ∙ c.loop-file.invariant.same)

pub returns-clause-folders : goal.returns-clause-folders
returns-clause-folders g c =
    let inv = c.loop-file.invariant in record {
      same = c.next.ensures.folders.same ∙ inv.same;
      honest = stay_on g.F.Folders.memory_faults _ _ _ inv.honest c.in_ok-file.ensures.folders.honest;
    }

pub returns-clause-noted : goal.returns-clause-noted
returns-clause-noted g c = λ t e.
    let inv = c.loop-file.invariant in
    come_all _ _ _ _ (over_notes t c.next.new.self (c.in_ok-file.ensures.over (ap Ok c.in_default.is)))
    (inv.noted t e ∙ c.in_ok-file.ensures.noted t (inv.same ∙ e))

pub returns-clause-told : goal.returns-clause-told
returns-clause-told g c = λ t e.
    let by = c.args.by.now in
    let inv = c.loop-file.invariant in let here = inv.same ∙ e in
    let none = subst (λ (o : Option KeptFile). Advances (to_come t c.loop-file.walk) (to_come t c.next.new.self) o) c.in_default.is (c.in_ok-file.ensures.told t here) in
    all_rows (file_row by.rows.now.form by.rows.now.table.now (counting_of by.counting.now) t) _ _ _ _ (inv.told t e) none

pub returns-in_err-file-clause-partly : goal.returns-in_err-file-clause-partly
returns-in_err-file-clause-partly g c = λ t e.
    let p = err_from_is_err_and c.from_residual.result c.from_residual.ensures.1 in
    let h = c.loop-file.invariant.told t e in
    rw (p.1, p.2) (λ q. record { first = h.first; others = _; are = h.are; appended = h.appended })

pub returns-in_err-write_file-clause-partly : goal.returns-in_err-write_file-clause-partly
returns-in_err-write_file-clause-partly g c = λ t e.
    let p = err_from_is_err_and c.from_residual-in_err-write_file.result c.from_residual-in_err-write_file.ensures.1 in
    let h = c.loop-file.invariant.told t e in
    rw (p.1, p.2) (λ q. record {
      first = h.first;
      others = _;
      are = h.are;
      appended =
          subst
          (λ (w : Option (List ℕ)). Appends (g.W.Sink.contents c.args.writer.now) w
          (rows_of c.args.by.now.rows.now.form c.args.by.now.rows.now.table.now (counting_of c.args.by.now.counting.now) t h.first))
          (sym (c.in_err-write_file.ensures.untouched q)) h.appended;
    })

pub returns-in_err-file-clause-rows : goal.returns-in_err-file-clause-rows
returns-in_err-file-clause-rows g c = λ q. c.loop-file.invariant.rows

pub returns-in_err-write_file-clause-rows : goal.returns-in_err-write_file-clause-rows
returns-in_err-write_file-clause-rows g c = λ q.
    let p = err_from_is_err_and c.from_residual-in_err-write_file.result c.from_residual-in_err-write_file.ensures.1 in
    let by = c.args.by.now in
    subst (λ (w : Option (List ℕ)). WritesSomeRows by.rows.now.form by.rows.now.table.now (g.W.Sink.contents c.args.writer.now) w)
    (sym (c.in_err-write_file.ensures.untouched (λ is. q (p.1 ∙ ap Err (p.2 ∙ is))))) c.loop-file.invariant.rows

pub returns-clause-rows : goal.returns-clause-rows
returns-clause-rows g c = λ q. c.loop-file.invariant.rows
