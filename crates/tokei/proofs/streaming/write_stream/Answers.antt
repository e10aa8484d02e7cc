use Rattle.std.proofs.Common.{◌≡◌, ◌++◌, Err, List, ap, subst, rules, inl, inr, ◌∙◌}
use Rattle.std.proofs.KnownBytes.{Appends-trans}
use Rattle.std.specs.Io.KnownBytes.{Appends}
use Rattle.tokei_folders.proofs.Contents.{sound_of}
use Rattle.tokei_files.specs.Files.{ReadingsFit}
use Rattle.tokei_files.specs.Seen.{counting_of}
use Rattle.tokei_files.specs.Unread.{unread_of}
use Rattle.tokei_files.proofs.UnreadNotes.{notes_are}
use Rattle.tokei_walk.specs.declared.kept_file.Note.{Note}
use Rattle.tokei_walk.specs.Walks.{to_come}
use Rattle.tokei_walk.proofs.Noting.{says_what}
use Rattle.tokei_walk.specs.declared.kept_file.KeptFile.{KeptFile}
use Rattle.tokei_io.specs.declared.error.OutputError.TheVariants.{Overflow}
use Rattle.tokei.proofs.StreamNotes.{noted_behind}
use Rattle.tokei.specs.Rows.{heading_of}
use Rattle.tokei.specs.Streams.{rows_of, stream_text}
use Rattle.std.proofs.lemmas.Result.{err_from_is_err_and}
use Rattle.tokei.specs.JobStreams.{WritesFirst}
use Rattle.tokei.proofs.BegunStreams.{begun_by, heading_alone, rows_behind, whole_stream}
use Rattle.tokei.proofs.Shaping.{no_row, stream_of}
use Rattle.tokei.proofs.streaming.write_stream.Goals as goal

pub returns-clause-told : goal.returns-clause-told
returns-clause-told g c = λ t e.
    let rows = c.args.rows.now in
    let by = counting_of c.args.counting.now in
    let sound = sound_of _ t (g.met.F.Folders.sound c.args.folders.now) e in
    let heading = c.in_ok-write_heading.ensures.bytes in
    subst (λ (files : List KeptFile). Appends (g.W.Sink.contents c.args.writer.now)
    (g.W.Sink.contents c.write_rows-written.new.writer) (stream_text rows.form rows.table.now by t files))
    (c.in_ok-walk.ensures.comes t sound)
    (Appends-trans _ _ _ (heading_of rows.form) (rows_of rows.form rows.table.now by t (to_come t c.in_ok-walk.walk)) heading
    (c.in_ok-written.ensures.told t e))

pub returns-in_err-written-clause-overflow : goal.returns-in_err-written-clause-overflow
returns-in_err-written-clause-overflow g c = λ q t e.
    let same : c.in_err-written.field-0.0 ≡ Overflow = search rules in
    let sound = sound_of _ t (g.met.F.Folders.sound c.args.folders.now) e in
    subst (λ (files : List KeptFile). ReadingsFit (counting_of c.args.counting.now) t files → ⊥)
    (c.in_ok-walk.ensures.comes t sound) (c.in_err-written.ensures.overflow (ap (λ x. Err x) same) t e)

pub returns-clause-noted : goal.returns-clause-noted
returns-clause-noted g c = λ t e.
    let by = counting_of c.args.counting.now in
    let sound = sound_of _ t (g.met.F.Folders.sound c.args.folders.now) e in
    let comes = c.in_ok-walk.ensures.comes t sound in
    notes_are _ _ _ _ _ _ _ c.in_ok-walk.ensures.notes c.in_ok-written.ensures.notes
    (says_what _ _ _ _ (c.in_ok-walk.ensures.noted t) (c.in_ok-written.ensures.noted t e)) c.into_notes-notes.ensures
    (c.in_ok-append.ensures.items ∙ ap (λ (q : List Note). c.into_notes-notes.result.items ++ q)
    (c.in_ok-written.ensures.unread t e ∙ ap (λ (q : List Note). q ++ unread_of by t (to_come t c.in_ok-walk.walk)) c.new-unread.ensures.items ∙ ap (unread_of by t) comes))

pub returns-clause-notes : goal.returns-clause-notes
returns-clause-notes g c =
    noted_behind _ _ _ _ _ _ c.in_ok-walk.ensures.notes c.in_ok-written.ensures.notes c.into_notes-notes.ensures c.in_ok-append.ensures.items

pub returns-in_err-write_heading-clause-partly : goal.returns-in_err-write_heading-clause-partly
returns-in_err-write_heading-clause-partly g c = λ t e.
    let p = err_from_is_err_and c.from_residual.result c.from_residual.ensures.1 in
    rw (p.1, p.2) (λ q. inl (c.in_err-write_heading.ensures.untouched q))

pub returns-in_err-walk-clause-partly : goal.returns-in_err-walk-clause-partly
returns-in_err-walk-clause-partly g c = λ t e.
    let rows = c.args.rows.now in
    begun_by c.from_residual-in_err-walk.result
    (heading_alone rows.form rows.table.now (counting_of c.args.counting.now) t _ _ _ c.in_ok-write_heading.ensures.bytes)

pub returns-in_err-written-clause-partly : goal.returns-in_err-written-clause-partly
returns-in_err-written-clause-partly g c = λ t e.
    let p = err_from_is_err_and c.from_residual-in_err-written.result c.from_residual-in_err-written.ensures.1 in
    let rows = c.args.rows.now in
    let by = counting_of c.args.counting.now in
    let sound = sound_of _ t (g.met.F.Folders.sound c.args.folders.now) e in
    rw (p.1, p.2) (λ q.
    inr (rows_behind rows.form rows.table.now by t _ _ _ _ c.in_ok-write_heading.ensures.bytes
    (subst (λ (files : List KeptFile). WritesFirst (rows_of rows.form rows.table.now by t) files (g.W.Sink.contents c.write_heading.new.writer) (g.W.Sink.contents c.write_rows-written.new.writer))
    (c.in_ok-walk.ensures.comes t sound) (c.in_err-written.ensures.partly t e q))))

pub returns-in_err-append-clause-partly : goal.returns-in_err-append-clause-partly
returns-in_err-append-clause-partly g c = λ t e.
    let rows = c.args.rows.now in
    let by = counting_of c.args.counting.now in
    let sound = sound_of _ t (g.met.F.Folders.sound c.args.folders.now) e in
    begun_by c.from_residual-in_err-append.result
    (whole_stream rows.form rows.table.now by t _ _ _ _ c.in_ok-write_heading.ensures.bytes
    (subst (λ (files : List KeptFile). Appends (g.W.Sink.contents c.write_heading.new.writer) (g.W.Sink.contents c.write_rows-written.new.writer) (rows_of rows.form rows.table.now by t files))
    (c.in_ok-walk.ensures.comes t sound) (c.in_ok-written.ensures.told t e)))

pub returns-clause-shaped : goal.returns-clause-shaped
returns-clause-shaped g c =
    let rows = c.args.rows.now in
    stream_of rows.form rows.table.now _ _ _ c.in_ok-write_heading.ensures.bytes (c.in_ok-written.ensures.rows (λ q. cc))

pub returns-in_err-write_heading-clause-begun : goal.returns-in_err-write_heading-clause-begun
returns-in_err-write_heading-clause-begun g c =
    let p = err_from_is_err_and c.from_residual.result c.from_residual.ensures.1 in
    rw (p.1, p.2) (λ q. inl (c.in_err-write_heading.ensures.untouched q))

pub returns-in_err-walk-clause-begun : goal.returns-in_err-walk-clause-begun
returns-in_err-walk-clause-begun g c =
    let rows = c.args.rows.now in
    begun_by c.from_residual-in_err-walk.result (inr (stream_of rows.form rows.table.now _ _ _ c.in_ok-write_heading.ensures.bytes (no_row rows.form rows.table.now _)))

pub returns-in_err-written-clause-begun : goal.returns-in_err-written-clause-begun
returns-in_err-written-clause-begun g c =
    let p = err_from_is_err_and c.from_residual-in_err-written.result c.from_residual-in_err-written.ensures.1 in
    let rows = c.args.rows.now in
    rw (p.1, p.2) (λ q. inr (stream_of rows.form rows.table.now _ _ _ c.in_ok-write_heading.ensures.bytes (c.in_err-written.ensures.rows (λ is. q cc))))

pub returns-in_err-append-clause-begun : goal.returns-in_err-append-clause-begun
returns-in_err-append-clause-begun g c =
    let rows = c.args.rows.now in
    begun_by c.from_residual-in_err-append.result
    (inr (stream_of rows.form rows.table.now _ _ _ c.in_ok-write_heading.ensures.bytes (c.in_ok-written.ensures.rows (λ q. cc))))
