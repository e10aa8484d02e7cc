use Rattle.std.proofs.Common.{◌++◌, Err, ℕ, List, OnOk, Option, ap, sym, ◌∙◌, subst}
use Rattle.std.proofs.KnownBytes.{Appends-nil}
use Rattle.std.proofs.lemmas.Result.{on_ok_weaker}
use Rattle.std.specs.Io.KnownBytes.{Appends}
use Rattle.std.specs.Prelude.{string_bytes}
use Rattle.tokei_stats.specs.Reports.{ReportValue}
use Rattle.tokei_stats.specs.Seen.{stats_of}
use Rattle.tokei_files.specs.Contents.{content_at}
use Rattle.tokei_files.specs.ContentStatistics.{stats_at}
use Rattle.tokei_files.specs.Seen.{counting_of}
use Rattle.tokei_files.proofs.UnreadNotes.{uncounted_unnoted, read_unnoted, refused_noted, none_more}
use Rattle.tokei_walk.specs.declared.kept_file.Note.{Note}
use Rattle.tokei.proofs.FileReports.{in_no_language, was_read, was_refused}
use Rattle.tokei.specs.Streams.{row_of}
use Rattle.tokei.proofs.Shaping.{no_row, one_row}
use Rattle.tokei.proofs.streaming.write_file.Goals as goal

pub returns-in-None-clause-told : goal.returns-in-None-clause-told
returns-in-None-clause-told g c = λ t e.
    let by = c.args.by.now in
    subst (λ (o : Option (ℕ × ReportValue)). Appends (g.W.Sink.contents c.args.writer.now) (g.W.Sink.contents c.args.writer.now)
    (row_of by.rows.now.form by.rows.now.table.now o))
    (in_no_language (counting_of by.counting.now) t c.args.file c.in_ok-language.field-0 (c.in_ok-language.ensures.told t e) c.in-None.is)
    (Appends-nil _)

pub returns-in-Ok-clause-told : goal.returns-in-Ok-clause-told
returns-in-Ok-clause-told g c = λ t e.
    let rows = c.args.by.now.rows.now in
    let by = counting_of c.args.by.now.counting.now in
    let here = c.language.ensures.folders.same ∙ e in
    let read = c.in-Ok.ensures.told t here ∙ ap (stats_at t by.rows by.docs c.in-Some.language) c.as_str.ensures in
    let row : ReportValue = record { name = string_bytes c.into_string-name.result; stats = stats_of c.in-Ok.stats } in
    subst (λ (o : Option (ℕ × ReportValue)). OnOk c.write_row.result (Appends (g.W.Sink.contents c.args.writer.now) (g.W.Sink.contents c.write_row.new.writer)
    (row_of rows.form rows.table.now o)))
    (was_read by t c.args.file c.in_ok-language.field-0 (c.in_ok-language.ensures.told t e) c.in-Some.language (stats_of c.in-Ok.stats) row c.in-Some.is read
    (λ i. record { name = c.into_string-name.ensures i; stats = stats_of c.in-Ok.stats }))
    c.write_row.ensures.bytes

pub returns-in_ok-note_unread-in-Err-Refused-clause-told : goal.returns-in_ok-note_unread-in-Err-Refused-clause-told
returns-in_ok-note_unread-in-Err-Refused-clause-told g c = λ t e.
    let rows = c.args.by.now.rows.now in
    let by = counting_of c.args.by.now.counting.now in
    let here = c.language.ensures.folders.same ∙ e in
    let refused = c.in-Err-Refused.ensures.refused (ap (λ x. Err x) c.in-Err-Refused.field-0-is) t here in
    subst (λ (o : Option (ℕ × ReportValue)). Appends (g.W.Sink.contents c.args.writer.now) (g.W.Sink.contents c.args.writer.now)
    (row_of rows.form rows.table.now o))
    (was_refused by t c.args.file c.in_ok-language.field-0 (c.in_ok-language.ensures.told t e) c.in-Some.language c.in-Some.is (sym (ap (content_at t) c.as_str.ensures) ∙ refused))
    (Appends-nil _)

pub returns-in-None-clause-unread : goal.returns-in-None-clause-unread
returns-in-None-clause-unread g c = λ t e.
    none_more c.args.unread.now.items _ (uncounted_unnoted (counting_of c.args.by.now.counting.now) t c.args.file c.in_ok-language.field-0 (c.in_ok-language.ensures.told t e) c.in-None.is)

pub returns-in-Ok-clause-unread : goal.returns-in-Ok-clause-unread
returns-in-Ok-clause-unread g c = λ t e.
    let by = counting_of c.args.by.now.counting.now in
    let here = c.language.ensures.folders.same ∙ e in
    let read = c.in-Ok.ensures.told t here ∙ ap (stats_at t by.rows by.docs c.in-Some.language) c.as_str.ensures in
    on_ok_weaker c.write_row.result
    (λ _. none_more c.args.unread.now.items _
    (read_unnoted by t c.args.file c.in_ok-language.field-0 (c.in_ok-language.ensures.told t e) c.in-Some.language (stats_of c.in-Ok.stats) c.in-Some.is read))
    c.write_row.ensures.bytes

pub returns-in_ok-note_unread-in-Err-Refused-clause-unread : goal.returns-in_ok-note_unread-in-Err-Refused-clause-unread
returns-in_ok-note_unread-in-Err-Refused-clause-unread g c = λ t e.
    let by = counting_of c.args.by.now.counting.now in
    let here = c.language.ensures.folders.same ∙ e in
    let refused = c.in-Err-Refused.ensures.refused (ap (λ x. Err x) c.in-Err-Refused.field-0-is) t here in
    let none = sym (ap (content_at t) c.as_str.ensures) ∙ refused in
    c.in_ok-note_unread-in-Err-Refused.ensures ∙ ap (λ (q : List Note). c.args.unread.now.items ++ q)
    (sym (refused_noted by t c.args.file c.in_ok-language.field-0 (c.in_ok-language.ensures.told t e) c.in-Some.language c.in-Some.is none))

pub returns-in-None-clause-rows : goal.returns-in-None-clause-rows
returns-in-None-clause-rows g c = no_row _ _ _

pub returns-in-Ok-clause-rows : goal.returns-in-Ok-clause-rows
returns-in-Ok-clause-rows g c =
    let rows = c.args.by.now.rows.now in
    on_ok_weaker c.write_row.result
    (λ written. one_row rows.form rows.table.now (g.W.Sink.contents c.args.writer.now) (g.W.Sink.contents c.write_row.new.writer) c.in-Some.language
    (record { name = string_bytes c.into_string-name.result; stats = stats_of c.in-Ok.stats }) written)
    c.write_row.ensures.bytes

pub returns-in_ok-note_unread-in-Err-Refused-clause-rows : goal.returns-in_ok-note_unread-in-Err-Refused-clause-rows
returns-in_ok-note_unread-in-Err-Refused-clause-rows g c = no_row _ _ _
