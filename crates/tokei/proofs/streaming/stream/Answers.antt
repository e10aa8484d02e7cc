use Rattle.std.proofs.Common.{◌≡◌, ◌≢◌, false, unwrap_or, option_map, IfErr, IfOk, OnOk, ◌∙◌, subst}
use Rattle.std.specs.Io.KnownBytes.{Appends}
use Rattle.tokei_config.specs.Seen.{settings_of}
use Rattle.tokei_count.specs.Seen.{docs_of}
use Rattle.tokei_files.specs.Configs.{counting_by}
use Rattle.tokei_files.specs.Files.{Counting, ReadingsFit}
use Rattle.tokei_files.specs.Unread.{NotesAre, unread_of}
use Rattle.tokei.specs.Counted.{files_of}
use Rattle.tokei.specs.JobNotes.{walk_notes}
use Rattle.tokei.specs.Streams.{stream_text}
use Rattle.tokei_walk.specs.Notes.{notes_of_excludes}
use Rattle.tokei_walk.specs.Walks.{texts_of}
use Rattle.tokei_io.specs.declared.error.OutputError.TheVariants.{Write}
use Rattle.tokei.specs.JobStreams.{BeginsStream}
use Rattle.tokei.proofs.streaming.stream.Goals as goal

pub returns-clause-told : goal.returns-clause-told
returns-clause-told g c = λ t e.
    let job = c.args.job.now in
    let code : Counting = record { rows = c.in_ok-counter.counter; docs = docs_of c.counting.result; types = option_map (λ types. types.now) c.types.result } in
    let same : code ≡ counting_by c.args.rows.now.table.now (settings_of job.config) =
    λ i. record { rows = (c.in_ok-counter.ensures ∙ c.in_ok-extended.ensures) i; docs = unwrap_or (c.counting.ensures i) false; types = c.types.ensures i } in
    subst (λ (b : Counting). OnOk c.write_stream.result (Appends (g.W.Sink.contents c.args.writer.now) (g.W.Sink.contents c.write_stream.new.writer)
    (stream_text c.args.rows.now.form c.args.rows.now.table.now b t (files_of job t)))) same (c.write_stream.ensures.told t e)

pub returns-clause-overflow : goal.returns-clause-overflow
returns-clause-overflow g c = λ q t e fits.
    let job = c.args.job.now in
    let code : Counting = record { rows = c.in_ok-counter.counter; docs = docs_of c.counting.result; types = option_map (λ types. types.now) c.types.result } in
    let same : code ≡ counting_by c.args.rows.now.table.now (settings_of job.config) =
    λ i. record { rows = (c.in_ok-counter.ensures ∙ c.in_ok-extended.ensures) i; docs = unwrap_or (c.counting.ensures i) false; types = c.types.ensures i } in
    subst (λ (b : Counting). ReadingsFit b t (files_of job t) → ⊥) same (c.write_stream.ensures.overflow q t e) fits.readings

pub returns-clause-noted : goal.returns-clause-noted
returns-clause-noted g c = λ t e.
    let job = c.args.job.now in
    let code : Counting = record { rows = c.in_ok-counter.counter; docs = docs_of c.counting.result; types = option_map (λ types. types.now) c.types.result } in
    let same : code ≡ counting_by c.args.rows.now.table.now (settings_of job.config) =
    λ i. record { rows = (c.in_ok-counter.ensures ∙ c.in_ok-extended.ensures) i; docs = unwrap_or (c.counting.ensures i) false; types = c.types.ensures i } in
    subst (λ (b : Counting). IfOk c.write_stream.result (λ n. NotesAre (notes_of_excludes (texts_of job.ignored.items)) (walk_notes job t) (unread_of b t (files_of job t)) n.items)) same
    (c.write_stream.ensures.noted t e)

pub returns-clause-partly : goal.returns-clause-partly
returns-clause-partly g c = λ t e.
    let job = c.args.job.now in let rows = c.args.rows.now in
    let code : Counting = record { rows = c.in_ok-counter.counter; docs = docs_of c.counting.result; types = option_map (λ types. types.now) c.types.result } in
    let same : code ≡ counting_by rows.table.now (settings_of job.config) =
    λ i. record { rows = (c.in_ok-counter.ensures ∙ c.in_ok-extended.ensures) i; docs = unwrap_or (c.counting.ensures i) false; types = c.types.ensures i } in
    subst (λ (b : Counting). IfErr c.write_stream.result (λ x. x ≢ Write → BeginsStream rows.form rows.table.now b t (files_of job t)
    (g.W.Sink.contents c.args.writer.now) (g.W.Sink.contents c.write_stream.new.writer))) same (c.write_stream.ensures.partly t e)
