use Rattle.std.proofs.Common.{OnOk, subst, ◌∙◌}
use Rattle.std.specs.Io.KnownBytes.{Appends}
use Rattle.tokei_print.proofs.Headings.{heading_text}
use Rattle.tokei_print.proofs.stream_rows.print_stream_heading.Goals as goal

pub returns-clause-bytes : goal.returns-clause-bytes
returns-clause-bytes g c =
    subst (λ t. OnOk c.put.result (Appends (g.W.Sink.contents c.args.writer.now) (g.W.Sink.contents c.put.new.writer) t))
    (c.as_bytes.ensures.value ∙ heading_text) c.put.ensures.bytes
