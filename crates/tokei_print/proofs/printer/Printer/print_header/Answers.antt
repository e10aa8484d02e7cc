use Rattle.std.proofs.Common.{OnOk, subst, ◌∙◌}
use Rattle.std.specs.Io.KnownBytes.{Appends}
use Rattle.tokei_print.proofs.printer.Printer.print_header.Goals as goal

pub returns-clause-bytes : goal.returns-clause-bytes
returns-clause-bytes g c =
    subst (λ t. OnOk c.put.result (Appends (g.W.Sink.contents c.args.self.now.writer) (g.W.Sink.contents c.put.new.writer) t))
    (c.as_bytes.ensures.value ∙ c.in_ok-text.ensures) c.put.ensures.bytes

pub returns-clause-faults : goal.returns-clause-faults
returns-clause-faults g c = c.put.ensures.faults

pub returns-clause-overflow : goal.returns-clause-overflow
returns-clause-overflow g c = c.put.ensures.overflow
