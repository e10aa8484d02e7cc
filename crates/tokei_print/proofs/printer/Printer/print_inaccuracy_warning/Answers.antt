use Rattle.std.proofs.Common.{◌≡◌, OnOk, refl, subst, ◌∙◌}
use Rattle.std.specs.Fmt.{char_count}
use Rattle.std.specs.Io.KnownBytes.{Appends}
use Rattle.tokei_print.specs.Heading.{warning}
use Rattle.tokei_print.specs.declared.printer.TheConstants.{WARNING}
use Rattle.tokei_print.proofs.printer.Printer.print_inaccuracy_warning.Goals as goal

warning_text : WARNING.now ≡ warning
unfolding char_count
warning_text = refl

pub returns-clause-bytes : goal.returns-clause-bytes
returns-clause-bytes g c =
    subst (λ t. OnOk c.put.result (Appends (g.W.Sink.contents c.args.self.now.writer) (g.W.Sink.contents c.put.new.writer) t))
    (c.as_bytes.ensures.value ∙ warning_text) c.put.ensures.bytes
