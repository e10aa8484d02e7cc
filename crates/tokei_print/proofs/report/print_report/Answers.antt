use Rattle.std.proofs.lemmas.Result.{on_ok_weaker}
use Rattle.tokei_languages.specs.Seen.{languages_of}
use Rattle.tokei_print.specs.ListedLanguages.{languages_in}
use Rattle.tokei_print.proofs.Reports.{report_of_steps}
use Rattle.tokei_print.proofs.report.print_report.Goals as goal

pub returns-clause-text : goal.returns-clause-text
returns-clause-text c =
    on_ok_weaker c.print_total.result (λ e.
    report_of_steps c.args.table.now c.args.style
    (languages_in c.args.listed.now) (languages_of c.args.languages.now)
    c.args.printer.now.layout c.warn.new.printer.layout
    c.print_header.new.self.layout c.print_results.new.self.layout c.is_some-sorted.result
    c.args.printer.now.writer.inner.items c.warn.new.printer.writer.inner.items
    c.print_header.new.self.writer.inner.items
    c.print_results.new.self.writer.inner.items c.print_total.new.self.writer.inner.items
    c.requires.empty
    c.in_ok-warn.ensures.layout c.in_ok-print_header.ensures.layout c.in_ok-print_results.ensures.layout
    c.is_some-sorted.ensures
    c.in_ok-warn.ensures.bytes c.in_ok-print_header.ensures.bytes
    c.in_ok-print_results.ensures.bytes e) c.print_total.ensures.bytes

pub returns-clause-overflow : goal.returns-clause-overflow
returns-clause-overflow c = λ t f. c.print_total.ensures.overflow t f.total
