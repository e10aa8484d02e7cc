use Rattle.std.proofs.Common.{ap, ◌∙◌}
use Rattle.tokei_print.proofs.report.printed.Goals as goal

pub print_report-requires-clause-empty : goal.print_report-requires-clause-empty
print_report-requires-clause-empty c =
    ap (λ w. w.inner.items) c.in_ok-printer.ensures.writer ∙ ap (λ v. v.items) c.new-buffer.ensures.inner
    ∙ c.new.ensures.items

pub returns-clause-text : goal.returns-clause-text
returns-clause-text c = record {
  layout = c.in_ok-printer.printer.layout;
  columns = c.in_ok-printer.ensures.columns ∙ c.columns.ensures.value;
  files = c.in_ok-printer.ensures.files;
  format = ap (λ f. f.separator) c.in_ok-printer.ensures.format ∙ c.get_format-format.ensures;
  shown = c.in_ok-print_report.ensures.text;
}
