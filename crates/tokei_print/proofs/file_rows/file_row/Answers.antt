use Rattle.std.proofs.Common.{◌≡◌, ◌++◌, IfOk, string_bytes, sym, ap, ap₂, subst, ◌∙◌}
use Rattle.tokei_stats.specs.ReportRow.{report_row}
use Rattle.tokei_stats.specs.Seen.{stats_step}
use Rattle.tokei_stats.specs.Shown.{shown}
use Rattle.tokei_stats.specs.Statistics.{Statistics, own}
use Rattle.tokei_stats.specs.declared.stats.CodeStats.{fold_out-CodeStats}
use Rattle.tokei_print.specs.Rules.{newline}
use Rattle.tokei_print.specs.Subtotal.{path_places}
use Rattle.tokei_print.proofs.file_rows.file_row.Goals as goal

pub returns : goal.returns
returns c =
    let report = c.args.report.now in
    let name = c.deref-2.ensures ∙ c.in_ok-name.ensures ∙ ap shown c.deref.ensures in
    let counts = sym (ap own (fold_out-CodeStats Statistics stats_step report.stats)) in
    subst (λ b. IfOk c.format.result (λ s. string_bytes s ≡ b))
    (ap (λ r. r ++ newline) (c.new-row.ensures ∙ ap₂ (λ t n. report_row (path_places c.args.layout.now.columns) t n) name counts))
    c.format.ensures.ok
