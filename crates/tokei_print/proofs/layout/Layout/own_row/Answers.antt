use Rattle.std.proofs.Common.{◌≡◌, ◌-◌, ◌++◌, codes, IfOk, string_bytes, arith, sym, ap, ap₂, subst, ◌∙◌}
use Rattle.tokei_stats.specs.ReportRow.{report_row}
use Rattle.tokei_stats.specs.Seen.{stats_step}
use Rattle.tokei_stats.specs.Statistics.{Statistics, own}
use Rattle.tokei_stats.specs.declared.stats.CodeStats.{fold_out-CodeStats}
use Rattle.tokei_print.specs.Rules.{newline}
use Rattle.tokei_print.specs.Subtotal.{path_places}
use Rattle.tokei_print.proofs.layout.Layout.own_row.Goals as goal

pub returns : goal.returns
returns c =
    let n = c.args.self.now.columns in
    let places : n - 59 ≡ path_places n - 3 = omega arith in
    let counts = sym (ap own (fold_out-CodeStats Statistics stats_step c.args.stats.now)) in
    subst (λ b. IfOk c.format.result (λ s. string_bytes s ≡ b))
    (ap (λ r. codes " |-" ++ (r ++ newline)) (c.new-row.ensures ∙ ap₂ (λ k n. report_row k c.args.name.now n) places counts))
    c.format.ensures.ok
