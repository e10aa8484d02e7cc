use Rattle.std.proofs.Common.{◌+◌, refl, ap, ◌∙◌, map, drop}
use Rattle.tokei_stats.specs.Reports.{report_of, reports_summary}
use Rattle.tokei_stats.specs.Seen.{sums_of}
use Rattle.tokei_stats.specs.Statistics.{plus}
use Rattle.tokei_languages.proofs.Refusals.{on_err}
use Rattle.tokei_languages.proofs.Summing.{added, past, past_next, next, done}
use Rattle.tokei_print.proofs.inside.summaries.Goals as goal

pub loop-report-preserved : goal.loop-report-preserved
loop-report-preserved c =
    let so_far = sums_of c.loop-report.sums in
    added so_far _ _ (reports_summary (map report_of (drop (c.loop-report.report-index + 1) c.args.reports.now))) _
    (c.in_ok-sums.ensures.ok ∙ ap (plus so_far) c.in_ok-summary_counts.ensures.sum)
    (next reports_summary so_far c.args.reports.now c.loop-report.report-index _ c.loop-report.invariant c.report-item.result c.loop-report-test.true c.report-item.is)

pub returns-clause-sum : goal.returns-clause-sum
returns-clause-sum c =
    done reports_summary (sums_of c.loop-report.sums) c.args.reports.now c.loop-report.report-index _ c.loop-report.invariant refl c.loop-report-test.false

pub returns-in_err-sums-clause-past : goal.returns-in_err-sums-clause-past
returns-in_err-sums-clause-past c =
    on_err c.from_residual-in_err-sums.result (past (sums_of c.loop-report.sums) _ _ _ _ c.in_ok-summary_counts.ensures.sum c.in_err-sums.ensures.past
    (next reports_summary (sums_of c.loop-report.sums) c.args.reports.now c.loop-report.report-index _ c.loop-report.invariant c.report-item.result c.loop-report-test.true c.report-item.is))

pub returns-in_err-summary_counts-clause-past : goal.returns-in_err-summary_counts-clause-past
returns-in_err-summary_counts-clause-past c =
    on_err c.from_residual.result (past_next (sums_of c.loop-report.sums) _ _ _ c.in_err-summary_counts.ensures.past
    (next reports_summary (sums_of c.loop-report.sums) c.args.reports.now c.loop-report.report-index _ c.loop-report.invariant c.report-item.result c.loop-report-test.true c.report-item.is))
