use Rattle.std.proofs.Common.{◌+◌, refl, ap, ◌∙◌, map, drop}
use Rattle.tokei_stats.specs.Seen.{sums_of}
use Rattle.tokei_stats.specs.Statistics.{plus}
use Rattle.tokei_languages.specs.Renewing.{own_sum}
use Rattle.tokei_languages.specs.Seen.{report_of}
use Rattle.tokei_languages.proofs.Refusals.{on_err}
use Rattle.tokei_languages.proofs.Summing.{added, past, next, done}
use Rattle.tokei_languages.proofs.sums.own_sums.Goals as goal

pub loop-report-preserved : goal.loop-report-preserved
loop-report-preserved c =
    let sums = sums_of c.loop-report.sums in
    added sums _ _ (own_sum (map report_of (drop (c.loop-report.report-index + 1) c.args.reports.now))) _
    (c.in_ok-sums.ensures.ok ∙ ap (plus sums) c.own_counts.ensures)
    (next own_sum sums c.args.reports.now c.loop-report.report-index _ c.loop-report.invariant c.report-item.result c.loop-report-test.true c.report-item.is)

pub returns-clause-sum : goal.returns-clause-sum
returns-clause-sum c =
    done own_sum (sums_of c.loop-report.sums) c.args.reports.now c.loop-report.report-index _ c.loop-report.invariant refl c.loop-report-test.false

pub returns-in_err-sums-clause-past : goal.returns-in_err-sums-clause-past
returns-in_err-sums-clause-past c =
    on_err c.from_residual.result (past (sums_of c.loop-report.sums) _ _ _ _ c.own_counts.ensures c.in_err-sums.ensures.past
    (next own_sum (sums_of c.loop-report.sums) c.args.reports.now c.loop-report.report-index _ c.loop-report.invariant c.report-item.result c.loop-report-test.true c.report-item.is))
