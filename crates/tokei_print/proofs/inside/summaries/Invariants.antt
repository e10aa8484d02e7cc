use Rattle.std.proofs.Common.{◌≡◌, map, drop}
use Rattle.tokei_stats.specs.Seen.{sums_of}
use Rattle.tokei_stats.specs.Statistics.{plus}
use Rattle.tokei_stats.specs.Reports.{report_of, reports_summary}
use Rattle.tokei_print.proofs.inside.summaries.Given as goal

abbrev pub invariant-loop-report : goal.invariant-loop-report
invariant-loop-report l =
    plus (sums_of l.sums) (reports_summary (map report_of (drop l.report-index l.reports)))
    ≡ reports_summary (map report_of l.reports)
