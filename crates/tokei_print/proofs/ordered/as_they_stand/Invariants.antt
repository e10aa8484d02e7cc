use Rattle.std.proofs.Common.{◌≡◌, ◌++◌, map, drop}
use Rattle.tokei_stats.specs.Reports.{report_of}
use Rattle.tokei_print.specs.ListedReports.{reports_in}
use Rattle.tokei_print.proofs.ordered.as_they_stand.Given as goal

abbrev pub invariant-loop-report : goal.invariant-loop-report
invariant-loop-report l = reports_in l.ordered.items ++ map report_of (drop l.report-index l.reports) ≡ map report_of l.reports
