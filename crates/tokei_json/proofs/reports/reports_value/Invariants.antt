use Rattle.std.proofs.Common.{◌≡◌, ◌++◌, drop, map}
use Rattle.serde_json.specs.View.{view}
use Rattle.tokei_json.specs.ReportData.{report_data}
use Rattle.tokei_stats.specs.Reports.{report_of}
use Rattle.tokei_json.proofs.reports.reports_value.Given as goal

abbrev pub invariant-loop-report : goal.invariant-loop-report
invariant-loop-report l =
    map (report_data l.table) (map report_of l.report-items)
    ≡ map view l.items.items ++ map (report_data l.table) (map report_of (drop l.report-index l.report-items))
