use Rattle.std.proofs.Common.{drop, map}
use Rattle.serde_json.specs.View.{items_of}
use Rattle.tokei_json.specs.ReportData.{report_data}
use Rattle.tokei_json.proofs.Writing.{LacksItems}
use Rattle.tokei_stats.specs.Reports.{report_of}
use Rattle.tokei_json.proofs.tokens.write_reports.Given as goal

abbrev pub invariant-loop-report : goal.invariant-loop-report
invariant-loop-report l =
    LacksItems (items_of (map (report_data l.table) (map report_of l.reports)))
    (items_of (map (report_data l.table) (map report_of (drop l.report-index l.reports)))) l.initial.out l.out
