use Rattle.std.proofs.Common.{drop, map}
use Rattle.tokei_json_laws.specs.InOrder.{ReportsAreInOrder}
use Rattle.tokei_languages.specs.Seen.{report_of}
use Rattle.tokei_json_laws.proofs.laws.reports_are_in_order.Given as goal

abbrev pub invariant-loop-report : goal.invariant-loop-report
invariant-loop-report l = ReportsAreInOrder (map report_of (drop l.report-index l.report-items)) → ReportsAreInOrder (map report_of l.report-items)
