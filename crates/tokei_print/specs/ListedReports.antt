-- Lists of references to reports as the definitions see them.
use Rattle.std.specs.Prelude.{List, map}
use Rattle.std.specs.Borrow.{Bor}
use Rattle.tokei_stats.specs.Reports.{ReportValue, report_of}
use Rattle.tokei_stats.specs.declared.report.Report.{Report}

-- the reports that the references stand for, in their order
abbrev pub reports_in : List (Bor Report) → List ReportValue
reports_in rs = map (λ r. report_of r.now) rs
