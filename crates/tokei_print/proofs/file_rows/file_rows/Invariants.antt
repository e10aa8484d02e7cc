use Rattle.std.proofs.Common.{◌≡◌, ◌++◌, drop, filter, string_bytes}
use Rattle.tokei_print.specs.FileRows.{file_rows, has_row_alone}
use Rattle.tokei_print.specs.ListedReports.{reports_in}
use Rattle.tokei_print.proofs.file_rows.file_rows.Given as goal

abbrev pub invariant-loop-report : goal.invariant-loop-report
invariant-loop-report l =
    string_bytes l.rows ++ file_rows l.layout (filter (has_row_alone l.compact) (reports_in (drop l.report-index l.reports)))
    ≡ file_rows l.layout (filter (has_row_alone l.compact) (reports_in l.reports))
