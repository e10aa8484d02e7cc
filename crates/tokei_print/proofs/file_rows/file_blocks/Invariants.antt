use Rattle.std.proofs.Common.{◌≡◌, ◌++◌, drop, filter, not, string_bytes}
use Rattle.tokei_print.specs.FileRows.{file_blocks, has_row_alone}
use Rattle.tokei_print.specs.FilesFit.{FileBlocksFit}
use Rattle.tokei_languages.specs.Names.{name_in}
use Rattle.tokei_print.specs.ListedReports.{reports_in}
use Rattle.tokei_print.proofs.file_rows.file_blocks.Given as goal

abbrev pub invariant-loop-report : goal.invariant-loop-report
invariant-loop-report l =
    (string_bytes l.rows ++ file_blocks l.layout (name_in l.language.table.now) l.language.inaccurate l.language.name.now l.is_first
    (filter (λ r. not (has_row_alone l.compact r)) (reports_in (drop l.report-index l.reports)))
    ≡ file_blocks l.layout (name_in l.language.table.now) l.language.inaccurate l.language.name.now l.first
    (filter (λ r. not (has_row_alone l.compact r)) (reports_in l.reports)))
    × (FileBlocksFit (filter (λ r. not (has_row_alone l.compact r)) (reports_in l.reports))
    → FileBlocksFit (filter (λ r. not (has_row_alone l.compact r)) (reports_in (drop l.report-index l.reports))))
