use Rattle.std.proofs.Common.{◌≡◌, map, take}
use Rattle.tokei_languages.specs.Seen.{report_of, reports_of}
use Rattle.tokei_languages.proofs.copies.copied_reports.Given as goal

abbrev pub invariant-loop-report : goal.invariant-loop-report
invariant-loop-report l = reports_of l.copies ≡ map report_of (take l.report-index l.reports)
