use Rattle.std.proofs.Common.{◌≡◌, ◌+◌}
use Rattle.tokei_languages.specs.Seen.{entries_of, languages_of}
use Rattle.tokei_languages.specs.Summaries.{reports_by_language}
use Rattle.tokei_print.specs.Total.{report_count}
use Rattle.tokei_print.proofs.total.count_reports.Given as goal

abbrev pub invariant-loop-language : goal.invariant-loop-language
invariant-loop-language l =
    l.files + report_count (reports_by_language (entries_of l.language-iterator))
    ≡ report_count (reports_by_language (languages_of l.languages))
