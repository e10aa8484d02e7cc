use Rattle.std.proofs.Common.{◌≡◌, ◌++◌}
use Rattle.tokei_languages.specs.Seen.{children_of, entries_of, languages_of}
use Rattle.tokei_languages.specs.Summaries.{reports_by_language}
use Rattle.tokei_languages.proofs.languages.Languages.copied_reports.Given as goal

abbrev pub invariant-loop-language : goal.invariant-loop-language
invariant-loop-language l =
    children_of l.copies.entries ++ reports_by_language (entries_of l.language-iterator) ≡ reports_by_language (languages_of l.self)
