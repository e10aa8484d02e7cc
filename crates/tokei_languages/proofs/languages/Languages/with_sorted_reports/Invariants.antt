use Rattle.std.proofs.Common.{◌≡◌, ◌++◌}
use Rattle.tokei_languages.specs.Seen.{entries_of, languages_of}
use Rattle.tokei_languages.specs.Sorting.{sorted_languages}
use Rattle.tokei_languages.proofs.languages.Languages.with_sorted_reports.Given as goal

abbrev pub invariant-loop-language : goal.invariant-loop-language
invariant-loop-language l =
    entries_of l.sorted.entries ++ sorted_languages l.sort (entries_of l.language-iterator) ≡ sorted_languages l.sort (languages_of l.fn.self)
