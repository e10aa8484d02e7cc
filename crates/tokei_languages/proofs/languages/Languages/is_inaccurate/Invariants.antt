use Rattle.std.proofs.Common.{◌≡◌}
use Rattle.tokei_languages.specs.Seen.{entries_of, languages_of}
use Rattle.tokei_languages.specs.Summaries.{any_inaccurate}
use Rattle.tokei_languages.proofs.languages.Languages.is_inaccurate.Given as goal

abbrev pub invariant-loop-language : goal.invariant-loop-language
invariant-loop-language l = any_inaccurate (languages_of l.self) ≡ any_inaccurate (entries_of l.language-iterator)
