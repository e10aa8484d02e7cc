use Rattle.std.proofs.Common.{◌≡◌, ◌++◌}
use Rattle.tokei_languages.specs.Seen.{entries_of, languages_of}
use Rattle.tokei.proofs.earlier.copied.Given as goal

abbrev pub invariant-loop-language : goal.invariant-loop-language
invariant-loop-language l = languages_of l.copies ++ entries_of l.language-iterator ≡ languages_of l.languages
