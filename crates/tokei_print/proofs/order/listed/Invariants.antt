use Rattle.std.proofs.Common.{◌≡◌, ◌++◌}
use Rattle.tokei_languages.specs.Seen.{entries_of, languages_of}
use Rattle.tokei_print.specs.ListedLanguages.{languages_in}
use Rattle.tokei_print.proofs.order.listed.Given as goal

abbrev pub invariant-loop-language : goal.invariant-loop-language
invariant-loop-language l = languages_in l.all.items ++ entries_of l.language-iterator ≡ languages_of l.languages
