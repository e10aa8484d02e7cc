use Rattle.std.proofs.Common.{◌≡◌, ◌++◌, map}
use Rattle.tokei_config.specs.Seen.{additions_of}
use Rattle.tokei_table.specs.Extended.{addition_of}
use Rattle.tokei_config.proofs.config.extensions_gained.Given as goal

abbrev pub invariant-loop-language : goal.invariant-loop-language
invariant-loop-language l = map addition_of l.additions.items ++ additions_of l.language-iterator ≡ additions_of l.languages.entries
