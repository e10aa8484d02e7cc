use Rattle.std.proofs.Common.{◌↔◌}
use Rattle.tokei_languages.specs.Renewing.{RenewalFits}
use Rattle.tokei_languages.specs.Seen.{entries_of}
use Rattle.tokei_languages.proofs.totals.test_sums.Given as goal

abbrev pub invariant-loop-language : goal.invariant-loop-language
invariant-loop-language l = RenewalFits (entries_of l.languages.entries) ↔ RenewalFits (entries_of l.language-iterator)
