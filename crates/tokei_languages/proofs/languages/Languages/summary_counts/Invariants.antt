use Rattle.std.proofs.Common.{◌≡◌}
use Rattle.tokei_stats.specs.Seen.{sums_of}
use Rattle.tokei_stats.specs.Statistics.{plus}
use Rattle.tokei_languages.specs.Seen.{entries_of, languages_of}
use Rattle.tokei_languages.specs.Summaries.{languages_summary}
use Rattle.tokei_languages.proofs.languages.Languages.summary_counts.Given as goal

abbrev pub invariant-loop-language : goal.invariant-loop-language
invariant-loop-language l = plus (sums_of l.sums) (languages_summary (entries_of l.language-iterator)) ≡ languages_summary (languages_of l.self)
