use Rattle.std.proofs.Common.{◌≡◌}
use Rattle.tokei_stats.specs.Statistics.{summary, summaries, plus}
use Rattle.tokei_stats.specs.Seen.{stats_of, blobs_of, entries_of}
use Rattle.tokei_stats.specs.Seen.{sums_of}
use Rattle.tokei_stats.proofs.stats.CodeStats.+summary_counts.Given as goal

abbrev pub invariant-loop-stats : goal.invariant-loop-stats
invariant-loop-stats l = plus (sums_of l.sums) (summaries (blobs_of (entries_of l.stats-iterator))) ≡ summary (stats_of l.self)
