-- The code's statistics as the definitions see them.
use Rattle.std.specs.Prelude.{ℕ, [], ◌∷◌, List, map}
use Rattle.tokei_stats.specs.Statistics.{Counts, Statistics, Blobs, own}
use Rattle.tokei_stats.specs.Statistics.Statistics.{node}
use Rattle.tokei_stats.specs.Statistics.Blobs.{none, blob}
use Rattle.tokei_stats.specs.declared.stats.CodeStats.{CodeStats, CodeStats-F, fold-CodeStats}
use Rattle.tokei_stats.specs.declared.sums.Sums.{Sums}

-- blobs from the list of their languages and statistics
abbrev pub blobs_of : List (ℕ × Statistics) → Blobs
blobs_of [] = none
blobs_of (e ∷ es) = blob e.0 e.1 (blobs_of es)

-- the statistics of a value, where those of its blobs are known
abbrev pub stats_step : CodeStats-F Statistics → Statistics
stats_step s =
    node (record { blanks = s.blanks; code = s.code; comments = s.comments })
    (blobs_of s.blobs.entries)

-- the statistics of a value, with those of its blobs at every depth
abbrev pub stats_of : CodeStats → Statistics
stats_of = fold-CodeStats Statistics stats_step

-- the text's own counts
abbrev pub counts_of : CodeStats → Counts
counts_of stats = own (stats_of stats)

-- each blob with its statistics
abbrev pub entries_of : List (ℕ × CodeStats) → List (ℕ × Statistics)
entries_of es = map (λ e. (e.0, stats_of e.1)) es

-- the three sums as counts of lines
abbrev pub sums_of : Sums → Counts
sums_of sums = record { blanks = sums.blanks; code = sums.code; comments = sums.comments }
