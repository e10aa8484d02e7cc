use Rattle.std.proofs.Common.{◌≡◌}
use Rattle.tokei_stats.specs.Statistics.{blobs, add_all}
use Rattle.tokei_stats.specs.Overflow.{BlobsFit}
use Rattle.tokei_stats.specs.Seen.{stats_of, blobs_of, entries_of}
use Rattle.tokei_stats.proofs.stats.CodeStats.+added_to.Given as goal

abbrev pub invariant-loop-language : goal.invariant-loop-language
invariant-loop-language l = record {
  same : add_all (blobs_of (entries_of l.blobs.entries)) (blobs_of (entries_of l.language-iterator)) ≡ add_all (blobs (stats_of l.other)) (blobs (stats_of l.self));
  fits : BlobsFit (blobs_of (entries_of l.blobs.entries));
}
