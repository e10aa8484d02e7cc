use Rattle.std.proofs.Common.{◌≡◌, ◌++◌}
use Rattle.tokei_stats.specs.declared.stats.CodeStats.{out-CodeStats}
use Rattle.tokei_stats.specs.Overflow.{BlobsFit}
use Rattle.tokei_stats.specs.Seen.{blobs_of, entries_of}
use Rattle.tokei_stats.proofs.stats.CodeStats.+try_clone.Given as goal

abbrev pub invariant-loop-language : goal.invariant-loop-language
invariant-loop-language l = record {
  same : entries_of l.blobs.entries ++ entries_of l.language-iterator ≡ entries_of (out-CodeStats l.self).blobs.entries;
  fits : BlobsFit (blobs_of (entries_of l.blobs.entries));
}
