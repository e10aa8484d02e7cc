-- When statistics fit the code's numbers.
use Rattle.std.specs.Prelude.{◌<◌, ◌^◌, ⊤}
use Rattle.tokei_stats.specs.Statistics.{Counts, Statistics, Blobs}
use Rattle.tokei_stats.specs.Statistics.Statistics.{node}
use Rattle.tokei_stats.specs.Statistics.Blobs.{none, blob}

-- each of the three numbers is at most the greatest `usize`
pub record CountsFit (counts : Counts) : Type 0 where
  pub blanks : counts.blanks < 2 ^ 64
  pub code : counts.code < 2 ^ 64
  pub comments : counts.comments < 2 ^ 64

-- each number of the statistics is, at every depth
abbrev mutual
  pub Fits : Statistics → Type 0
  Fits (node n bs) = CountsFit n × BlobsFit bs

  -- the counts of each of the blobs fit, at every depth
  pub BlobsFit : Blobs → Type 0
  BlobsFit none = ⊤
  BlobsFit (blob k t rest) = Fits t × BlobsFit rest
