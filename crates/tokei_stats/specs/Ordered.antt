-- Statistics in the table's order: the languages of the blobs ascend, so that each stands once, at
-- every depth.
use Rattle.std.specs.Prelude.{ℕ, ◌<◌, ⊤}
use Rattle.tokei_stats.specs.Statistics.{Statistics, Blobs}
use Rattle.tokei_stats.specs.Statistics.Statistics.{node}
use Rattle.tokei_stats.specs.Statistics.Blobs.{none, blob}

-- each language of the blobs stands behind the one
abbrev pub StandBehind : ℕ → Blobs → Type 0
StandBehind language none = ⊤
StandBehind language (blob j t rest) = (language < j) × StandBehind language rest

-- the blobs of the statistics ascend, at every depth
abbrev mutual
  pub IsOrdered : Statistics → Type 0
  IsOrdered (node n bs) = AreOrdered bs

  -- these blobs ascend, and so do those inside them
  pub AreOrdered : Blobs → Type 0
  AreOrdered none = ⊤
  AreOrdered (blob k t rest) = IsOrdered t × (StandBehind k rest × AreOrdered rest)
