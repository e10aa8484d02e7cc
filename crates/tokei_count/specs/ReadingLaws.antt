-- The laws of readings: how deep their blobs stand, and of which languages these are.
use Rattle.std.specs.Prelude.{ℕ, ◌+◌, ◌<◌, ◌≤◌, max, Bool, List, length, ⊤}
use Rattle.tokei_count.specs.Languages.{languages_of}
use Rattle.tokei_count.specs.PlainReading.{reading}
use Rattle.tokei_count.specs.WeightLaws.{HaveTokens}
use Rattle.tokei_stats.specs.Statistics.{Statistics, Blobs}
use Rattle.tokei_stats.specs.Statistics.Statistics.{node}
use Rattle.tokei_stats.specs.Statistics.Blobs.{none, blob}
use Rattle.tokei_table.specs.Row.{Row}

-- how many levels of blobs statistics hold; those without blobs hold none
abbrev mutual
  pub depth : Statistics → ℕ
  depth (node c bs) = blobs_depth bs

  -- those that the blobs of one language after another hold
  pub blobs_depth : Blobs → ℕ
  blobs_depth none = 0
  blobs_depth (blob k t rest) = max (depth t + 1) (blobs_depth rest)

-- each language of the blobs is below the number, at every depth
abbrev mutual
  pub AreKnown : ℕ → Statistics → Type 0
  AreKnown n (node c bs) = BlobsAreKnown n bs

  -- the same of blobs alone
  pub BlobsAreKnown : ℕ → Blobs → Type 0
  BlobsAreKnown n none = ⊤
  BlobsAreKnown n (blob k t rest) = (k < n) × (AreKnown n t × BlobsAreKnown n rest)

-- a reading holds no more levels of blobs than there are levels to read
abbrev pub ReadingsAreShallow : Type 0
ReadingsAreShallow = (rows : List Row) → HaveTokens rows
    → (docs_are_comments : Bool) (levels language : ℕ) (t : List ℕ)
    → depth (reading (languages_of rows) docs_are_comments levels language t) ≤ levels

-- a reading in a language of the table has blobs of its languages alone
abbrev pub ReadingsKnowTheirLanguages : Type 0
ReadingsKnowTheirLanguages = (rows : List Row) → HaveTokens rows
    → (docs_are_comments : Bool) (levels language : ℕ) (t : List ℕ) → language < length rows
    → AreKnown (length rows) (reading (languages_of rows) docs_are_comments levels language t)
