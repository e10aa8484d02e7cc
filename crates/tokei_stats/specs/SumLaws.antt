-- The laws of sums and summaries, for statistics in the table's order.
use Rattle.std.specs.Prelude.{◌≡◌, ◌≢◌, ℕ, Option, None, Some}
use Rattle.tokei_stats.specs.Ordered.{IsOrdered}
use Rattle.tokei_stats.specs.Statistics.{Statistics, Blobs, own, blobs, empty, plus, at, put, sum, summary}
use Rattle.tokei_stats.specs.Statistics.Statistics.{node}
use Rattle.tokei_stats.specs.Statistics.Blobs.{none}

-- a sum of ordered statistics is ordered
abbrev pub SumsStayOrdered : Type 0
SumsStayOrdered = (s t : Statistics) → IsOrdered s → IsOrdered t → IsOrdered (sum s t)

-- which of two is added to the other makes no difference
abbrev pub SumsCommute : Type 0
SumsCommute = (s t : Statistics) → IsOrdered s → IsOrdered t → sum s t ≡ sum t s

-- which two of three are added first makes no difference
abbrev pub SumsAssociate : Type 0
SumsAssociate =
    (s t u : Statistics) → IsOrdered s → IsOrdered t → IsOrdered u
    → sum (sum s t) u ≡ sum s (sum t u)

-- adding empty statistics changes nothing, on either side
abbrev pub EmptyIsNeutral : Type 0
EmptyIsNeutral = (s : Statistics) → IsOrdered s → (sum s empty ≡ s) × (sum empty s ≡ s)

-- the summary of a sum is the sum of the summaries
abbrev pub SummariesAdd : Type 0
SummariesAdd =
    (s t : Statistics) → IsOrdered s → IsOrdered t
    → summary (sum s t) ≡ plus (summary s) (summary t)

-- summarising twice is once
abbrev pub SummarisingOnceSuffices : Type 0
SummarisingOnceSuffices = (s : Statistics) → summary (node (summary s) none) ≡ summary s

-- the statistics of a language in a sum, by those of the two sides: the sum of both, or the one
-- that is there
abbrev pub both : Option Statistics → Option Statistics → Option Statistics
both None found = found
both (Some s) None = Some s
both (Some s) (Some t) = Some (sum s t)

-- the statistics have the numbers of both sides added up, and at each language the sum of both, or
-- the one there is
pub record HoldsBoth (statistics more total : Statistics) : Type 0 where
  pub numbers : own total ≡ plus (own statistics) (own more)
  pub languages : (k : ℕ) → at (blobs total) k ≡ both (at (blobs statistics) k) (at (blobs more) k)

-- a sum has each language of the two, with the sum of what they have there
abbrev pub SumsHoldBoth : Type 0
SumsHoldBoth = (s t : Statistics) → IsOrdered t → HoldsBoth s t (sum s t)

-- what is put at a language stands there, and at another language what stood there
pub record ChangesOne (old new : Blobs) (place : ℕ) (statistics : Statistics) : Type 0 where
  pub here : at new place ≡ Some statistics
  pub others : (i : ℕ) → i ≢ place → at new i ≡ at old i

-- putting statistics at a language changes that language alone
abbrev pub PutsChangeOne : Type 0
PutsChangeOne = (bs : Blobs) (k : ℕ) (s : Statistics) → ChangesOne bs (put bs k s) k s
