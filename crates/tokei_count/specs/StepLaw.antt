-- The law of the steps: each opening is a step, and each step takes a byte of what is walked or
-- opens a child.
use Rattle.std.specs.Prelude.{ℕ, ◌≤◌, List}
use Rattle.tokei_table.specs.Row.{Row}
use Rattle.tokei_count.specs.Languages.{Languages}
use Rattle.tokei_count.specs.OpeningItems.{openings}
use Rattle.tokei_count.specs.Languages.{languages_of}
use Rattle.tokei_count.specs.Steps.{steps, plain_steps, work}
use Rattle.tokei_count.specs.WeightLaws.{HaveTokens}

-- the steps of a text are at least its openings, and at most its work
pub record StepsLieBetween (ls : Languages) (levels language : ℕ) (text : List ℕ) : Type 0 where
  pub low : openings ls levels language text ≤ steps ls levels language text
  pub high : steps ls levels language text ≤ work ls levels language text

-- so it is through all children, by a table of which all texts that a count looks for are tokens
abbrev pub OpeningsStepsWork : Type 0
OpeningsStepsWork = (rows : List Row) → HaveTokens rows → (levels language : ℕ) (t : List ℕ)
    → StepsLieBetween (languages_of rows) levels language t

-- a reading that skips takes at most the steps of the plain reading, through all children
abbrev pub SkippingTakesNoMoreSteps : Type 0
SkippingTakesNoMoreSteps = (rows : List Row) (levels language : ℕ) (t : List ℕ)
    → steps (languages_of rows) levels language t ≤ plain_steps (languages_of rows) levels
    language t
