-- What the weight of a text bounds.
use Rattle.std.specs.Prelude.{◌^◌, ◌≡◌, ℕ, ◌<◌, ◌≤◌, Bool, true, false, List, length}
use Rattle.tokei_table.specs.Lookups.{row_at}
use Rattle.tokei_table.specs.Row.{Row}
use Rattle.tokei_table.specs.Tokens.{has_tokens}
use Rattle.tokei_count.specs.Languages.{is_notebook}
use Rattle.tokei_count.specs.Languages.{languages_of}
use Rattle.tokei_count.specs.PlainReading.{reading}
use Rattle.tokei_count.specs.Steps.{steps}
use Rattle.tokei_count.specs.Weight.{weight}
use Rattle.tokei_stats.specs.Overflow.{Fits}
use Rattle.tokei_stats.specs.Statistics.{lines_of, summary}

-- all texts that a count looks for are tokens
abbrev pub HaveTokens : List Row → Type 0
HaveTokens rows = (i : ℕ) → i < length rows → has_tokens (row_at rows i) ≡ true

-- no language is read as a notebook
abbrev pub HaveNoNotebook : List Row → Type 0
HaveNoNotebook rows = (i : ℕ) → i < length rows → is_notebook (row_at rows i) ≡ false

-- a text takes no more steps than it weighs
abbrev pub StepsWithinWeight : Type 0
StepsWithinWeight = (rows : List Row) → HaveTokens rows → (levels language : ℕ) (t : List ℕ)
    → steps (languages_of rows) levels language t ≤ weight (languages_of rows) levels language t

-- a text and its children have no more lines than it weighs
abbrev pub LinesWithinWeight : Type 0
LinesWithinWeight =
    (rows : List Row) → HaveTokens rows
    → (docs_are_comments : Bool) (levels language : ℕ) (t : List ℕ)
    → lines_of (summary (reading (languages_of rows) docs_are_comments levels language t))
    ≤ weight (languages_of rows) levels language t

-- without notebooks a text weighs its bytes
abbrev pub WeightIsLength : Type 0
WeightIsLength = (rows : List Row) → HaveNoNotebook rows → (levels language : ℕ) (t : List ℕ)
    → weight (languages_of rows) levels language t ≡ length t

-- a reading fits the code's numbers wherever the weight of its text does
abbrev pub LightReadingsFit : Type 0
LightReadingsFit =
    (rows : List Row) → HaveTokens rows
    → (docs_are_comments : Bool) (levels language : ℕ) (t : List ℕ)
    → weight (languages_of rows) levels language t < 2 ^ 64
    → Fits (reading (languages_of rows) docs_are_comments levels language t)

-- so without notebooks every reading does whose text the code can hold
abbrev pub ShortReadingsFit : Type 0
ShortReadingsFit = (rows : List Row) → HaveTokens rows → HaveNoNotebook rows
    → (docs_are_comments : Bool) (levels language : ℕ) (t : List ℕ) → length t < 2 ^ 64
    → Fits (reading (languages_of rows) docs_are_comments levels language t)
