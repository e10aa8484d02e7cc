-- The law of texts without opener: none of their parts is walked, and no child opens in them.
use Rattle.std.specs.Prelude.{◌≡◌, ℕ, false, List, None}
use Rattle.tokei_table.specs.FirstOpener.{first_opener}
use Rattle.tokei_table.specs.Lookups.{row_at}
use Rattle.tokei_table.specs.Openers.{openers}
use Rattle.tokei_table.specs.Row.{Row}
use Rattle.tokei_count.specs.Languages.{is_notebook}
use Rattle.tokei_count.specs.Languages.{languages_of}
use Rattle.tokei_count.specs.Steps.{steps}
use Rattle.tokei_count.specs.WeightLaws.{HaveTokens}

-- a text that isn't a notebook and holds no opener takes no steps, by a table of which all texts
-- that a count looks for are tokens
abbrev pub QuietTextsTakeNoSteps : Type 0
QuietTextsTakeNoSteps = (rows : List Row) → HaveTokens rows → (levels language : ℕ) (t : List ℕ)
    → is_notebook (row_at rows language) ≡ false
    → first_opener (openers (row_at rows language)) t ≡ None
    → steps (languages_of rows) levels language t ≡ 0
