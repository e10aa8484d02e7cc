-- What a count of a whole text speaks of: by the rows of a table, in a language, with all levels
-- left.
use Rattle.std.specs.Prelude.{◌≡◌, ℕ, false, List, None}
use Rattle.tokei_options.specs.declared.count_config.CountConfig.{CountConfig}
use Rattle.tokei_stats.specs.Statistics.{Statistics, lines_of, summary}
use Rattle.tokei_table.specs.FirstOpener.{first_opener}
use Rattle.tokei_table.specs.Lookups.{row_at}
use Rattle.tokei_table.specs.Openers.{openers}
use Rattle.tokei_table.specs.Row.{Row}
use Rattle.tokei_count.specs.Languages.{is_notebook}
use Rattle.tokei_count.specs.OpeningItems.{openings}
use Rattle.tokei_count.specs.Languages.{languages_of}
use Rattle.tokei_count.specs.PlainReading.{reading, outermost_levels}
use Rattle.tokei_count.specs.Seen.{docs_of}
use Rattle.tokei_count.specs.Steps.{steps, plain_steps, work}
use Rattle.tokei_count.specs.Weight.{weight}

-- the statistics of the text, those of its children in it
abbrev pub text_reading : List Row → CountConfig → ℕ → List ℕ → Statistics
text_reading rows config language text =
    reading (languages_of rows) (docs_of config) outermost_levels language text

-- the steps that reading the text takes
abbrev pub text_steps : List Row → ℕ → List ℕ → ℕ
text_steps rows language text = steps (languages_of rows) outermost_levels language text

-- the steps that the plain reading of the text takes
abbrev pub text_plain_steps : List Row → ℕ → List ℕ → ℕ
text_plain_steps rows language text = plain_steps (languages_of rows) outermost_levels language text

-- how many openings of children are met in the text and in its children
abbrev pub text_openings : List Row → ℕ → List ℕ → ℕ
text_openings rows language text = openings (languages_of rows) outermost_levels language text

-- the lengths in bytes of all parts that are walked, and one for each child
abbrev pub text_work : List Row → ℕ → List ℕ → ℕ
text_work rows language text = work (languages_of rows) outermost_levels language text

-- the weight of the text, in bytes, which bounds what its reading takes and counts
abbrev pub text_weight : List Row → ℕ → List ℕ → ℕ
text_weight rows language text = weight (languages_of rows) outermost_levels language text

-- the lines of a text and of all its children
abbrev pub all_lines : Statistics → ℕ
all_lines statistics = lines_of (summary statistics)

-- the text, in a language other than notebooks, holds no opener
pub record HasNoOpener (rows : List Row) (language : ℕ) (text : List ℕ) : Type 0 where
  pub in_lines : is_notebook (row_at rows language) ≡ false
  pub none : first_opener (openers (row_at rows language)) text ≡ None
