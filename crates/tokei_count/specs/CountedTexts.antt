-- What a call that counts a text answers.
use Rattle.std.specs.Prelude.{◌≡◌, ◌^◌, ℕ, ◌<◌, ◌≤◌, List, length, Result, IfOk, IsErrOf, IsOk}
use Rattle.tokei_options.specs.declared.count_config.CountConfig.{CountConfig}
use Rattle.tokei_stats.specs.Overflow.{Fits}
use Rattle.tokei_stats.specs.Seen.{stats_of}
use Rattle.tokei_stats.specs.declared.error.CountError.{CountError}
use Rattle.tokei_stats.specs.declared.error.CountError.TheVariants.{Overflow}
use Rattle.tokei_stats.specs.declared.stats.CodeStats.{CodeStats}
use Rattle.tokei_table.specs.Row.{Row}
use Rattle.tokei_count.specs.Countings.{HasNoOpener, all_lines, text_reading, text_weight}
use Rattle.tokei_count.specs.WeightLaws.{HaveNoNotebook}

-- The statistics of the text's plain reading, with no more lines than its weight, or its bytes
-- where no language is a notebook. It is refused for a sum only where the reading has none that
-- fits, never for one where the weight is below 2^64 or no language is a notebook, and never at all
-- where a text in another language than notebooks has no opener.
pub record CountsText (rows : List Row) (config : CountConfig) (language : ℕ) (text : List ℕ)
    (result : Result CodeStats CountError) : Type 0 where
  pub reads : IfOk result (λ stats. stats_of stats ≡ text_reading rows config language text)
  pub lines_at_most_weight : IfOk result
      (λ stats. all_lines (stats_of stats) ≤ text_weight rows language text)
  pub lines_at_most_bytes : HaveNoNotebook rows
      → IfOk result (λ stats. all_lines (stats_of stats) ≤ length text)
  pub no_overflow_of_light_texts : text_weight rows language text < 2 ^ 64
      → ¬ IsErrOf result Overflow
  pub no_overflow_without_notebooks : HaveNoNotebook rows → ¬ IsErrOf result Overflow
  pub never_refused_without_openers : HasNoOpener rows language text → IsOk result
  pub overflow : IsErrOf result Overflow → ¬ Fits (text_reading rows config language text)
