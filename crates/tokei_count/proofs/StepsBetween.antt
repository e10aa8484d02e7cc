-- The steps of a text are at least its openings and at most its work.
use Rattle.std.proofs.Common.{ℕ, List}
use Rattle.tokei_table.specs.Lookups.{row_at}
use Rattle.tokei_table.specs.Row.{Row}
use Rattle.tokei_count.specs.Languages.{languages_of}
use Rattle.tokei_count.specs.OpeningItems.{own_openings}
use Rattle.tokei_count.specs.PlainReading.{blocks}
use Rattle.tokei_count.specs.StepLaw.{StepsLieBetween}
use Rattle.tokei_count.specs.Steps.{own_steps}
use Rattle.tokei_count.specs.WeightLaws.{HaveTokens}
use Rattle.tokei_parts.proofs.Blocks.{by_levels}
use Rattle.tokei_count.proofs.ChildSums.{with_children-most}
use Rattle.tokei_count.proofs.QuietBlocks.{quiet_blocks}
use Rattle.tokei_count.proofs.WalkedBytes.{steps-most}
use Rattle.tokei_count.proofs.WalkedOpenings.{own_openings-most}
use Rattle.tokei_count.proofs.Weights.{every_token}

pub steps-between : (rows : List Row) → HaveTokens rows → (levels language : ℕ) (t : List ℕ) → StepsLieBetween (languages_of rows) levels language t
steps-between rows tokens levels language t = record {
  low = with_children-most (languages_of rows) own_openings own_steps
      (λ levels language t. own_openings-most (row_at rows language)
      (blocks (languages_of rows) levels language t) (quiet_blocks rows levels language t)
      (every_token rows tokens language) (by_levels rows language t levels) t)
      levels language t;
  high = steps-most (languages_of rows) levels language t;
}
