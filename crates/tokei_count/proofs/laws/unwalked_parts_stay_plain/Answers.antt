use Rattle.tokei_table.specs.Lookups.{row_at}
use Rattle.tokei_count.specs.Languages.{languages_of}
use Rattle.tokei_count.specs.PlainReading.{blocks}
use Rattle.tokei_parts.proofs.Blocks.{by_levels}
use Rattle.tokei_count.proofs.QuietBlocks.{quiet_blocks}
use Rattle.tokei_count.proofs.UnwalkedParts.{stay_plain}
use Rattle.tokei_count.proofs.Weights.{every_token}
use Rattle.tokei_count.proofs.laws.unwalked_parts_stay_plain.Goals as goal

pub returns : goal.returns
returns c =
    λ rows tokens levels language t. stay_plain (row_at rows language)
    (blocks (languages_of rows) levels language t) (quiet_blocks rows levels language t)
    (every_token rows tokens language) (by_levels rows language t levels) t
