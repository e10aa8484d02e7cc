use Rattle.tokei_table.proofs.RowSound.{sound_row}
use Rattle.tokei_table.specs.Lookups.{row_at}
use Rattle.tokei_count.specs.Languages.{languages_of}
use Rattle.tokei_count.specs.PlainReading.{blocks}
use Rattle.tokei_parts.proofs.Blocks.{by_levels}
use Rattle.tokei_count.proofs.SpelledItems.{spelled-items_of}
use Rattle.tokei_count.proofs.Weights.{every_token}
use Rattle.tokei_count.proofs.laws.texts_are_spelled.Goals as goal

pub returns : goal.returns
returns c = λ rows tokens levels language t.
    let sizes = by_levels rows language t levels in
    spelled-items_of (row_at rows language) (blocks (languages_of rows) levels language t)
    (sound_row (row_at rows language) (every_token rows tokens language)) (record { some = sizes.some }) t
