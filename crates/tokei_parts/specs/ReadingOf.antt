-- The readings of the code, as the definitions see them.
use Rattle.std.specs.Prelude.{ℕ, List, Option, drop}
use Rattle.tokei_table.specs.Row.{Row}
use Rattle.tokei_table.specs.Lookups.{row_at}
use Rattle.tokei_parts.specs.Items.{Block}
use Rattle.tokei_embedding.specs.DocComments.{first_line}
use Rattle.tokei_parts.specs.Openings.{block_in}
use Rattle.tokei_parts.specs.Tally.{blocks_at}
use Rattle.tokei_parts.specs.declared.reading.Reading.{Reading}

-- the row of the text's language
abbrev pub row_in : Reading → Row
row_in reading = row_at reading.table.now reading.language

-- the blocks that can open in the text
abbrev pub blocks_of : Reading → (ℕ → List ℕ → Option Block)
blocks_of reading = blocks_at (block_in reading.table.now) reading.levels reading.language
    reading.text.now

-- the openers that its parts are searched for
abbrev pub openers_in : Reading → List (List ℕ)
openers_in reading = reading.matchers.now.openers

-- the line from a place of the text on
abbrev pub line_from : Reading → ℕ → List ℕ
line_from reading at = first_line (drop at reading.text.now)
