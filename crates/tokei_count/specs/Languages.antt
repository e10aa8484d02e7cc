-- What a reading knows of the languages.
use Rattle.std.specs.Prelude.{ℕ, Bool, List, Option}
use Rattle.std.specs.Str.{bytes_eq}
use Rattle.std.specs.Prelude.{codes}
use Rattle.tokei_table.specs.Row.{Row}
use Rattle.tokei_table.specs.Lookups.{row_at}
use Rattle.tokei_parts.specs.Items.{Block}
use Rattle.tokei_count.specs.NotebookCells.{cell_blocks}
use Rattle.tokei_parts.specs.Openings.{block_in}

-- The row of each language; by language, whole text and how many bytes were left behind the last
-- child, the block that opens at the front of what is left of the text; and by language and whole
-- text the cells of a notebook.
pub record Languages : Type 0 where
  pub row : ℕ → Row
  pub block : ℕ → List ℕ → ℕ → List ℕ → Option Block
  pub cells : ℕ → List ℕ → List Block

-- notebooks are read as JSON, and not as lines
abbrev pub is_notebook : Row → Bool
is_notebook r = bytes_eq r.key (codes "Jupyter")

-- the languages of a table
abbrev pub languages_of : List Row → Languages
languages_of rows = record { row = row_at rows; block = block_in rows; cells = cell_blocks rows }
