-- The cells of a notebook as its children: they take no bytes of a part, and the notebook has no
-- lines for them.
use Rattle.std.specs.Prelude.{ℕ, List, map}
use Rattle.tokei_table.specs.Row.{Row}
use Rattle.tokei_notebook.specs.Cells.{Cell, notebook_cells}
use Rattle.tokei_stats.specs.Statistics.{no_lines}
use Rattle.tokei_parts.specs.Items.{Block}

-- a cell as a child: its language and text, with no size and no lines of the notebook
abbrev pub cell_block : Cell → Block
cell_block cell = record {
  language = cell.language;
  contents = cell.source;
  size = 0;
  share =
      no_lines;
}

-- the cells of a notebook's text, in their order
abbrev pub cell_blocks : List Row → ℕ → List ℕ → List Block
cell_blocks rows language text = map cell_block (notebook_cells rows language text)
