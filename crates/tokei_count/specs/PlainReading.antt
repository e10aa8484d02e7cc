-- The plain reading: the statistics of a text, by its derivation alone.
use Rattle.std.specs.Prelude.{ℕ, zero, suc, Bool, List, [], ◌∷◌, if◌then◌else◌, Option}
use Rattle.tokei_table.specs.Row.{Row}
use Rattle.tokei_parts.specs.Items.{Block}
use Rattle.tokei_parts.specs.Derivation.{items_of}
use Rattle.tokei_parts.specs.Modes.{Mark, marks}
use Rattle.tokei_parts.specs.Parts.{parts_of}
use Rattle.tokei_parts.specs.Tally.{blocks_at, children, tally}
use Rattle.tokei_count.specs.Languages.{Languages, is_notebook}
use Rattle.tokei_stats.specs.Statistics.{Statistics, empty, sum}
use Rattle.tokei_stats.specs.Statistics.Statistics.{node}
use Rattle.tokei_stats.specs.Statistics.Blobs.{none, blob}

-- what a child adds to its parent: its share of the parent's own lines, and its statistics at its
-- language
abbrev pub child_adds : (Block → Statistics) → Block → Statistics
child_adds read block = node block.share (blob block.language (read block) none)

-- what all children add, where `read` gives the statistics of each
abbrev pub children_add : (Block → Statistics) → List Block → Statistics
children_add read [] = empty
children_add read (k ∷ ks) = sum (child_adds read k) (children_add read ks)

-- the statistics of a text by its marks: the lines of its parts, and what its children add
abbrev pub read_by : Row → Bool → (Block → Statistics) → List Mark → Statistics
read_by row docs_are_comments read ms =
    sum (node (tally row docs_are_comments (parts_of ms)) none) (children_add read (children ms))

-- the blocks that can open in a text, with so many levels left: with none left no child opens
abbrev pub blocks : Languages → ℕ → ℕ → List ℕ → (ℕ → List ℕ → Option Block)
blocks ls levels language text = blocks_at ls.block levels language text

-- the statistics of a notebook: what its cells add, which is each cell's at its language
abbrev pub notebook_by : (Block → Statistics) → List Block → Statistics
notebook_by = children_add

-- The reading of a text in a language, with so many levels left; a child has one level less than
-- its parent. With none left a notebook counts nothing.
unfoldable pub reading : Languages → Bool → ℕ → ℕ → List ℕ → Statistics
reading ls docs_are_comments zero language text =
    if is_notebook (ls.row language) then empty
    else read_by (ls.row language) docs_are_comments (λ k. empty)
    (marks [] (items_of (ls.row language) (blocks ls zero language text) text))
reading ls docs_are_comments (suc levels) language text =
    if is_notebook (ls.row language)
    then notebook_by (λ k. reading ls docs_are_comments levels k.language k.contents)
    (ls.cells language text)
    else read_by (ls.row language) docs_are_comments
    (λ k. reading ls docs_are_comments levels k.language k.contents)
    (marks [] (items_of (ls.row language) (blocks ls (suc levels) language text) text))

-- the reading of a child, in a text with so many levels left
abbrev pub child_reading : Languages → Bool → ℕ → Block → Statistics
child_reading ls docs_are_comments zero block = empty
child_reading ls docs_are_comments (suc levels) block =
    reading ls docs_are_comments levels block.language block.contents

-- the outermost text has 50 levels left
abbrev pub outermost_levels : ℕ
outermost_levels = 50
