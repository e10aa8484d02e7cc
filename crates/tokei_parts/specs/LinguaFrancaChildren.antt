-- Lingua Franca: code of the target language between `{=` and `=}`.
use Rattle.std.specs.Prelude.{ℕ, if◌then◌else◌, List, Option, None, Some, option_map, unwrap_or, codes, bytes_eq}
use Rattle.tokei_table.specs.OuterLines.{trim_outer_lines}
use Rattle.tokei_table.specs.Row.{Row}
use Rattle.tokei_embedding.specs.TargetBlocks.{TargetBlock, target_block, target_of}
use Rattle.tokei_parts.specs.Items.{Block}
use Rattle.tokei_table_row.specs.Counts.{no_lines}
use Rattle.tokei_parts.specs.NamedLanguages.{by_name}

-- the target `CCpp` means C
abbrev pub target_name : List ℕ → List ℕ
target_name word = if bytes_eq word (codes "CCpp") then codes "C" else word

-- The text's target names the language of its blocks; where none is named, or the table has no such
-- language, they are Lingua Franca, as their parent.
abbrev pub target_language : List Row → ℕ → Option (List ℕ) → ℕ
target_language rows parent None = parent
target_language rows parent (Some word) = unwrap_or (by_name rows (target_name word)) parent

-- the text of a block is read without the blank rest of its first line and the blank front of its
-- last one; it adds nothing to the parent
abbrev pub target_child : List Row → ℕ → List ℕ → TargetBlock → Block
target_child rows parent text target = record {
  language = target_language rows parent (target_of text);
  contents = trim_outer_lines target.contents;
  size = target.size;
  share = no_lines;
}

-- the child that opens at a place of the part; `rest` is the text from the place on
abbrev pub franca_block : List Row → ℕ → List ℕ → List ℕ → ℕ → List ℕ → Option Block
franca_block rows parent text part place rest =
    option_map (target_child rows parent text) (target_block part place rest)
