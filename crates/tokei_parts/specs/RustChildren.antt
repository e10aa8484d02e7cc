-- Rust: Markdown in doc comments.
use Rattle.std.specs.Prelude.{ℕ, List, Option, option_map, codes}
use Rattle.tokei_table.specs.Bytes.{trim}
use Rattle.tokei_table.specs.Row.{Row}
use Rattle.tokei_embedding.specs.DocComments.{DocBlock, doc_block}
use Rattle.tokei_parts.specs.Items.{Block}
use Rattle.tokei_table_row.specs.Counts.{no_lines}
use Rattle.tokei_table.specs.Families.{fallback}

-- what the lines say is read trimmed; they add nothing to the parent
abbrev pub doc_child : List Row → ℕ → DocBlock → Block
doc_child rows parent doc = record {
  language = fallback rows parent (codes "Markdown");
  contents = trim doc.contents;
  size = doc.size;
  share = no_lines;
}

-- the child that opens at the front of the text
abbrev pub rust_block : List Row → ℕ → List ℕ → Option Block
rust_block rows parent rest = option_map (doc_child rows parent) (doc_block rest)
