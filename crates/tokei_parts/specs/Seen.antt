-- The code's values as the definitions see them.
use Rattle.std.specs.Prelude.{if◌then◌else◌, ℕ, List, map, reverse}
use Rattle.tokei_table.specs.Bytes.{trim}
use Rattle.tokei_embedding.specs.DocComments.{doc_text}
use Rattle.tokei_parts.specs.Items.{Block}
use Rattle.tokei_parts.specs.SeenChoices.{enclosure_of}
use Rattle.tokei_parts.specs.declared.items.Enclosure as CodeEnclosure
use Rattle.tokei_parts.specs.Modes.{Chain}
use Rattle.tokei_parts.specs.declared.openings.Block as CodeBlock

-- the text of a child: a doc comment's lines are read without their marks, joined and trimmed
abbrev pub contents_of : CodeBlock.Block → List ℕ
contents_of block = if block.is_doc then trim (doc_text block.contents.now) else block.contents.now

-- a child: its language, its text, its size in bytes, and the lines that it adds to its parent's
abbrev pub block_of : CodeBlock.Block → Block
block_of block = record {
  language = block.language;
  contents = contents_of block;
  size = block.size;
  share = record { blanks = 0; code = block.code; comments = block.comments };
}

-- the items that enclose a place, from the stack on which the last is the innermost
abbrev pub chain_of : List CodeEnclosure.Enclosure → Chain
chain_of es = map enclosure_of (reverse es)
