-- HTML and its like: script, style and template elements.
use Rattle.std.specs.Prelude.{ℕ, List, Option, None, Some, option_map, option_and_then, unwrap_or, codes}
use Rattle.tokei_table.specs.Bytes.{trim}
use Rattle.tokei_table.specs.OuterLines.{trim_outer_lines}
use Rattle.tokei_table.specs.Row.{Row}
use Rattle.tokei_embedding.specs.Tags.{TagBlock, tag_block}
use Rattle.tokei_embedding.specs.declared.tags.Tag.{Tag}
use Rattle.tokei_embedding.specs.declared.tags.Tag.TheVariants.{Script, Style, Template}
use Rattle.tokei_parts.specs.Items.{Block}
use Rattle.tokei_parts.specs.NamedLanguages.{by_word, by_mime}
use Rattle.tokei_table.specs.Families.{fallback}

-- The trimmed value of the attribute names the language: a MIME type for a script, else a word.
abbrev pub by_value : List Row → Tag → List ℕ → Option ℕ
by_value rows Script value = by_mime rows (trim value)
by_value rows Style value = by_word rows (trim value)
by_value rows Template value = by_word rows (trim value)

-- the language where none is named
abbrev pub usual_key : Tag → List ℕ
usual_key Script = codes "JavaScript"
usual_key Style = codes "Css"
usual_key Template = codes "Html"

-- the language that the attribute's value names, else the usual one of the tag
abbrev pub element_language : List Row → ℕ → Tag → Option (List ℕ) → ℕ
element_language rows parent tag v =
    unwrap_or (option_and_then (by_value rows tag) v) (fallback rows parent (usual_key tag))

-- The text of an element is read without the blank rest of its first line and the blank front of
-- its last one. The opening is one line of code of the parent.
abbrev pub element_child : List Row → ℕ → Tag → TagBlock → Block
element_child rows parent tag element = record {
  language = element_language rows parent tag element.value;
  contents = trim_outer_lines element.contents;
  size = element.size;
  share = record { blanks = 0; code = 1; comments = 0 };
}

-- the child that an element at this place of the part is, where one stands there
abbrev pub element_at : List Row → ℕ → Tag → List ℕ → ℕ → List ℕ → Option Block
element_at rows parent tag part place rest =
    option_map (element_child rows parent tag) (tag_block tag part place rest)

-- the first that there is
abbrev pub first_block : Option Block → Option Block → Option Block
first_block None found = found
first_block (Some k) found = Some k

-- the child that opens at a place of the part, by any of the three tags; `rest` is the text from
-- the place on
abbrev pub html_block : List Row → ℕ → List ℕ → ℕ → List ℕ → Option Block
html_block rows parent part place rest =
    first_block (element_at rows parent Script part place rest) (
    first_block (element_at rows parent Style part place rest)
    (element_at rows parent Template part place rest))
