-- Where a child opens in a text, by the family of the text's language.
use Rattle.std.specs.Prelude.{ℕ, List, ◌++◌, length, Option, None}
use Rattle.tokei_table.specs.Row.{Row}
use Rattle.tokei_table.specs.Lookups.{row_at}
use Rattle.tokei_table.specs.Families.{family_of}
use Rattle.tokei_table.specs.Family.{Family}
use Rattle.tokei_table.specs.Family.TheVariants.{Plain, Markdown, HtmlLike, Rust, LinguaFranca, Jupyter}
use Rattle.tokei_embedding.specs.DocComments.{first_line}
use Rattle.tokei_parts.specs.Items.{Block}
use Rattle.tokei_parts.specs.Parts.{part_front}
use Rattle.tokei_parts.specs.MarkdownChildren.{markdown_block}
use Rattle.tokei_parts.specs.HtmlChildren.{html_block}
use Rattle.tokei_parts.specs.RustChildren.{rust_block}
use Rattle.tokei_parts.specs.LinguaFrancaChildren.{franca_block}

-- The child that opens at a place of a part, in a language of the family; `rest` is the text from
-- the place on. Plain languages have no children, and a notebook's cells aren't found in parts.
abbrev pub block_by : Family → List Row → ℕ → List ℕ → List ℕ → ℕ → List ℕ → Option Block
block_by Plain rows language text part place rest = None
block_by Markdown rows language text part place rest = markdown_block rows part place rest
block_by HtmlLike rows language text part place rest = html_block rows language part place rest
block_by Rust rows language text part place rest = rust_block rows language rest
block_by LinguaFranca rows language text part place rest =
    franca_block rows language text part place rest
block_by Jupyter rows language text part place rest = None

-- The child that opens where `rest` is left of the text, and so many bytes were left behind the
-- last child. The part there is the reach of the place: from the later of its line's start and the
-- last child's end, through the next newline.
abbrev pub block_in : List Row → ℕ → List ℕ → ℕ → List ℕ → Option Block
block_in rows language text behind rest =
    let front = part_front text behind rest in
    block_by (family_of (row_at rows language).key) rows language text (front ++ first_line rest)
    (length front) rest
