use Rattle.std.proofs.Common.{◌≡◌, ◌+◌, ◌∙◌, length, drop, sym, arith, inl, inr}
use Rattle.tokei_table.specs.Families.{family_of}
use Rattle.tokei_table.specs.Family.TheVariants.{Markdown, HtmlLike, LinguaFranca, Plain, Rust, Jupyter}
use Rattle.tokei_embedding.specs.DocComments.{first_line}
use Rattle.tokei_parts.specs.ReadingOf.{row_in}
use Rattle.tokei_parts.proofs.LineEnds.{end_within, end_is, end_behind}
use Rattle.tokei_parts.proofs.PartWhole.{block_is}
use Rattle.tokei_parts.proofs.openings.block_at.Goals as goal

pub line_stop-to-requires : goal.line_stop-to-requires
line_stop-to-requires c = end_within c.args.place.now.reading.now.text.now c.args.place.now.at c.args.place.now.end c.requires.here.part.high c.requires.here.line

pub markdown_block-requires-clause-inside : goal.markdown_block-requires-clause-inside
markdown_block-requires-clause-inside c =
    end_behind c.args.place.now.reading.now.text.now c.args.place.now.at c.args.place.now.end
    c.line_stop-to.result c.requires.here.part.high c.requires.here.line c.requires.some
    c.line_stop-to.ensures.more c.line_stop-to.ensures.last

pub returns-in-Markdown-clause-block : goal.returns-in-Markdown-clause-block
returns-in-Markdown-clause-block c =
    let line : c.line_stop-to.result
    ≡ c.args.place.now.at
    + length (first_line (drop c.args.place.now.at c.args.place.now.reading.now.text.now)) =
    end_is c.args.place.now.reading.now.text.now c.args.place.now.at c.args.place.now.end
    c.line_stop-to.result c.requires.here.part.high c.requires.here.line
    c.line_stop-to.ensures.more c.line_stop-to.ensures.last in
    let family : family_of (row_in c.args.place.now.reading.now).key ≡ Markdown = sym c.args.place.now.reading.now.opens ∙ c.in-Markdown.is in
    c.markdown_block.ensures
    ∙ block_is c.args.place.now.reading.now.text.now c.args.place.now.behind_child
    c.args.place.now.start c.args.place.now.at c.line_stop-to.result c.requires.here.part
    line c.args.place.now.reading.now.table.now c.args.place.now.reading.now.language
    c.args.place.now.reading.now.levels Markdown family c.if-reading-eq0.false

pub html_block-requires-clause-inside : goal.html_block-requires-clause-inside
html_block-requires-clause-inside c =
    end_behind c.args.place.now.reading.now.text.now c.args.place.now.at c.args.place.now.end
    c.line_stop-to.result c.requires.here.part.high c.requires.here.line c.requires.some
    c.line_stop-to.ensures.more c.line_stop-to.ensures.last

pub returns-in-HtmlLike-clause-block : goal.returns-in-HtmlLike-clause-block
returns-in-HtmlLike-clause-block c =
    let line : c.line_stop-to.result
    ≡ c.args.place.now.at
    + length (first_line (drop c.args.place.now.at c.args.place.now.reading.now.text.now)) =
    end_is c.args.place.now.reading.now.text.now c.args.place.now.at c.args.place.now.end
    c.line_stop-to.result c.requires.here.part.high c.requires.here.line
    c.line_stop-to.ensures.more c.line_stop-to.ensures.last in
    let family : family_of (row_in c.args.place.now.reading.now).key ≡ HtmlLike = sym c.args.place.now.reading.now.opens ∙ c.in-HtmlLike.is in
    c.html_block.ensures.block
    ∙ block_is c.args.place.now.reading.now.text.now c.args.place.now.behind_child
    c.args.place.now.start c.args.place.now.at c.line_stop-to.result c.requires.here.part
    line c.args.place.now.reading.now.table.now c.args.place.now.reading.now.language
    c.args.place.now.reading.now.levels HtmlLike family c.if-reading-eq0.false

pub franca_block-requires-clause-inside : goal.franca_block-requires-clause-inside
franca_block-requires-clause-inside c =
    end_behind c.args.place.now.reading.now.text.now c.args.place.now.at c.args.place.now.end
    c.line_stop-to.result c.requires.here.part.high c.requires.here.line c.requires.some
    c.line_stop-to.ensures.more c.line_stop-to.ensures.last

pub returns-in-LinguaFranca-clause-block : goal.returns-in-LinguaFranca-clause-block
returns-in-LinguaFranca-clause-block c =
    let line : c.line_stop-to.result
    ≡ c.args.place.now.at
    + length (first_line (drop c.args.place.now.at c.args.place.now.reading.now.text.now)) =
    end_is c.args.place.now.reading.now.text.now c.args.place.now.at c.args.place.now.end
    c.line_stop-to.result c.requires.here.part.high c.requires.here.line
    c.line_stop-to.ensures.more c.line_stop-to.ensures.last in
    let family : family_of (row_in c.args.place.now.reading.now).key ≡ LinguaFranca = sym c.args.place.now.reading.now.opens ∙ c.in-LinguaFranca.is in
    c.franca_block.ensures.block
    ∙ block_is c.args.place.now.reading.now.text.now c.args.place.now.behind_child
    c.args.place.now.start c.args.place.now.at c.line_stop-to.result c.requires.here.part
    line c.args.place.now.reading.now.table.now c.args.place.now.reading.now.language
    c.args.place.now.reading.now.levels LinguaFranca family c.if-reading-eq0.false

pub rust_block-requires-clause-inside : goal.rust_block-requires-clause-inside
rust_block-requires-clause-inside c =
    omega (arith, c.requires.some, end_within c.args.place.now.reading.now.text.now c.args.place.now.at c.args.place.now.end c.requires.here.part.high c.requires.here.line)

pub returns-in-Rust-clause-block : goal.returns-in-Rust-clause-block
returns-in-Rust-clause-block c =
    let line : c.line_stop-to.result
    ≡ c.args.place.now.at
    + length (first_line (drop c.args.place.now.at c.args.place.now.reading.now.text.now)) =
    end_is c.args.place.now.reading.now.text.now c.args.place.now.at c.args.place.now.end
    c.line_stop-to.result c.requires.here.part.high c.requires.here.line
    c.line_stop-to.ensures.more c.line_stop-to.ensures.last in
    c.rust_block.ensures.block
    ∙ block_is c.args.place.now.reading.now.text.now c.args.place.now.behind_child
    c.args.place.now.start c.args.place.now.at c.line_stop-to.result c.requires.here.part
    line c.args.place.now.reading.now.table.now c.args.place.now.reading.now.language
    c.args.place.now.reading.now.levels Rust (sym c.args.place.now.reading.now.opens ∙ c.in-Rust.is) c.if-reading-eq0.false

pub returns-in-Plain-clause-block : goal.returns-in-Plain-clause-block
returns-in-Plain-clause-block c =
    let line : c.line_stop-to.result
    ≡ c.args.place.now.at
    + length (first_line (drop c.args.place.now.at c.args.place.now.reading.now.text.now)) =
    end_is c.args.place.now.reading.now.text.now c.args.place.now.at c.args.place.now.end
    c.line_stop-to.result c.requires.here.part.high c.requires.here.line
    c.line_stop-to.ensures.more c.line_stop-to.ensures.last in
    elim c.in-Plain.is [
      | inl e ↦ block_is c.args.place.now.reading.now.text.now c.args.place.now.behind_child
          c.args.place.now.start c.args.place.now.at c.line_stop-to.result c.requires.here.part
          line c.args.place.now.reading.now.table.now c.args.place.now.reading.now.language
          c.args.place.now.reading.now.levels Plain (sym c.args.place.now.reading.now.opens ∙ e) c.if-reading-eq0.false
      | inr e ↦ block_is c.args.place.now.reading.now.text.now c.args.place.now.behind_child
          c.args.place.now.start c.args.place.now.at c.line_stop-to.result c.requires.here.part
          line c.args.place.now.reading.now.table.now c.args.place.now.reading.now.language
          c.args.place.now.reading.now.levels Jupyter (sym c.args.place.now.reading.now.opens ∙ e) c.if-reading-eq0.false
    ]
