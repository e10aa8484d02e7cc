use Rattle.std.proofs.Common.{◌≡◌, ℕ, ◌-◌, ◌<◌, None, List, length, take, drop, sym, ap, subst, ◌∙◌, arith, length-drop, option_map, inl, inr}
use Rattle.std.specs.Prelude.{option_and_then}
use Rattle.tokei_table.specs.Families.{family_of}
use Rattle.tokei_table.specs.Family.TheVariants.{Markdown, HtmlLike, LinguaFranca, Plain, Rust, Jupyter}
use Rattle.tokei_embedding.specs.Tags.{tag_block}
use Rattle.tokei_embedding.specs.declared.tags.Tag.{Tag}
use Rattle.tokei_embedding.specs.declared.tags.Tag.TheVariants.{Script, Style, Template}
use Rattle.tokei_parts.specs.Tally.{blocks_at}
use Rattle.tokei_parts.specs.Openings.{block_in}
use Rattle.tokei_parts.specs.RustChildren.{doc_child}
use Rattle.tokei_parts.specs.LinguaFrancaChildren.{target_child}
use Rattle.tokei_parts.specs.MarkdownChildren.{fence_child}
use Rattle.tokei_parts.specs.ReadingOf.{row_in}
use Rattle.tokei_parts.proofs.Lines.{first_within}
use Rattle.tokei_parts.proofs.PartWhole.{block_later, none_of_three}
use Rattle.tokei_parts.proofs.openings.next_child.Goals as goal

pub next_fence-requires-clause-ends : goal.next_fence-requires-clause-ends
next_fence-requires-clause-ends c =
    omega (
      arith,
      c.requires.line,
      first_within (drop c.args.place.now.at c.args.place.now.reading.now.text.now),
      length-drop c.args.place.now.at c.args.place.now.reading.now.text.now,
      c.requires.here.part.high,
    )

pub next_element-requires-clause-ends : goal.next_element-requires-clause-ends
next_element-requires-clause-ends c =
    omega (
      arith,
      c.requires.line,
      ap length c.requires.searched,
      first_within (drop c.args.place.now.at c.args.place.now.reading.now.text.now),
      length-drop c.args.place.now.at c.args.place.now.reading.now.text.now,
      c.requires.here.part.high,
    )

pub next_doc-requires-clause-ends : goal.next_doc-requires-clause-ends
next_doc-requires-clause-ends c =
    omega (
      arith,
      c.requires.line,
      first_within (drop c.args.place.now.at c.args.place.now.reading.now.text.now),
      length-drop c.args.place.now.at c.args.place.now.reading.now.text.now,
      c.requires.here.part.high,
    )

pub next_target-requires-clause-ends : goal.next_target-requires-clause-ends
next_target-requires-clause-ends c =
    omega (
      arith,
      c.requires.line,
      first_within (drop c.args.place.now.at c.args.place.now.reading.now.text.now),
      length-drop c.args.place.now.at c.args.place.now.reading.now.text.now,
      c.requires.here.part.high,
    )

pub returns-in-Markdown-clause-childless : goal.returns-in-Markdown-clause-childless
returns-in-Markdown-clause-childless c = λ p low high.
    let family : family_of (row_in c.args.place.now.reading.now).key ≡ Markdown = sym c.args.place.now.reading.now.opens ∙ c.in-Markdown.is in
    let inside : p < c.args.to = omega (arith, high, c.next_fence.ensures.high) in
    sym (block_later c.args.place.now.reading.now.text.now c.args.place.now.behind_child
    c.args.place.now.start c.args.place.now.at c.args.to p c.requires.here.part
    c.requires.line low inside c.args.place.now.reading.now.table.now
    c.args.place.now.reading.now.language c.args.place.now.reading.now.levels Markdown
    family (λ e. omega (arith, e, c.if-reading-lt1.false)))
    ∙ ap (option_and_then (fence_child c.args.place.now.reading.now.table.now))
    (c.next_fence.ensures.none p low high)

pub returns-in-HtmlLike-clause-childless : goal.returns-in-HtmlLike-clause-childless
returns-in-HtmlLike-clause-childless c = λ p low high.
    let family : family_of (row_in c.args.place.now.reading.now).key ≡ HtmlLike = sym c.args.place.now.reading.now.opens ∙ c.in-HtmlLike.is in
    let none =
    λ (tag : Tag). subst
    (λ (t : List ℕ). tag_block tag
    (take (c.args.to - c.args.place.now.start) (drop c.args.place.now.start t))
    (p - c.args.place.now.start) (drop p t)
    ≡ None)
    c.requires.searched (c.next_element.ensures.none tag p low high) in
    let inside : p < c.args.to = omega (arith, high, c.next_element.ensures.high) in
    sym (block_later c.args.place.now.reading.now.text.now c.args.place.now.behind_child
    c.args.place.now.start c.args.place.now.at c.args.to p c.requires.here.part
    c.requires.line low inside c.args.place.now.reading.now.table.now
    c.args.place.now.reading.now.language c.args.place.now.reading.now.levels HtmlLike
    family (λ e. omega (arith, e, c.if-reading-lt1.false)))
    ∙ none_of_three c.args.place.now.reading.now.table.now c.args.place.now.reading.now.language
    (take (c.args.to - c.args.place.now.start)
    (drop c.args.place.now.start c.args.place.now.reading.now.text.now))
    (p - c.args.place.now.start) (drop p c.args.place.now.reading.now.text.now)
    (none Script) (none Style) (none Template)

pub returns-in-LinguaFranca-clause-childless : goal.returns-in-LinguaFranca-clause-childless
returns-in-LinguaFranca-clause-childless c = λ p low high.
    let family : family_of (row_in c.args.place.now.reading.now).key ≡ LinguaFranca = sym c.args.place.now.reading.now.opens ∙ c.in-LinguaFranca.is in
    let inside : p < c.args.to = omega (arith, high, c.next_target.ensures.high) in
    sym (block_later c.args.place.now.reading.now.text.now c.args.place.now.behind_child
    c.args.place.now.start c.args.place.now.at c.args.to p c.requires.here.part
    c.requires.line low inside c.args.place.now.reading.now.table.now
    c.args.place.now.reading.now.language c.args.place.now.reading.now.levels LinguaFranca
    family (λ e. omega (arith, e, c.if-reading-lt1.false)))
    ∙ ap
    (option_map (target_child c.args.place.now.reading.now.table.now
    c.args.place.now.reading.now.language c.args.place.now.reading.now.text.now))
    (c.next_target.ensures.none p low high)

pub returns-in-Rust-clause-childless : goal.returns-in-Rust-clause-childless
returns-in-Rust-clause-childless c = λ p low high.
    let inside : p < c.args.to = omega (arith, high, c.next_doc.ensures.high) in
    sym (block_later c.args.place.now.reading.now.text.now c.args.place.now.behind_child
    c.args.place.now.start c.args.place.now.at c.args.to p c.requires.here.part
    c.requires.line low inside c.args.place.now.reading.now.table.now
    c.args.place.now.reading.now.language c.args.place.now.reading.now.levels Rust
    (sym c.args.place.now.reading.now.opens ∙ c.in-Rust.is) (λ e. omega (arith, e, c.if-reading-lt1.false)))
    ∙ ap (option_map (doc_child c.args.place.now.reading.now.table.now c.args.place.now.reading.now.language)) (c.next_doc.ensures.none p low high)

pub returns-in-Plain-clause-childless : goal.returns-in-Plain-clause-childless
returns-in-Plain-clause-childless c = λ p low high. elim c.in-Plain.is [
  | inl f ↦ sym (block_later c.args.place.now.reading.now.text.now c.args.place.now.behind_child
      c.args.place.now.start c.args.place.now.at c.args.to p c.requires.here.part
      c.requires.line low high c.args.place.now.reading.now.table.now
      c.args.place.now.reading.now.language c.args.place.now.reading.now.levels Plain
      (sym c.args.place.now.reading.now.opens ∙ f) (λ e. omega (arith, e, c.if-reading-lt1.false)))
  | inr f ↦ sym (block_later c.args.place.now.reading.now.text.now c.args.place.now.behind_child
      c.args.place.now.start c.args.place.now.at c.args.to p c.requires.here.part
      c.requires.line low high c.args.place.now.reading.now.table.now
      c.args.place.now.reading.now.language c.args.place.now.reading.now.levels Jupyter
      (sym c.args.place.now.reading.now.opens ∙ f) (λ e. omega (arith, e, c.if-reading-lt1.false)))
]

pub returns-then-reading-lt1-clause-childless : goal.returns-then-reading-lt1-clause-childless
returns-then-reading-lt1-clause-childless c = λ p low high.
    let reading = c.args.place.now.reading.now in
    let none : reading.levels ≡ 0 = omega (arith, c.if-reading-lt1.true) in
    ap (λ n. blocks_at (block_in reading.table.now) n reading.language reading.text.now c.args.place.now.behind_child (drop p reading.text.now)) none
