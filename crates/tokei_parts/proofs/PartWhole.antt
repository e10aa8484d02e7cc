-- The part of a place, in the text.
use Rattle.std.proofs.Common.{◌≡◌, ℕ, suc, zero, ◌+◌, ◌-◌, ◌<◌, ◌≤◌, List, ◌++◌, length, take, drop, None, option_map, refl, sym, ◌∙◌, ap, subst, arith, take-add, length-drop, length-take, length-append}
use Rattle.std.proofs.lemmas.List.{drop-drop}
use Rattle.tokei_table.specs.Row.{Row}
use Rattle.tokei_table.specs.Lookups.{row_at}
use Rattle.tokei_table.specs.Families.{family_of}
use Rattle.tokei_table.specs.Family.{Family}
use Rattle.tokei_embedding.specs.DocComments.{first_line}
use Rattle.tokei_table_row.specs.Bytes.{line_len}
use Rattle.tokei_parts.specs.Openings.{block_by, block_in}
use Rattle.tokei_parts.specs.Parts.{part_front}
use Rattle.tokei_parts.specs.Tally.{blocks_at}
use Rattle.tokei_parts.specs.Progress.{IsPart}
use Rattle.tokei_embedding.specs.Tags.{tag_block}
use Rattle.tokei_embedding.specs.declared.tags.Tag.TheVariants.{Script, Style, Template}
use Rattle.tokei_parts.specs.HtmlChildren.{element_child, element_at, first_block, html_block}
use Rattle.tokei_parts.proofs.LineEnds.{first_line-high}
use Rattle.tokei_parts.proofs.Lines.{take-first, first_within}
use Rattle.tokei_parts.proofs.PartFronts.{part_on}
use Rattle.tokei_parts.proofs.PartReading.{line_from}

module _ (text : List ℕ) (l start at to : ℕ) (p : IsPart text l start at) (line : to ≡ at + length (first_line (drop at text))) where
  place_is : drop (at - start) (drop start text) ≡ drop at text
  place_is = let e : start + (at - start) ≡ at = omega (arith, p.low) in drop-drop (at - start) start text ∙ ap (λ m. drop m text) e

  -- the bytes before the place, and those of its line
  part_whole : take (to - start) (drop start text) ≡ part_front text l (drop at text) ++ first_line (drop at text)
  part_whole =
      let u : List ℕ = drop at text in
      let e : to - start ≡ (at - start) + length (first_line u) = omega (arith, p.low, line) in
      ap (λ n. take n (drop start text)) e
      ∙ take-add (at - start) (length (first_line u)) (drop start text)
      ∙ ap (λ w. take (at - start) (drop start text) ++ take (length (first_line u)) w) place_is
      ∙ ap (λ w. take (at - start) (drop start text) ++ w) (take-first u)
      ∙ ap (λ w. w ++ first_line u) (sym p.front)

  part_len : at - start ≡ length (part_front text l (drop at text))
  part_len = sym (ap length p.front ∙ omega (arith, length-take (at - start) (drop start text), length-drop start text, p.low, p.high))

  pub block_is : (rows : List Row) (language levels : ℕ) (f : Family) → family_of (row_at rows language).key ≡ f → (levels ≡ 0 → ⊥)
      → block_by f rows language text (take (to - start) (drop start text)) (at - start) (drop at text) ≡ blocks_at (block_in rows) levels language text l (drop at text)
  block_is rows language zero f e z = absurd (z refl)
  block_is rows language (suc n) f e z =
      ap (λ w. block_by f rows language text w (at - start) (drop at text)) part_whole
      ∙ ap (λ k. block_by f rows language text (part_front text l (drop at text) ++ first_line (drop at text)) k (drop at text)) part_len
      ∙ ap (λ g. block_by g rows language text (part_front text l (drop at text) ++ first_line (drop at text)) (length (part_front text l (drop at text))) (drop at text)) (sym e)

-- the same of a later place of the part
pub block_later : (text : List ℕ) (l start at to place : ℕ) → IsPart text l start at
    → to ≡ at + length (first_line (drop at text)) → at ≤ place → place < to
    → (rows : List Row) (language levels : ℕ) (f : Family)
    → family_of (row_at rows language).key ≡ f → (levels ≡ 0 → ⊥)
    → block_by f rows language text (take (to - start) (drop start text)) (place - start) (drop place text) ≡ blocks_at (block_in rows) levels language text l (drop place text)
block_later text l start at to place p line low high rows language levels f e z =
    let n : ℕ = place - at in
    let there : at + n ≡ place = omega (arith, low) in
    let inside : n ≤ line_len (drop at text) = omega (arith, line, high, low, first_line-high (drop at text)) in
    let part : IsPart text l start place = subst (IsPart text l start) there (part_on text l start at n p inside) in
    let rest : drop n (drop at text) ≡ drop place text = drop-drop n at text ∙ ap (λ m. drop m text) there in
    let len : length (take n (drop at text)) + length (first_line (drop n (drop at text)))
    ≡ length (first_line (drop at text)) =
    sym (length-append (take n (drop at text)) (first_line (drop n (drop at text))))
    ∙ ap length (line_from n (drop at text) inside) in
    let whole : to ≡ place + length (first_line (drop place text)) =
    omega (
      arith,
      line,
      len,
      ap (λ w. length (first_line w)) rest,
      length-take n (drop at text),
      first_within (drop at text),
      high,
      low,
    ) in
    block_is text l start place to part whole rows language levels f e z

-- where none of the three tags opens no element does
pub none_of_three : (rows : List Row) (parent : ℕ) (part : List ℕ) (place : ℕ) (rest : List ℕ)
    → tag_block Script part place rest ≡ None → tag_block Style part place rest ≡ None
    → tag_block Template part place rest ≡ None → html_block rows parent part place rest ≡ None
none_of_three rows parent part place rest e f h =
    ap (λ o. first_block (option_map (element_child rows parent Script) o) (first_block (element_at rows parent Style part place rest) (element_at rows parent Template part place rest))) e
    ∙ ap (λ o. first_block (option_map (element_child rows parent Style) o) (element_at rows parent Template part place rest)) f
    ∙ ap (option_map (element_child rows parent Template)) h
