-- No child opens at a place whose line holds no opener.
use Rattle.std.proofs.Common.{◌≡◌, ℕ, zero, suc, ◌<◌, Bool, true, false, ◌||◌, List, [], ◌∷◌, ◌++◌, length, drop, codes, None, option_map, is_some, refl, sym, ◌∙◌, ap, arith}
use Rattle.std.specs.Prelude.{option_and_then}
use Rattle.tokei_table.specs.Bytes.{begins, begins_with_one, line_len}
use Rattle.tokei_table.specs.Families.{family_of}
use Rattle.tokei_table.specs.FirstOpener.{first_opener}
use Rattle.tokei_table.specs.Lookups.{row_at}
use Rattle.tokei_table.specs.Openers.{starts_of, important_syntax, child_openers, openers}
use Rattle.tokei_table.specs.Row.{Row}
use Rattle.tokei_table.specs.Family.{Family}
use Rattle.tokei_table.specs.Family.TheVariants.{Plain, Markdown, HtmlLike, Rust, LinguaFranca, Jupyter}
use Rattle.tokei_embedding.specs.BlockLaws.{BeginWithOpeners}
use Rattle.tokei_embedding.specs.declared.tags.Tag.TheVariants.{Script, Style, Template}
use Rattle.tokei_embedding.proofs.Openers.{begin_with_openers}
use Rattle.tokei_parts.specs.Glance.{holds}
use Rattle.tokei_embedding.specs.DocComments.{first_line}
use Rattle.tokei_parts.specs.MarkdownChildren.{fence_child}
use Rattle.tokei_parts.specs.HtmlChildren.{element_child, element_at, first_block}
use Rattle.tokei_parts.specs.RustChildren.{doc_child}
use Rattle.tokei_parts.specs.LinguaFrancaChildren.{target_child}
use Rattle.tokei_count.specs.Languages.{languages_of}
use Rattle.tokei_parts.specs.Openings.{block_by, block_in}
use Rattle.tokei_parts.specs.Parts.{part_front}
use Rattle.tokei_count.specs.PlainReading.{blocks}
use Rattle.tokei_parts.proofs.Blocks.{drop_front}
use Rattle.tokei_parts.proofs.OpenersInLines.{none_here, none_later, holds-back}

begins_none : (f : Family) (u : List ℕ) → first_opener (child_openers f) u ≡ None → begins_with_one (child_openers f) u ≡ false
unfolding begins_with_one
begins_none Plain [] h = refl
begins_none Markdown [] h = refl
begins_none HtmlLike [] h = refl
begins_none Rust [] h = refl
begins_none LinguaFranca [] h = refl
begins_none Jupyter [] h = refl
begins_none f (b ∷ t) h = none_here (child_openers f) b t (ap is_some h)

first_of : (x y : Bool) → (x || y) ≡ false → x ≡ false
first_of true y h = cc
first_of false y h = refl

rest_of : (x y : Bool) → (x || y) ≡ false → y ≡ false
rest_of true y h = cc
rest_of false y h = h

module _ (rows : List Row) (language : ℕ) (text part : List ℕ) (place : ℕ) (rest line : List ℕ) (there : drop place part ≡ line) where
  laws : BeginWithOpeners part rest place
  laws = begin_with_openers part rest place

  none_by : (f : Family) → line ≡ first_line rest → first_opener (child_openers f) line ≡ None → block_by f rows language text part place rest ≡ None
  unfolding begins_with_one
  none_by Plain e h = refl
  none_by Markdown e h =
      let n = begins_none Markdown line h in
      ap (option_and_then (fence_child rows)) (laws.fences (ap (begins (codes "```")) there ∙ first_of (begins (codes "```") line) _ n))
  none_by HtmlLike e h =
      let n = begins_none HtmlLike line h in
      let n1 = rest_of (begins (codes "<script") line) _ n in
      let n2 = rest_of (begins (codes "<style") line) _ n1 in
      ap
      (λ o. first_block (option_map (element_child rows language Script) o)
      (first_block (element_at rows language Style part place rest)
      (element_at rows language Template part place rest)))
      (laws.tags Script
      (ap (begins (codes "<script")) there ∙ first_of (begins (codes "<script") line) _ n))
      ∙ ap
      (λ o. first_block (option_map (element_child rows language Style) o)
      (element_at rows language Template part place rest))
      (laws.tags Style
      (ap (begins (codes "<style")) there ∙ first_of (begins (codes "<style") line) _ n1))
      ∙ ap (option_map (element_child rows language Template)) (laws.tags Template (ap (begins (codes "<template")) there ∙ first_of (begins (codes "<template") line) _ n2))
  none_by Rust e h = ap (option_map (doc_child rows language)) (laws.docs (ap (first_opener (child_openers Rust)) (sym e) ∙ h))
  none_by LinguaFranca e h =
      let n = begins_none LinguaFranca line h in
      ap (option_map (target_child rows language text)) (laws.targets (ap (begins (codes "{=")) there ∙ first_of (begins (codes "{=") line) _ n))
  none_by Jupyter e h = refl

-- of the openers of a row those of its children are the last
child_opener-none : (r : Row) (u : List ℕ) → holds (openers r) u ≡ false → first_opener (child_openers (family_of r.key)) u ≡ None
child_opener-none r u h =
    let back = holds-back (important_syntax r) (starts_of r.verbatim_quotes ++ child_openers (family_of r.key)) u h in
    holds-back (starts_of r.verbatim_quotes) (child_openers (family_of r.key)) u (ap is_some back)

quiet_block : (rows : List Row) (language : ℕ) (text : List ℕ) (l : ℕ) (rest : List ℕ) → holds (openers (row_at rows language)) (first_line rest) ≡ false → block_in rows language text l rest ≡ None
quiet_block rows language text l rest h =
    let front = part_front text l rest in
    none_by rows language text (front ++ first_line rest) (length front) rest (first_line rest)
    (drop_front front (first_line rest)) (family_of (row_at rows language).key) refl
    (child_opener-none (row_at rows language) (first_line rest) h)

pub quiet_blocks : (rows : List Row) (levels language : ℕ) (text : List ℕ) (l : ℕ) (u : List ℕ) → holds (openers (row_at rows language)) (first_line u) ≡ false
    → (n : ℕ) → n < line_len u → blocks (languages_of rows) levels language text l (drop n u) ≡ None
quiet_blocks rows zero language text l u h n i = refl
quiet_blocks rows (suc levels) language text l u h n i = quiet_block rows language text l (drop n u) (none_later (openers (row_at rows language)) n u (omega (arith, i)) h)
