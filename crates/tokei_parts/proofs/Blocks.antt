-- The blocks of a reading fit their text.
use Rattle.std.proofs.Common.{◌≡◌, ℕ, zero, suc, ◌<◌, ◌≤◌, List, ◌∷◌, ◌++◌, length, drop, Option, None, Some, option_map, refl, sym, ◌∙◌, ap, subst, arith}
use Rattle.std.specs.Prelude.{option_and_then}
use Rattle.std.proofs.lemmas.List.{take-append-drop}
use Rattle.std.proofs.Math.Seq.{drop-append_seam}
use Rattle.tokei_table.specs.Row.{Row}
use Rattle.tokei_table.specs.Lookups.{row_at}
use Rattle.tokei_table.specs.Families.{family_of}
use Rattle.tokei_table.specs.Family.{Family}
use Rattle.tokei_table.specs.Family.TheVariants.{Plain, Markdown, HtmlLike, Rust, LinguaFranca, Jupyter}
use Rattle.tokei_embedding.specs.Fences.{fence_block}
use Rattle.tokei_embedding.specs.Tags.{tag_block}
use Rattle.tokei_embedding.specs.DocComments.{doc_block, first_line}
use Rattle.tokei_embedding.specs.TargetBlocks.{target_block}
use Rattle.tokei_embedding.specs.declared.tags.Tag.{Tag}
use Rattle.tokei_embedding.specs.declared.tags.Tag.TheVariants.{Script, Style, Template}
use Rattle.tokei_embedding.specs.BlockLaws.{Reaches}
use Rattle.tokei_embedding.proofs.BlockLaws.{fence_reach, tag_reach, target_reach}
use Rattle.tokei_embedding.proofs.DocLaws.{doc_reach}
use Rattle.tokei_embedding.proofs.Newlines.{none_at_newline}
use Rattle.tokei_parts.proofs.Lines.{take-first}
use Rattle.tokei_parts.specs.Items.{Block}
use Rattle.tokei_parts.specs.Derivation.{no_child}
use Rattle.tokei_parts.specs.MarkdownChildren.{known_piece, fence_as, fence_child}
use Rattle.tokei_parts.specs.HtmlChildren.{element_child, element_at, first_block}
use Rattle.tokei_parts.specs.RustChildren.{doc_child}
use Rattle.tokei_parts.specs.LinguaFrancaChildren.{target_child}
use Rattle.tokei_parts.specs.Openings.{block_by, block_in}
use Rattle.tokei_parts.specs.Parts.{part_front}
use Rattle.tokei_parts.specs.Tally.{blocks_at}
use Rattle.tokei_parts.specs.Progress.{FitsBlocks}
use Rattle.tokei_parts.specs.ReadingOf.{blocks_of}
use Rattle.tokei_parts.specs.declared.reading.Reading.{Reading}

-- a block takes a byte at least and no more than there are
pub record IsWithin (k : Block) (rest : List ℕ) : Type 0 where
  pub some : 0 < k.size
  pub within : k.size ≤ length rest

reaches : (k : Block) (n : ℕ) (contents rest : List ℕ) → k.size ≡ n → Reaches n contents rest → IsWithin k rest
reaches k n contents rest e h = record { some = omega (arith, h.some); within = omega (arith, h.within) }

mapped : {A : Type 0} (f : A → Block) (o : Option A) (k : Block) (rest : List ℕ) → ((a : A) → o ≡ Some a → IsWithin (f a) rest) → option_map f o ≡ Some k → IsWithin k rest
mapped f None k rest g e = cc
mapped f (Some a) k rest g e = let same : f a ≡ k = cc in subst (λ (b : Block). IsWithin b rest) same (g a refl)

chained : {A : Type 0} (f : A → Option Block) (o : Option A) (k : Block) (rest : List ℕ) → ((a : A) → o ≡ Some a → f a ≡ Some k → IsWithin k rest) → option_and_then f o ≡ Some k → IsWithin k rest
chained f None k rest g e = cc
chained f (Some a) k rest g e = g a refl e

first_of_two : (p q : Option Block) (k : Block) (rest : List ℕ) → (p ≡ Some k → IsWithin k rest) → (q ≡ Some k → IsWithin k rest) → first_block p q ≡ Some k → IsWithin k rest
first_of_two None q k rest f g e = g e
first_of_two (Some b) q k rest f g e = f e

module _ (rows : List Row) (language : ℕ) (text : List ℕ) where
  element_within : (tag : Tag) (part : List ℕ) (place : ℕ) (rest : List ℕ) (k : Block) → element_at rows language tag part place rest ≡ Some k → IsWithin k rest
  element_within tag part place rest k e =
      mapped (element_child rows language tag) (tag_block tag part place rest) k rest
      (λ b f. reaches (element_child rows language tag b) b.size b.contents rest refl
      (tag_reach tag part rest place b f))
      e

  by_within : (f : Family) (part tail : List ℕ) (place : ℕ) (rest : List ℕ) (k : Block) → rest ≡ drop place part ++ tail → block_by f rows language text part place rest ≡ Some k → IsWithin k rest
  by_within Plain part tail place rest k r e = cc
  by_within Markdown part tail place rest k r e =
      chained (fence_child rows) (fence_block part place rest) k rest
      (λ b f g. mapped (fence_as b) (known_piece rows b.info) k rest (λ n h. reaches (fence_as b n) b.size b.contents rest refl (fence_reach part rest tail place b r f)) g) e
  by_within HtmlLike part tail place rest k r e =
      first_of_two (element_at rows language Script part place rest) (first_block (element_at rows language Style part place rest) (element_at rows language Template part place rest)) k rest
      (element_within Script part place rest k)
      (first_of_two (element_at rows language Style part place rest)
      (element_at rows language Template part place rest) k rest
      (element_within Style part place rest k) (element_within Template part place rest k))
      e
  by_within Rust part tail place rest k r e = mapped (doc_child rows language) (doc_block rest) k rest (λ b f. reaches (doc_child rows language b) b.size b.contents rest refl (doc_reach rest b f)) e
  by_within LinguaFranca part tail place rest k r e =
      mapped (target_child rows language text) (target_block part place rest) k rest
      (λ b f. reaches (target_child rows language text b) b.size b.contents rest refl
      (target_reach part rest tail place b r f))
      e
  by_within Jupyter part tail place rest k r e = cc

  by_newline : (f : Family) (part tail : List ℕ) (place : ℕ) (t : List ℕ) → 10 ∷ t ≡ drop place part ++ tail → block_by f rows language text part place (10 ∷ t) ≡ None
  by_newline Plain part tail place t r = refl
  by_newline Markdown part tail place t r = ap (option_and_then (fence_child rows)) (none_at_newline part t tail place r).fence
  by_newline HtmlLike part tail place t r =
      let n = none_at_newline part t tail place r in
      ap
      (λ o. first_block (option_map (element_child rows language Script) o)
      (first_block (element_at rows language Style part place (10 ∷ t))
      (element_at rows language Template part place (10 ∷ t))))
      (n.tag Script)
      ∙ ap (λ o. first_block (option_map (element_child rows language Style) o) (element_at rows language Template part place (10 ∷ t))) (n.tag Style)
      ∙ ap (option_map (element_child rows language Template)) (n.tag Template)
  by_newline Rust part tail place t r = ap (option_map (doc_child rows language)) (none_at_newline part t tail place r).doc
  by_newline LinguaFranca part tail place t r = ap (option_map (target_child rows language text)) (none_at_newline part t tail place r).target
  by_newline Jupyter part tail place t r = refl

-- the text from a place on is its line and what follows
line_then : (rest : List ℕ) → (tail : List ℕ) × (rest ≡ first_line rest ++ tail)
line_then rest = (drop (length (first_line rest)) rest, sym (ap (λ w. w ++ drop (length (first_line rest)) rest) (sym (take-first rest)) ∙ take-append-drop (length (first_line rest)) rest))

pub drop_front : (front line : List ℕ) → drop (length front) (front ++ line) ≡ line
drop_front front line = drop-append_seam front line

in_part : (front rest : List ℕ) → (tail : List ℕ) × (rest ≡ drop (length front) (front ++ first_line rest) ++ tail)
in_part front rest = let l = line_then rest in (l.0, l.1 ∙ ap (λ w. w ++ l.0) (sym (drop_front front (first_line rest))))

no_child_fits : FitsBlocks no_child
no_child_fits = record { in_line = record { none = λ l u. refl }; some = λ l t k e. cc; within = λ l t k e. cc }

block_in_fits : (rows : List Row) (language : ℕ) (text : List ℕ) → FitsBlocks (block_in rows language text)
block_in_fits rows language text = record {
  in_line =
      record {
        none = λ l u. let p = in_part (part_front text l (10 ∷ u)) (10 ∷ u) in by_newline
            rows language text (family_of (row_at rows language).key)
            (part_front text l (10 ∷ u) ++ first_line (10 ∷ u)) p.0
            (length (part_front text l (10 ∷ u))) u p.1;
      };
  some = λ l t k e. (held l t k e).some;
  within = λ l t k e. (held l t k e).within;
}
  where
    held : (l : ℕ) (t : List ℕ) (k : Block) → block_in rows language text l t ≡ Some k → IsWithin k t
    held l t k e =
        let p = in_part (part_front text l t) t
        in by_within rows language text (family_of (row_at rows language).key)
        (part_front text l t ++ first_line t) p.0 (length (part_front text l t)) t k p.1 e

pub by_levels : (rows : List Row) (language : ℕ) (text : List ℕ) (n : ℕ) → FitsBlocks (blocks_at (block_in rows) n language text)
by_levels rows language text zero = no_child_fits
by_levels rows language text (suc n) = block_in_fits rows language text

pub blocks_fit : (r : Reading) → FitsBlocks (blocks_of r)
blocks_fit r = by_levels r.table.now r.language r.text.now r.levels
