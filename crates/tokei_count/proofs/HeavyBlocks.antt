-- A block takes two bytes at least beside those that its child is read of, and it adds two lines at most to its parent.
use Rattle.std.proofs.Common.{◌≡◌, ℕ, zero, suc, ◌+◌, ◌-◌, ◌≤◌, Bool, true, false, cond, List, [], ◌∷◌, ◌++◌, length, take, drop, Option, None, Some, option_map, sym, ap, subst, refl, ◌∙◌, arith, length-drop}
use Rattle.std.specs.Prelude.{option_and_then}
use Rattle.std.proofs.lemmas.List.{take-append-drop}
use Rattle.tokei_table.specs.Bytes.{is_blank, all_blank, trim_start, trim_end, trim}
use Rattle.tokei_table.specs.OuterLines.{start_behind, end_behind, first_stop, last_stop, trim_outer_lines}
use Rattle.tokei_table.specs.Slices.{between}
use Rattle.tokei_table.specs.Row.{Row}
use Rattle.tokei_table.specs.Lookups.{row_at}
use Rattle.tokei_table.specs.Families.{family_of}
use Rattle.tokei_table.specs.Family.{Family}
use Rattle.tokei_table.specs.Family.TheVariants.{Plain, Markdown, HtmlLike, Rust, LinguaFranca, Jupyter}
use Rattle.tokei_embedding.specs.Fences.{fence_block}
use Rattle.tokei_embedding.specs.Tags.{tag_block}
use Rattle.tokei_embedding.specs.DocComments.{doc_block, first_line}
use Rattle.tokei_embedding.specs.TargetBlocks.{target_block}
use Rattle.tokei_embedding.specs.declared.tags.Tag.{Tag}
use Rattle.tokei_embedding.specs.declared.tags.Tag.TheVariants.{Script, Style, Template}
use Rattle.tokei_embedding.specs.BlockLaws.{Reaches}
use Rattle.tokei_embedding.proofs.BlockLaws.{fence_reach, tag_reach, target_reach}
use Rattle.tokei_embedding.proofs.DocLaws.{doc_reach}
use Rattle.tokei_stats.specs.Statistics.{lines_of}
use Rattle.tokei_parts.specs.Items.{Block}
use Rattle.tokei_parts.specs.MarkdownChildren.{known_piece, fence_as, fence_child}
use Rattle.tokei_parts.specs.HtmlChildren.{element_child, element_at, first_block}
use Rattle.tokei_parts.specs.RustChildren.{doc_child}
use Rattle.tokei_parts.specs.LinguaFrancaChildren.{target_child}
use Rattle.tokei_count.specs.Languages.{languages_of}
use Rattle.tokei_parts.specs.Openings.{block_by}
use Rattle.tokei_parts.specs.Parts.{part_front}
use Rattle.tokei_count.specs.PlainReading.{blocks}
use Rattle.tokei_parts.proofs.Lines.{take-first}
use Rattle.tokei_parts.proofs.Blocks.{drop_front}

-- what a block takes beside its contents, and how many lines it adds
pub record IsHeavy (k : Block) : Type 0 where
  pub holds : length k.contents + 2 ≤ k.size
  pub few : lines_of k.share ≤ 2

-- the trims leave no more than there is
start_less : (t : List ℕ) → length (trim_start t) ≤ length t
start_less [] = omega arith
start_less (b ∷ t) = by_test (is_blank b) (start_less t)
  where
    by_test : (x : Bool) → length (trim_start t) ≤ length t → length (cond x (trim_start t) (b ∷ t)) ≤ suc (length t)
    by_test true h = omega arith
    by_test false h = omega arith

end_less : (t : List ℕ) → length (trim_end t) ≤ length t
end_less [] = omega arith
end_less (b ∷ t) = by_test (all_blank (b ∷ t)) (end_less t)
  where
    by_test : (x : Bool) → length (trim_end t) ≤ length t → length (cond x [] (b ∷ trim_end t)) ≤ suc (length t)
    by_test true h = omega arith
    by_test false h = omega arith

trim_less : (t : List ℕ) → length (trim t) ≤ length t
trim_less t = omega (arith, start_less t, end_less (trim_start t))

take_less : (n : ℕ) (t : List ℕ) → length (take n t) ≤ length t
take_less zero t = omega arith
take_less (suc n) [] = omega arith
take_less (suc n) (b ∷ t) = omega (arith, take_less n t)

between_less : (t : List ℕ) (i j : ℕ) → length (between t i j) ≤ length t
between_less t i j = omega (arith, take_less (j - i) (drop i t), length-drop i t)

outer_less : (t : List ℕ) → length (trim_outer_lines t) ≤ length t
outer_less t = between_less t (start_behind (length t) (first_stop t)) (end_behind t (last_stop t))

heavy : (k : Block) (n : ℕ) (contents rest : List ℕ) → k.size ≡ n → length k.contents ≤ length contents → lines_of k.share ≤ 2 → Reaches n contents rest → IsHeavy k
heavy k n contents rest e less few h = record { holds = omega (arith, h.holds); few = few }

mapped : {A : Type 0} (f : A → Block) (o : Option A) (k : Block) → ((a : A) → o ≡ Some a → IsHeavy (f a)) → option_map f o ≡ Some k → IsHeavy k
mapped f None k g e = cc
mapped f (Some a) k g e = let same : f a ≡ k = cc in subst IsHeavy same (g a refl)

chained : {A : Type 0} (f : A → Option Block) (o : Option A) (k : Block) → ((a : A) → o ≡ Some a → f a ≡ Some k → IsHeavy k) → option_and_then f o ≡ Some k → IsHeavy k
chained f None k g e = cc
chained f (Some a) k g e = g a refl e

first_of_two : (p q : Option Block) (k : Block) → (p ≡ Some k → IsHeavy k) → (q ≡ Some k → IsHeavy k) → first_block p q ≡ Some k → IsHeavy k
first_of_two None q k f g e = g e
first_of_two (Some b) q k f g e = f e

fence_lines : (closed : Bool) → 0 + 0 + cond closed 2 1 ≤ 2
fence_lines true = omega arith
fence_lines false = omega arith

module _ (rows : List Row) (language : ℕ) (text : List ℕ) where
  element_heavy : (tag : Tag) (part : List ℕ) (place : ℕ) (rest : List ℕ) (k : Block) → element_at rows language tag part place rest ≡ Some k → IsHeavy k
  element_heavy tag part place rest k e = mapped (element_child rows language tag) (tag_block tag part place rest) k
      (λ b f. heavy (element_child rows language tag b) b.size b.contents rest refl (outer_less b.contents) (omega arith) (tag_reach tag part rest place b f)) e

  by_heavy : (f : Family) (part tail : List ℕ) (place : ℕ) (rest : List ℕ) (k : Block) → rest ≡ drop place part ++ tail → block_by f rows language text part place rest ≡ Some k → IsHeavy k
  by_heavy Plain part tail place rest k r e = cc
  by_heavy Markdown part tail place rest k r e =
      chained (fence_child rows) (fence_block part place rest) k
      (λ b f g. mapped (fence_as b) (known_piece rows b.info) k
      (λ n h. heavy (fence_as b n) b.size b.contents rest refl (trim_less b.contents)
      (fence_lines b.closed) (fence_reach part rest tail place b r f))
      g)
      e
  by_heavy HtmlLike part tail place rest k r e =
      first_of_two (element_at rows language Script part place rest) (first_block (element_at rows language Style part place rest) (element_at rows language Template part place rest)) k
      (element_heavy Script part place rest k)
      (first_of_two (element_at rows language Style part place rest)
      (element_at rows language Template part place rest) k
      (element_heavy Style part place rest k) (element_heavy Template part place rest k))
      e
  by_heavy Rust part tail place rest k r e =
      mapped (doc_child rows language) (doc_block rest) k
      (λ b f. heavy (doc_child rows language b) b.size b.contents rest refl
      (trim_less b.contents) (omega arith) (doc_reach rest b f))
      e
  by_heavy LinguaFranca part tail place rest k r e =
      mapped (target_child rows language text) (target_block part place rest) k
      (λ b f. heavy (target_child rows language text b) b.size b.contents rest refl
      (outer_less b.contents) (omega arith) (target_reach part rest tail place b r f))
      e
  by_heavy Jupyter part tail place rest k r e = cc

  pub blocks_heavy : (levels l : ℕ) (t : List ℕ) (k : Block) → blocks (languages_of rows) levels language text l t ≡ Some k → IsHeavy k
  blocks_heavy zero l t k e = cc
  blocks_heavy (suc n) l t k e =
      let front : List ℕ = part_front text l t in
      let tail : List ℕ = drop (length (first_line t)) t in
      let whole : first_line t ++ tail ≡ t = ap (λ w. w ++ tail) (sym (take-first t)) ∙ take-append-drop (length (first_line t)) t in
      by_heavy (family_of (row_at rows language).key) (front ++ first_line t) tail (length front) t k (sym whole ∙ ap (λ w. w ++ tail) (sym (drop_front front (first_line t)))) e
