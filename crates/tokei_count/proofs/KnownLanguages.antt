-- The language of a child is one of the table.
use Rattle.std.proofs.Common.{◌≡◌, ℕ, suc, zero, ◌<◌, Bool, true, false, cond, List, [], ◌∷◌, ◌++◌, length, Option, None, Some, option_map, unwrap_or, subst, arith}
use Rattle.std.specs.Prelude.{⊤, option_and_then}
use Rattle.std.specs.List.{slice_split}
use Rattle.std.specs.Option.{option_or}
use Rattle.std.specs.Str.{is_utf8}
use Rattle.tokei_table.specs.Bytes.{trim}
use Rattle.tokei_table.specs.Row.{Row}
use Rattle.tokei_table.specs.Lookups.{row_at, first_where, has_name, has_name_in_any_case, has_mime}
use Rattle.tokei_table.specs.Families.{family_of}
use Rattle.tokei_table.specs.Family.{Family}
use Rattle.tokei_table.specs.Family.TheVariants.{Plain, Markdown, HtmlLike, Rust, LinguaFranca, Jupyter}
use Rattle.tokei_embedding.specs.Fences.{Fence, fence_block}
use Rattle.tokei_embedding.specs.Tags.{tag_block}
use Rattle.tokei_embedding.specs.DocComments.{doc_block, first_line}
use Rattle.tokei_embedding.specs.TargetBlocks.{target_block, target_of}
use Rattle.tokei_embedding.specs.declared.tags.Tag.{Tag}
use Rattle.tokei_embedding.specs.declared.tags.Tag.TheVariants.{Script, Style, Template}
use Rattle.tokei_parts.specs.Items.{Block}
use Rattle.tokei_parts.specs.NamedLanguages.{by_word, by_name}
use Rattle.tokei_table.specs.Families.{fallback}
use Rattle.tokei_parts.specs.MarkdownChildren.{is_comma, first_named, known_piece, fence_as, fence_child}
use Rattle.tokei_parts.specs.HtmlChildren.{by_value, usual_key, element_child, element_at, first_block}
use Rattle.tokei_parts.specs.RustChildren.{doc_child}
use Rattle.tokei_parts.specs.LinguaFrancaChildren.{target_name, target_language, target_child}
use Rattle.tokei_count.specs.Languages.{languages_of}
use Rattle.tokei_parts.specs.Openings.{block_by}
use Rattle.tokei_parts.specs.Parts.{part_front}
use Rattle.tokei_count.specs.PlainReading.{blocks}

-- what is there is below m
abbrev IsBelow : ℕ → Option ℕ → Type 0
IsBelow m None = ⊤
IsBelow m (Some n) = n < m

where_below : (test : Row → Bool) (rows : List Row) → IsBelow (length rows) (first_where test rows)
where_below test [] = tt
where_below test (r ∷ rows) = by_test (test r) (first_where test rows) (where_below test rows)
  where
    by_test : (b : Bool) (o : Option ℕ) → IsBelow (length rows) o → IsBelow (suc (length rows)) (cond b (Some 0) (option_map suc o))
    by_test true o h = omega arith
    by_test false None h = tt
    by_test false (Some n) h = omega arith

cond_below : (m : ℕ) (b : Bool) (o : Option ℕ) → IsBelow m o → IsBelow m (cond b o None)
cond_below m true o h = h
cond_below m false o h = tt

unwrap_below : (m : ℕ) (o : Option ℕ) (n : ℕ) → IsBelow m o → n < m → unwrap_or o n < m
unwrap_below m None n h k = k
unwrap_below m (Some a) n h k = h

either_below : (m : ℕ) (o p : Option ℕ) → IsBelow m o → IsBelow m p → IsBelow m (option_or o p)
either_below m None p h k = k
either_below m (Some n) p h k = h

chained_below : {A : Type 0} (m : ℕ) (f : A → Option ℕ) (o : Option A) → ((a : A) → IsBelow m (f a)) → IsBelow m (option_and_then f o)
chained_below m f None h = tt
chained_below m f (Some a) h = h a

word_below : (rows : List Row) (w : List ℕ) → IsBelow (length rows) (by_word rows w)
word_below rows w = cond_below (length rows) (is_utf8 w) (first_where (has_name_in_any_case w) rows) (where_below (has_name_in_any_case w) rows)

pieces_below : (rows : List Row) (pieces : List (List ℕ)) → IsBelow (length rows) (first_named rows pieces)
pieces_below rows [] = tt
pieces_below rows (piece ∷ pieces) = either_below (length rows) (by_word rows piece) (first_named rows pieces) (word_below rows piece) (pieces_below rows pieces)

value_below : (rows : List Row) (tag : Tag) (v : List ℕ) → IsBelow (length rows) (by_value rows tag v)
value_below rows Script v = cond_below (length rows) (is_utf8 (trim v)) (first_where (has_mime (trim v)) rows) (where_below (has_mime (trim v)) rows)
value_below rows Style v = word_below rows (trim v)
value_below rows Template v = word_below rows (trim v)

-- the language of what is there is below m
abbrev HasKnown : ℕ → Option Block → Type 0
HasKnown m None = ⊤
HasKnown m (Some k) = k.language < m

mapped : {A : Type 0} (m : ℕ) (f : A → Block) (o : Option A) → ((a : A) → (f a).language < m) → HasKnown m (option_map f o)
mapped m f None h = tt
mapped m f (Some a) h = h a

fence_known : (m : ℕ) (f : Fence) (o : Option ℕ) → IsBelow m o → HasKnown m (option_map (fence_as f) o)
fence_known m f None h = tt
fence_known m f (Some n) h = h

chained : {A : Type 0} (m : ℕ) (f : A → Option Block) (o : Option A) → ((a : A) → HasKnown m (f a)) → HasKnown m (option_and_then f o)
chained m f None h = tt
chained m f (Some a) h = h a

first_known : (m : ℕ) (p q : Option Block) → HasKnown m p → HasKnown m q → HasKnown m (first_block p q)
first_known m None q h k = k
first_known m (Some b) q h k = h

module _ (rows : List Row) (language : ℕ) (text : List ℕ) (known : language < length rows) where
  fallback_known : (key : List ℕ) → fallback rows language key < length rows
  fallback_known key = unwrap_below (length rows) (first_where (has_name key) rows) language (where_below (has_name key) rows) known

  element_known : (tag : Tag) (part : List ℕ) (place : ℕ) (rest : List ℕ) → HasKnown (length rows) (element_at rows language tag part place rest)
  element_known tag part place rest = mapped (length rows) (element_child rows language tag) (tag_block tag part place rest)
      (λ b. unwrap_below (length rows) (option_and_then (by_value rows tag) b.value)
      (fallback rows language (usual_key tag))
      (chained_below (length rows) (by_value rows tag) b.value (value_below rows tag))
      (fallback_known (usual_key tag)))

  target_known : (o : Option (List ℕ)) → target_language rows language o < length rows
  target_known None = known
  target_known (Some w) =
      unwrap_below (length rows) (by_name rows (target_name w)) language
      (cond_below (length rows) (is_utf8 (target_name w))
      (first_where (has_name (target_name w)) rows)
      (where_below (has_name (target_name w)) rows))
      known

  by_known : (f : Family) (part : List ℕ) (place : ℕ) (rest : List ℕ) → HasKnown (length rows) (block_by f rows language text part place rest)
  by_known Plain part place rest = tt
  by_known Markdown part place rest =
      chained (length rows) (fence_child rows) (fence_block part place rest)
      (λ b. fence_known (length rows) b (known_piece rows b.info)
      (pieces_below rows (slice_split is_comma b.info)))
  by_known HtmlLike part place rest =
      first_known (length rows) (element_at rows language Script part place rest) (first_block (element_at rows language Style part place rest) (element_at rows language Template part place rest))
      (element_known Script part place rest)
      (first_known (length rows) (element_at rows language Style part place rest)
      (element_at rows language Template part place rest) (element_known Style part place rest)
      (element_known Template part place rest))
  by_known Rust part place rest = mapped (length rows) (doc_child rows language) (doc_block rest) (λ b. fallback_known _)
  by_known LinguaFranca part place rest = mapped (length rows) (target_child rows language text) (target_block part place rest) (λ b. target_known (target_of text))
  by_known Jupyter part place rest = tt

  pub blocks_known : (levels l : ℕ) (u : List ℕ) (k : Block) → blocks (languages_of rows) levels language text l u ≡ Some k → k.language < length rows
  blocks_known zero l u k e = cc
  blocks_known (suc n) l u k e = let h = by_known (family_of (row_at rows language).key) (part_front text l u ++ first_line u) (length (part_front text l u)) u in subst (HasKnown (length rows)) e h
