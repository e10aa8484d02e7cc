-- A text takes no more steps than it weighs.
use Rattle.std.proofs.Common.{ℕ, zero, suc, ◌+◌, ◌≤◌, Bool, true, false, cond, List, [], ◌∷◌, length, None, arith}
use Rattle.tokei_table.proofs.RowSound.{sound_row}
use Rattle.tokei_table.specs.Lookups.{row_at}
use Rattle.tokei_table.specs.Openers.{openers}
use Rattle.tokei_table.specs.Row.{Row}
use Rattle.tokei_parts.specs.Items.{Block}
use Rattle.tokei_count.specs.Languages.{Languages, is_notebook}
use Rattle.tokei_parts.specs.Modes.{Mark, marks}
use Rattle.tokei_count.specs.NotebookCells.{cell_blocks}
use Rattle.tokei_count.specs.Languages.{languages_of}
use Rattle.tokei_count.specs.PlainReading.{blocks}
use Rattle.tokei_count.specs.Steps.{own_steps, items_in, children_in, sum_over, with_children, steps}
use Rattle.tokei_count.specs.Weight.{own_weight, extra, weight}
use Rattle.tokei_count.specs.WeightLaws.{HaveTokens}
use Rattle.tokei_parts.proofs.Blocks.{by_levels}
use Rattle.tokei_count.proofs.HeavyBlocks.{IsHeavy, blocks_heavy}
use Rattle.tokei_count.proofs.LoadedMarks.{EachOf, IsLoaded, text_loaded}
use Rattle.tokei_count.proofs.Loads.{sizes, choices_within}
use Rattle.tokei_count.proofs.Running.{own_steps-running}
use Rattle.tokei_count.proofs.Weights.{every_token}

-- a sum of smaller numbers is smaller
pub sum_less : (a b : Block → ℕ) → ((k : Block) → a k ≤ b k) → (ks : List Block) → sum_over a ks ≤ sum_over b ks
sum_less a b h [] = omega arith
sum_less a b h (k ∷ ks) = omega (arith, h k, sum_less a b h ks)

pub own_less : (x : Bool) (n : ℕ) → cond x 0 n ≤ n
own_less true n = omega arith
own_less false n = omega arith

-- the children's numbers, each with one for the child, fit into the bytes that they take and what they weigh more
kids_within : (ls : Languages) (a : Block → ℕ) (e : Block → ℕ)
    → ((k : Block) → a k ≤ own_weight ls k.language k.contents + e k) → (ks : List Block)
    → EachOf IsHeavy ks → length ks + sum_over a ks ≤ sizes ks + sum_over e ks
kids_within ls a e h [] f = omega arith
kids_within ls a e h (k ∷ ks) f = omega (arith, h k, f.0.holds, own_less (is_notebook (ls.row k.language)) (length k.contents), kids_within ls a e h ks f.1)

module _ (rows : List Row) (tokens : HaveTokens rows) where
  -- the marks of a text have no more bytes than it, and its children are heavy
  pub loaded : (levels language : ℕ) (t : List ℕ) → IsLoaded IsHeavy t (marks [] (items_in (languages_of rows) levels language t))
  loaded levels language t =
      text_loaded (row_at rows language) (blocks (languages_of rows) levels language t)
      (sound_row (row_at rows language) (every_token rows tokens language))
      (by_levels rows language t levels) IsHeavy (blocks_heavy rows language t levels) t

  -- its own steps and the bytes of its children are no more than its bytes
  own_within : (levels language : ℕ) (t : List ℕ)
      → own_steps (row_at rows language) t (items_in (languages_of rows) levels language t)
      + sizes (children_in (languages_of rows) levels language t)
      ≤ length t
  own_within levels language t =
      let ms : List Mark = marks [] (items_in (languages_of rows) levels language t) in
      omega (
        arith,
        own_steps-running (row_at rows language) t (items_in (languages_of rows) levels language t),
        choices_within (openers (row_at rows language)) None [] 0 t ms,
        (loaded levels language t).within,
      )

  pub steps-weight : (levels language : ℕ) (t : List ℕ) → steps (languages_of rows) levels language t ≤ weight (languages_of rows) levels language t
  unfolding with_children extra
  steps-weight zero language t = by_test (is_notebook (row_at rows language))
    where
      kids : List Block
      kids = children_in (languages_of rows) zero language t

      own : ℕ
      own = own_steps (row_at rows language) t (items_in (languages_of rows) zero language t)

      by_test : (x : Bool) → cond x 0 (own + length kids) ≤ cond x 0 (length t) + 0
      by_test true = omega arith
      by_test false = omega (arith, own_within zero language t, kids_within (languages_of rows) (λ k. 0) (λ k. 0) (λ k. omega arith) kids (loaded zero language t).kids)
  steps-weight (suc n) language t = by_test (is_notebook (row_at rows language)) (λ k. steps-weight n k.language k.contents)
    where
      kids : List Block
      kids = children_in (languages_of rows) (suc n) language t

      own : ℕ
      own = own_steps (row_at rows language) t (items_in (languages_of rows) (suc n) language t)

      inner : Block → ℕ
      inner k = steps (languages_of rows) n k.language k.contents

      inner_weight : Block → ℕ
      inner_weight k = own_weight (languages_of rows) k.language k.contents + extra (languages_of rows) n k.language k.contents

      inner_extra : Block → ℕ
      inner_extra k = extra (languages_of rows) n k.language k.contents

      by_test : (x : Bool) → ((k : Block) → inner k ≤ inner_weight k)
          → cond x (sum_over inner (cell_blocks rows language t))
          (own + length kids + sum_over inner kids)
          ≤ cond x 0 (length t)
          + cond x (sum_over inner_weight (cell_blocks rows language t))
          (sum_over inner_extra kids)
      by_test true h = omega (arith, sum_less inner inner_weight h (cell_blocks rows language t))
      by_test false h = omega (arith, own_within (suc n) language t, kids_within (languages_of rows) inner inner_extra h kids (loaded (suc n) language t).kids)
