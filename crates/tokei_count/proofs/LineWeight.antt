-- A text and its children have no more lines than it weighs.
use Rattle.std.proofs.Common.{◌^◌, ℕ, zero, suc, ◌+◌, ◌<◌, ◌≤◌, Bool, true, false, cond, List, [], ◌∷◌, length, None, refl, arith}
use Rattle.tokei_table.specs.Lookups.{row_at}
use Rattle.tokei_table.specs.Row.{Row}
use Rattle.tokei_notebook.specs.Cells.{notebook_cells}
use Rattle.tokei_stats.specs.Ordered.{IsOrdered}
use Rattle.tokei_stats.specs.Overflow.{Fits}
use Rattle.tokei_stats.specs.Statistics.{Statistics, empty, lines_of, summary}
use Rattle.tokei_parts.specs.Items.{Block}
use Rattle.tokei_count.specs.Languages.{Languages, is_notebook}
use Rattle.tokei_parts.specs.Modes.{Mark, marks}
use Rattle.tokei_count.specs.NotebookCells.{cell_blocks}
use Rattle.tokei_count.specs.Languages.{languages_of}
use Rattle.tokei_count.specs.Gathered.{shares}
use Rattle.tokei_count.specs.PlainReading.{notebook_by, read_by, reading}
use Rattle.tokei_count.specs.Steps.{items_in, children_in, sum_over}
use Rattle.tokei_count.specs.Weight.{own_weight, extra, weight}
use Rattle.tokei_count.specs.WeightLaws.{HaveTokens, HaveNoNotebook}
use Rattle.tokei_count.proofs.HeavyBlocks.{IsHeavy}
use Rattle.tokei_count.proofs.LoadedMarks.{EachOf}
use Rattle.tokei_count.proofs.Loads.{sizes, lines_within}
use Rattle.tokei_count.proofs.StepWeight.{sum_less, own_less, loaded}
use Rattle.tokei_count.proofs.Weights.{sum_none, weight-length}
use Rattle.tokei_count.proofs.Summaries.{text-lines, cell-lines, reading-ordered, fits-lines}

-- the children's numbers, and what the children add to the parent, fit into the bytes that they take and what they weigh
-- more
shares_within : (ls : Languages) (a e : Block → ℕ)
    → ((k : Block) → a k ≤ own_weight ls k.language k.contents + e k) → (ks : List Block)
    → EachOf IsHeavy ks → lines_of (shares ks) + sum_over a ks ≤ sizes ks + sum_over e ks
shares_within ls a e h [] f = omega arith
shares_within ls a e h (k ∷ ks) f = omega (arith, h k, f.0.holds, f.0.few, own_less (is_notebook (ls.row k.language)) (length k.contents), shares_within ls a e h ks f.1)

module _ (rows : List Row) (tokens : HaveTokens rows) (docs_are_comments : Bool) where
  pub lines-weight : (levels language : ℕ) (t : List ℕ) → lines_of (summary (reading (languages_of rows) docs_are_comments levels language t)) ≤ weight (languages_of rows) levels language t
  unfolding reading extra
  lines-weight zero language t = by_test (is_notebook (row_at rows language))
    where
      kids : List Block
      kids = children_in (languages_of rows) zero language t

      ms : List Mark
      ms = marks [] (items_in (languages_of rows) zero language t)

      none_of : Block → ℕ
      none_of k = lines_of (summary empty)

      by_test : (x : Bool) → lines_of (summary (cond x empty (read_by (row_at rows language) docs_are_comments (λ k. empty) ms))) ≤ cond x 0 (length t) + 0
      by_test true = omega arith
      by_test false = omega (
        arith,
        text-lines (λ k. empty) (λ k. tt) (row_at rows language) docs_are_comments ms,
        lines_within (row_at rows language) docs_are_comments None [] None ms,
        (loaded rows tokens zero language t).within,
        shares_within (languages_of rows) none_of none_of (λ k. omega arith) kids (loaded rows tokens zero language t).kids,
        sum_none none_of (λ k. refl) kids,
      )
  lines-weight (suc n) language t = by_test (is_notebook (row_at rows language)) (λ k. lines-weight n k.language k.contents)
    where
      kids : List Block
      kids = children_in (languages_of rows) (suc n) language t

      ms : List Mark
      ms = marks [] (items_in (languages_of rows) (suc n) language t)

      read : Block → Statistics
      read k = reading (languages_of rows) docs_are_comments n k.language k.contents

      each_ordered : (k : Block) → IsOrdered (read k)
      each_ordered k = reading-ordered (languages_of rows) docs_are_comments n k.language k.contents

      inner : Block → ℕ
      inner k = lines_of (summary (read k))

      inner_weight : Block → ℕ
      inner_weight k = own_weight (languages_of rows) k.language k.contents + extra (languages_of rows) n k.language k.contents

      inner_extra : Block → ℕ
      inner_extra k = extra (languages_of rows) n k.language k.contents

      by_test : (x : Bool) → ((k : Block) → inner k ≤ inner_weight k)
          → lines_of (summary (cond x (notebook_by read (cell_blocks rows language t))
          (read_by (row_at rows language) docs_are_comments read ms)))
          ≤ cond x 0 (length t)
          + cond x (sum_over inner_weight (cell_blocks rows language t))
          (sum_over inner_extra kids)
      by_test true h = omega (arith, cell-lines read each_ordered (notebook_cells rows language t), sum_less inner inner_weight h (cell_blocks rows language t))
      by_test false h = omega (
        arith,
        text-lines read each_ordered (row_at rows language) docs_are_comments ms,
        lines_within (row_at rows language) docs_are_comments None [] None ms,
        (loaded rows tokens (suc n) language t).within,
        shares_within (languages_of rows) inner inner_extra h kids (loaded rows tokens (suc n) language t).kids,
      )

  -- so a text that weighs no more than the code counts has a reading that fits
  pub reading-fits : (levels language : ℕ) (t : List ℕ) → weight (languages_of rows) levels language t < 2 ^ 64 → Fits (reading (languages_of rows) docs_are_comments levels language t)
  reading-fits levels language t h = fits-lines (reading (languages_of rows) docs_are_comments levels language t) (omega (arith, h, lines-weight levels language t))

  pub reading-fits_by_length : HaveNoNotebook rows → (levels language : ℕ) (t : List ℕ) → length t < 2 ^ 64 → Fits (reading (languages_of rows) docs_are_comments levels language t)
  reading-fits_by_length lines levels language t h = reading-fits levels language t (omega (arith, h, weight-length rows lines levels language t))
