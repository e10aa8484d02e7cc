-- The lines of a reading with all its children, and its order.
use Rattle.std.proofs.Common.{◌^◌, ◌≡◌, ℕ, zero, suc, ◌+◌, ◌<◌, Bool, true, false, cond, List, [], ◌∷◌, map, ap, arith}
use Rattle.tokei_notebook.specs.Cells.{Cell}
use Rattle.tokei_stats.specs.Ordered.{IsOrdered}
use Rattle.tokei_stats.specs.Overflow.{Fits, BlobsFit}
use Rattle.tokei_stats.specs.Statistics.{Statistics, Blobs, empty, lines_of, summary, summaries}
use Rattle.tokei_stats.specs.Statistics.Statistics.{node}
use Rattle.tokei_stats.specs.Statistics.Blobs.{none, blob}
use Rattle.tokei_stats.proofs.SumLaws.{sum_summary}
use Rattle.tokei_stats.proofs.SumsOrdered.{sum_ordered}
use Rattle.tokei_table.specs.Row.{Row}
use Rattle.tokei_count.specs.Gathered.{shares}
use Rattle.tokei_parts.specs.Items.{Block}
use Rattle.tokei_count.specs.Languages.{Languages, is_notebook}
use Rattle.tokei_parts.specs.Modes.{Mark, marks}
use Rattle.tokei_count.specs.NotebookCells.{cell_block}
use Rattle.tokei_parts.specs.Parts.{parts_of}
use Rattle.tokei_parts.specs.Tally.{children, tally}
use Rattle.tokei_count.specs.PlainReading.{child_adds, children_add, notebook_by, read_by, reading}
use Rattle.tokei_count.specs.Steps.{items_in, sum_over}
use Rattle.tokei_count.proofs.Gathered.{add-ordered}

module _ (read : Block → Statistics) (each : (k : Block) → IsOrdered (read k)) where
  -- what children add has their shares and all their lines
  add-lines : (ks : List Block) → lines_of (summary (children_add read ks)) ≡ lines_of (shares ks) + sum_over (λ k. lines_of (summary (read k))) ks
  add-lines [] = omega arith
  add-lines (k ∷ ks) =
      omega (arith, ap lines_of (sum_summary (child_adds read k) (children_add read ks) (each k, (tt, tt)) (add-ordered read each ks)), add-lines ks)

  -- so has a text, with the lines of its parts
  pub text-lines : (r : Row) (docs_are_comments : Bool) (ms : List Mark)
      → lines_of (summary (read_by r docs_are_comments read ms))
      ≡ lines_of (tally r docs_are_comments (parts_of ms)) + lines_of (shares (children ms))
      + sum_over (λ k. lines_of (summary (read k))) (children ms)
  text-lines r docs_are_comments ms =
      omega (arith, ap lines_of (sum_summary (node (tally r docs_are_comments (parts_of ms)) none) (children_add read (children ms)) tt (add-ordered read each (children ms))), add-lines (children ms))

  -- and a notebook has those of its cells alone
  cells-none : (cs : List Cell) → lines_of (shares (map cell_block cs)) ≡ 0
  cells-none [] = omega arith
  cells-none (c ∷ cs) = omega (arith, cells-none cs)

  pub cell-lines : (cs : List Cell) → lines_of (summary (notebook_by read (map cell_block cs))) ≡ sum_over (λ k. lines_of (summary (read k))) (map cell_block cs)
  cell-lines cs = omega (arith, add-lines (map cell_block cs), cells-none cs)

  text-ordered : (r : Row) (docs_are_comments : Bool) (ms : List Mark) → IsOrdered (read_by r docs_are_comments read ms)
  text-ordered r docs_are_comments ms = sum_ordered (node (tally r docs_are_comments (parts_of ms)) none) (children_add read (children ms)) tt (add-ordered read each (children ms))

either_ordered : (x : Bool) (s t : Statistics) → IsOrdered s → IsOrdered t → IsOrdered (cond x s t)
either_ordered true s t h k = h
either_ordered false s t h k = k

pub reading-ordered : (ls : Languages) (docs_are_comments : Bool) (levels language : ℕ) (t : List ℕ) → IsOrdered (reading ls docs_are_comments levels language t)
unfolding reading
reading-ordered ls docs_are_comments zero language t =
    let ms : List Mark = marks [] (items_in ls zero language t) in
    either_ordered (is_notebook (ls.row language)) empty (read_by (ls.row language) docs_are_comments (λ k. empty) ms) tt
    (text-ordered (λ k. empty) (λ k. tt) (ls.row language) docs_are_comments ms)
reading-ordered ls docs_are_comments (suc n) language t =
    let ms : List Mark = marks [] (items_in ls (suc n) language t) in
    let read : Block → Statistics = λ (k : Block). reading ls docs_are_comments n k.language k.contents in
    let each : (k : Block) → IsOrdered (read k) = λ (k : Block). reading-ordered ls docs_are_comments n k.language k.contents in
    either_ordered (is_notebook (ls.row language)) (notebook_by read (ls.cells language t)) (read_by (ls.row language) docs_are_comments read ms)
    (add-ordered read each (ls.cells language t))
    (text-ordered read each (ls.row language) docs_are_comments ms)

-- no number is greater than all lines together
mutual
  pub fits-lines : (s : Statistics) → lines_of (summary s) < 2 ^ 64 → Fits s
  fits-lines (node n bs) h = (record { blanks = omega arith; code = omega arith; comments = omega arith }, fit-lines bs (omega arith))

  fit-lines : (bs : Blobs) → lines_of (summaries bs) < 2 ^ 64 → BlobsFit bs
  fit-lines none h = tt
  fit-lines (blob k t rest) h = (fits-lines t (omega arith), fit-lines rest (omega arith))
