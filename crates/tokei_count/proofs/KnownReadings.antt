-- Of which languages the blobs of a reading are.
use Rattle.std.proofs.Common.{ℕ, zero, suc, ◌<◌, Bool, true, false, cond, List, [], ◌∷◌, length, map, Option, None, Some}
use Rattle.std.specs.Prelude.{⊤}
use Rattle.std.specs.Ordering.{nat_cmp}
use Rattle.std.specs.declared.cmp.Ordering.{Ordering}
use Rattle.std.specs.declared.cmp.Ordering.TheVariants.{Less, Equal, Greater}
use Rattle.tokei_table.proofs.RowSound.{sound_row}
use Rattle.tokei_table.specs.Lookups.{row_at}
use Rattle.tokei_table.specs.Row.{Row}
use Rattle.tokei_notebook.specs.Cells.{AreKnown as CellsAreKnown, Cell, notebook_cells}
use Rattle.tokei_notebook.proofs.KnownCells.{notebook_known}
use Rattle.tokei_stats.specs.Statistics.{Counts, Statistics, Blobs, empty, by_order, at, put, joined, sum, add_all}
use Rattle.tokei_stats.specs.Statistics.Statistics.{node}
use Rattle.tokei_stats.specs.Statistics.Blobs.{none, blob}
use Rattle.tokei_parts.specs.Items.{Block}
use Rattle.tokei_parts.specs.Modes.{Mark, marks}
use Rattle.tokei_parts.specs.Parts.{parts_of}
use Rattle.tokei_parts.specs.Tally.{children, tally}
use Rattle.tokei_parts.proofs.Blocks.{by_levels}
use Rattle.tokei_count.specs.Languages.{is_notebook, languages_of}
use Rattle.tokei_count.specs.NotebookCells.{cell_block, cell_blocks}
use Rattle.tokei_count.specs.PlainReading.{blocks, child_adds, children_add, notebook_by, read_by, reading}
use Rattle.tokei_count.specs.ReadingLaws.{AreKnown, BlobsAreKnown}
use Rattle.tokei_count.specs.Steps.{items_in}
use Rattle.tokei_count.specs.WeightLaws.{HaveTokens}
use Rattle.tokei_count.proofs.KnownLanguages.{blocks_known}
use Rattle.tokei_count.proofs.LoadedMarks.{EachOf, text_loaded}
use Rattle.tokei_count.proofs.Weights.{every_token}

-- what is there has known languages alone
abbrev IsKnown : ℕ → Option Statistics → Type 0
IsKnown m None = ⊤
IsKnown m (Some s) = AreKnown m s

at_known : (m : ℕ) (bs : Blobs) (k : ℕ) → BlobsAreKnown m bs → IsKnown m (at bs k)
at_known m none k h = tt
at_known m (blob j s rest) k h = by_cmp (nat_cmp k j) (at_known m rest k h.1.1)
  where
    by_cmp : (o : Ordering) → IsKnown m (at rest k) → IsKnown m (by_order o (at rest k) (Some s) (at rest k))
    by_cmp Less f = f
    by_cmp Equal f = h.1.0
    by_cmp Greater f = f

put_known : (m : ℕ) (bs : Blobs) (k : ℕ) (v : Statistics) → BlobsAreKnown m bs → k < m → AreKnown m v → BlobsAreKnown m (put bs k v)
put_known m none k v h known f = (known, (f, tt))
put_known m (blob j s rest) k v h known f = by_cmp (nat_cmp k j) (put_known m rest k v h.1.1 known f)
  where
    by_cmp : (o : Ordering) → BlobsAreKnown m (put rest k v) → BlobsAreKnown m (by_order o (blob k v (blob j s rest)) (blob j v rest) (blob j s (put rest k v)))
    by_cmp Less r = (known, (f, h))
    by_cmp Equal r = (h.0, (f, h.1.1))
    by_cmp Greater r = (h.0, (h.1.0, r))

joined_known : (m : ℕ) (o : Option Statistics) (f : Statistics → Statistics) (t : Statistics) → IsKnown m o
    → ((s : Statistics) → AreKnown m s → AreKnown m (f s)) → AreKnown m t → AreKnown m (joined o f t)
joined_known m None f t h g k = k
joined_known m (Some s) f t h g k = g s h

-- a sum has no languages but those of its summands
mutual
  sum_known : (m : ℕ) (s t : Statistics) → AreKnown m s → AreKnown m t → AreKnown m (sum s t)
  sum_known m (node c bs) (node d cs) h k = add_known m bs cs h k

  add_known : (m : ℕ) (old bs : Blobs) → BlobsAreKnown m old → BlobsAreKnown m bs → BlobsAreKnown m (add_all old bs)
  add_known m old none h k = h
  add_known m old (blob j t rest) h k =
      let new : Statistics = joined (at old j) (λ s. sum s t) t in
      add_known m (put old j new) rest (put_known m old j new h k.0 (joined_known m (at old j) (λ s. sum s t) t (at_known m old j h) (λ s f. sum_known m s t f k.1.0) k.1.0)) k.1.1

-- what children of known languages add has known languages
adds_known : (m : ℕ) (read : Block → Statistics) → ((k : Block) → k.language < m → AreKnown m (read k)) → (ks : List Block) → EachOf (λ k. k.language < m) ks → AreKnown m (children_add read ks)
adds_known m read h [] known = tt
adds_known m read h (k ∷ ks) known = sum_known m (child_adds read k) (children_add read ks) (known.0, (h k known.0, tt)) (adds_known m read h ks known.1)

cells_known : (m : ℕ) (cs : List Cell) → CellsAreKnown m cs → EachOf (λ k. k.language < m) (map cell_block cs)
cells_known m [] h = tt
cells_known m (c ∷ cs) h = (h.0, cells_known m cs h.1)

module _ (rows : List Row) (tokens : HaveTokens rows) (docs_are_comments : Bool) where
  kids_known : (levels language : ℕ) (t : List ℕ) → language < length rows → EachOf (λ k. k.language < length rows) (children (marks [] (items_in (languages_of rows) levels language t)))
  kids_known levels language t known =
      (text_loaded (row_at rows language) (blocks (languages_of rows) levels language t)
      (sound_row (row_at rows language) (every_token rows tokens language)) (by_levels rows language t levels) (λ k. k.language < length rows)
      (λ l u k e. blocks_known rows language t known levels l u k e) t).kids

  pub reading-known : (levels language : ℕ) (t : List ℕ) → language < length rows → AreKnown (length rows) (reading (languages_of rows) docs_are_comments levels language t)
  unfolding reading
  reading-known zero language t known = by_test (is_notebook (row_at rows language))
    where
      ms : List Mark
      ms = marks [] (items_in (languages_of rows) zero language t)

      own : Counts
      own = tally (row_at rows language) docs_are_comments (parts_of ms)

      by_test : (x : Bool) → AreKnown (length rows) (cond x empty (read_by (row_at rows language) docs_are_comments (λ k. empty) ms))
      by_test true = tt
      by_test false = sum_known (length rows) (node own none) (children_add (λ k. empty) (children ms)) tt
          (adds_known (length rows) (λ k. empty) (λ k h. tt) (children ms) (kids_known zero language t known))
  reading-known (suc n) language t known = by_test (is_notebook (row_at rows language)) (λ k h. reading-known n k.language k.contents h)
    where
      ms : List Mark
      ms = marks [] (items_in (languages_of rows) (suc n) language t)

      own : Counts
      own = tally (row_at rows language) docs_are_comments (parts_of ms)

      read : Block → Statistics
      read k = reading (languages_of rows) docs_are_comments n k.language k.contents

      by_test : (x : Bool) → ((k : Block) → k.language < length rows → AreKnown (length rows) (read k))
          → AreKnown (length rows) (cond x (notebook_by read (cell_blocks rows language t)) (read_by (row_at rows language) docs_are_comments read ms))
      by_test true each = adds_known (length rows) read each (cell_blocks rows language t) (cells_known (length rows) (notebook_cells rows language t) (notebook_known rows language known t))
      by_test false each = sum_known (length rows) (node own none) (children_add read (children ms)) tt (adds_known (length rows) read each (children ms) (kids_known (suc n) language t known))
