-- How deep the blobs of a reading stand.
use Rattle.std.proofs.Common.{◌≡◌, ℕ, zero, suc, ◌-◌, ◌<◌, ◌≤◌, Bool, true, false, cond, List, [], ◌∷◌, Option, None, Some, refl, sym, subst, arith}
use Rattle.std.specs.Prelude.{⊤}
use Rattle.std.specs.Ordering.{nat_cmp}
use Rattle.std.specs.declared.cmp.Ordering.{Ordering}
use Rattle.std.specs.declared.cmp.Ordering.TheVariants.{Less, Equal, Greater}
use Rattle.tokei_table.proofs.RowSound.{sound_row}
use Rattle.tokei_table.specs.Lookups.{row_at}
use Rattle.tokei_table.specs.Row.{Row}
use Rattle.tokei_stats.specs.Statistics.{Counts, Statistics, Blobs, empty, by_order, at, put, joined, sum, add_all}
use Rattle.tokei_stats.specs.Statistics.Statistics.{node}
use Rattle.tokei_stats.specs.Statistics.Blobs.{none, blob}
use Rattle.tokei_parts.specs.Items.{Block}
use Rattle.tokei_parts.specs.Modes.{Mark, marks}
use Rattle.tokei_parts.specs.Parts.{parts_of}
use Rattle.tokei_parts.specs.Tally.{children, tally}
use Rattle.tokei_parts.proofs.Blocks.{by_levels}
use Rattle.tokei_count.specs.Languages.{is_notebook, languages_of}
use Rattle.tokei_count.specs.NotebookCells.{cell_blocks}
use Rattle.tokei_count.specs.PlainReading.{blocks, child_adds, children_add, notebook_by, read_by, reading}
use Rattle.tokei_count.specs.ReadingLaws.{depth, blobs_depth}
use Rattle.tokei_count.specs.Steps.{items_in}
use Rattle.tokei_count.specs.WeightLaws.{HaveTokens}
use Rattle.tokei_count.proofs.LoadedMarks.{EachOf, text_loaded}
use Rattle.tokei_count.proofs.Weights.{every_token}

-- what is there holds fewer than m levels
abbrev HoldsFewer : ℕ → Option Statistics → Type 0
HoldsFewer m None = ⊤
HoldsFewer m (Some s) = depth s < m

at_fewer : (m : ℕ) (bs : Blobs) (k : ℕ) → blobs_depth bs ≤ m → HoldsFewer m (at bs k)
at_fewer m none k h = tt
at_fewer m (blob j s rest) k h = by_cmp (nat_cmp k j) (at_fewer m rest k (omega (arith, h)))
  where
    by_cmp : (o : Ordering) → HoldsFewer m (at rest k) → HoldsFewer m (by_order o (at rest k) (Some s) (at rest k))
    by_cmp Less f = f
    by_cmp Equal f = omega (arith, h)
    by_cmp Greater f = f

put_within : (m : ℕ) (bs : Blobs) (k : ℕ) (v : Statistics) → blobs_depth bs ≤ m → depth v < m → blobs_depth (put bs k v) ≤ m
put_within m none k v h f = omega (arith, f)
put_within m (blob j s rest) k v h f = by_cmp (nat_cmp k j) (put_within m rest k v (omega (arith, h)) f)
  where
    by_cmp : (o : Ordering) → blobs_depth (put rest k v) ≤ m → blobs_depth (by_order o (blob k v (blob j s rest)) (blob j v rest) (blob j s (put rest k v))) ≤ m
    by_cmp Less r = omega (arith, h, f)
    by_cmp Equal r = omega (arith, h, f)
    by_cmp Greater r = omega (arith, h, r)

joined_fewer : (m : ℕ) (o : Option Statistics) (f : Statistics → Statistics) (t : Statistics) → HoldsFewer m o
    → ((s : Statistics) → depth s < m → depth (f s) < m) → depth t < m → depth (joined o f t) < m
joined_fewer m None f t h g k = k
joined_fewer m (Some s) f t h g k = g s h

-- a sum holds no more levels than its summands
mutual
  sum_within : (m : ℕ) (s t : Statistics) → depth s ≤ m → depth t ≤ m → depth (sum s t) ≤ m
  sum_within m (node c bs) (node d cs) h k = add_within m bs cs h k

  add_within : (m : ℕ) (old bs : Blobs) → blobs_depth old ≤ m → blobs_depth bs ≤ m → blobs_depth (add_all old bs) ≤ m
  add_within m old none h k = h
  add_within m old (blob j t rest) h k =
      let new : Statistics = joined (at old j) (λ s. sum s t) t in
      let fewer : depth t < m = omega (arith, k) in
      let both : (s : Statistics) → depth s < m → depth (sum s t) < m = λ s f. omega (arith, f, sum_within (m - 1) s t (omega (arith, f)) (omega (arith, fewer))) in
      add_within m (put old j new) rest (put_within m old j new h (joined_fewer m (at old j) (λ s. sum s t) t (at_fewer m old j h) both fewer)) (omega (arith, k))

-- what children add holds one level more than they
adds_within : (m : ℕ) (read : Block → Statistics) → ((k : Block) → depth (read k) < m) → (ks : List Block) → depth (children_add read ks) ≤ m
adds_within m read h [] = omega arith
adds_within m read h (k ∷ ks) = sum_within m (child_adds read k) (children_add read ks) (omega (arith, h k)) (adds_within m read h ks)

none_of : (ks : List Block) → EachOf (λ k. ⊥) ks → ks ≡ []
none_of [] h = refl
none_of (k ∷ ks) h = absurd h.0

module _ (rows : List Row) (tokens : HaveTokens rows) (docs_are_comments : Bool) where
  -- with no levels left no child opens
  childless : (language : ℕ) (t : List ℕ) → children (marks [] (items_in (languages_of rows) zero language t)) ≡ []
  childless language t =
      none_of (children (marks [] (items_in (languages_of rows) zero language t)))
      (text_loaded (row_at rows language) (blocks (languages_of rows) zero language t)
      (sound_row (row_at rows language) (every_token rows tokens language)) (by_levels rows language t zero) (λ k. ⊥) (λ l u k e. cc) t).kids

  pub reading-shallow : (levels language : ℕ) (t : List ℕ) → depth (reading (languages_of rows) docs_are_comments levels language t) ≤ levels
  unfolding reading
  reading-shallow zero language t = by_test (is_notebook (row_at rows language))
    where
      ms : List Mark
      ms = marks [] (items_in (languages_of rows) zero language t)

      own : Counts
      own = tally (row_at rows language) docs_are_comments (parts_of ms)

      by_test : (x : Bool) → depth (cond x empty (read_by (row_at rows language) docs_are_comments (λ k. empty) ms)) ≤ 0
      by_test true = omega arith
      by_test false = subst (λ (ks : List Block). depth (sum (node own none) (children_add (λ k. empty) ks)) ≤ 0) (sym (childless language t)) (omega arith)
  reading-shallow (suc n) language t = by_test (is_notebook (row_at rows language)) (λ k. omega (arith, reading-shallow n k.language k.contents))
    where
      ms : List Mark
      ms = marks [] (items_in (languages_of rows) (suc n) language t)

      own : Counts
      own = tally (row_at rows language) docs_are_comments (parts_of ms)

      read : Block → Statistics
      read k = reading (languages_of rows) docs_are_comments n k.language k.contents

      by_test : (x : Bool) → ((k : Block) → depth (read k) < suc n)
          → depth (cond x (notebook_by read (cell_blocks rows language t)) (read_by (row_at rows language) docs_are_comments read ms)) ≤ suc n
      by_test true each = adds_within (suc n) read each (cell_blocks rows language t)
      by_test false each = sum_within (suc n) (node own none) (children_add read (children ms)) (omega arith) (adds_within (suc n) read each (children ms))
