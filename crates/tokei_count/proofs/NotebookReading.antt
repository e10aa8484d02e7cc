-- The reading of a notebook, cell by cell.
use Rattle.std.proofs.Common.{◌≡◌, ℕ, suc, zero, ◌+◌, ◌-◌, ◌<◌, Bool, true, List, [], ◌∷◌, length, map, drop, refl, sym, ◌∙◌, ap, subst, arith}
use Rattle.std.specs.Prelude.{slice_index_or}
use Rattle.std.proofs.Math.Seq.{drop-cons, drop-length}
use Rattle.tokei_table.specs.Row.{Row}
use Rattle.tokei_table.specs.Lookups.{row_at}
use Rattle.tokei_notebook.specs.Cells.{cell_of, notebook_cells, AreKnown}
use Rattle.tokei_notebook.specs.declared.notebook.Cell.{Cell}
use Rattle.tokei_stats.specs.Statistics.{Statistics, Blobs, no_lines, at, put, joined, sum}
use Rattle.tokei_stats.specs.Statistics.Statistics.{node}
use Rattle.tokei_stats.specs.Statistics.Blobs.{none}
use Rattle.tokei_stats.specs.Overflow.{Fits, BlobsFit}
use Rattle.tokei_parts.specs.Items.{Block}
use Rattle.tokei_count.specs.Languages.{is_notebook}
use Rattle.tokei_count.specs.NotebookCells.{cell_block, cell_blocks}
use Rattle.tokei_count.specs.Languages.{languages_of}
use Rattle.tokei_count.specs.Gathered.{gathered}
use Rattle.tokei_count.specs.PlainReading.{reading, child_reading}
use Rattle.tokei_count.proofs.Fitting.{gathered-child, gathered-first}
use Rattle.tokei_count.proofs.TextReading.{reading-notebook, child_reading-is}

-- the language of each cell is one of the table
pub known_at : (n : ℕ) (items : List Cell) (i : ℕ) (d : Cell) → AreKnown n (map cell_of items) → i < length items → (slice_index_or items i d).language < n
known_at n [] i d k h = absurd (omega (arith, h))
known_at n (c ∷ cs) zero d k h = k.0
known_at n (c ∷ cs) (suc i) d k h = known_at n cs i d k.1 (omega (arith, h))

more : (i : ℕ) → suc i ≡ i + 1
more i = omega arith

-- the cells that are left, from the next one on
pub cells_split : (items : List Cell) (i : ℕ) (cell : Cell) → i < length items → cell ≡ slice_index_or items i cell
    → map cell_block (map cell_of (drop i items)) ≡ cell_block (cell_of cell) ∷ map cell_block (map cell_of (drop (i + 1) items))
cells_split items i cell h e = ap (λ (cs : List Cell). map cell_block (map cell_of cs))
    (drop-cons items i cell h ∙ ap (λ (c : Cell). c ∷ drop (suc i) items) (sym e) ∙ ap (λ n. cell ∷ drop n items) (more i))

module _ (rows : List Row) (docs_are_comments : Bool) (levels language : ℕ) (text : List ℕ) where
  abbrev read : Block → Statistics
  read = child_reading (languages_of rows) docs_are_comments levels

  abbrev whole : Statistics
  whole = reading (languages_of rows) docs_are_comments levels language text

  -- the cells read so far and those that are left are all
  abbrev pub AreOnTheWay : Blobs → List Cell → ℕ → Type 0
  AreOnTheWay blobs items i = gathered read blobs (map cell_block (map cell_of (drop i items))) ≡ gathered read none (cell_blocks rows language text)

  pub cells_begun : (items : List Cell) → map cell_of items ≡ notebook_cells rows language text → map cell_block (map cell_of items) ≡ cell_blocks rows language text
  cells_begun items e = ap (map cell_block) e

  pub begun : (items : List Cell) → map cell_of items ≡ notebook_cells rows language text → AreOnTheWay none items 0
  begun items e = ap (λ cs. gathered read none (map cell_block cs)) (from_first items ∙ e)
    where
      from_first : (cs : List Cell) → map cell_of (drop 0 cs) ≡ map cell_of cs
      from_first [] = refl
      from_first (c ∷ cs) = refl

  module _ (blobs : Blobs) (items : List Cell) (i : ℕ) (cell : Cell) (h : i < length items) (e : cell ≡ slice_index_or items i cell) (way : AreOnTheWay blobs items i) where
    abbrev k : Block
    k = cell_block (cell_of cell)

    pub cell_read : AreOnTheWay (put blobs k.language (joined (at blobs k.language) (λ s. sum s (read k)) (read k))) items (i + 1)
    cell_read = ap (gathered read blobs) (sym (cells_split items i cell h e)) ∙ way

    cells_fit : is_notebook (row_at rows language) ≡ true → 0 < levels → Fits whole → BlobsFit (gathered read blobs (k ∷ map cell_block (map cell_of (drop (i + 1) items))))
    cells_fit n some f =
        let all : Fits (node no_lines (gathered read none (cell_blocks rows language text))) = subst Fits (reading-notebook rows docs_are_comments levels language text n some) f in
        subst BlobsFit (sym way ∙ ap (gathered read blobs) (cells_split items i cell h e)) all.1

    pub cell_fits : is_notebook (row_at rows language) ≡ true → 0 < levels → Fits whole → Fits (read k)
    cell_fits n some f = gathered-child read blobs k (map cell_block (map cell_of (drop (i + 1) items))) (cells_fit n some f)

    pub cell_blob_fits : is_notebook (row_at rows language) ≡ true → 0 < levels → Fits whole → Fits (joined (at blobs k.language) (λ s. sum s (read k)) (read k))
    cell_blob_fits n some f = gathered-first read blobs k (map cell_block (map cell_of (drop (i + 1) items))) (cells_fit n some f)

    -- what is read of a cell's text is its reading
    pub cell_reading : (source : List ℕ) → source ≡ cell.source.items → 0 < levels → reading (languages_of rows) docs_are_comments (levels - 1) cell.language source ≡ read k
    cell_reading source s some = ap (reading (languages_of rows) docs_are_comments (levels - 1) cell.language) s ∙ sym (child_reading-is rows docs_are_comments levels k some)

  -- where no cell is left all are read
  pub cells_whole : (blobs : Blobs) (items : List Cell) (i : ℕ) → i ≡ length items → is_notebook (row_at rows language) ≡ true → 0 < levels → AreOnTheWay blobs items i → node no_lines blobs ≡ whole
  cells_whole blobs items i e n some way =
      ap (node no_lines) (ap (λ cs. gathered read blobs (map cell_block (map cell_of cs))) (sym (ap (λ m. drop m items) e ∙ drop-length items)) ∙ way)
      ∙ sym (reading-notebook rows docs_are_comments levels language text n some)
