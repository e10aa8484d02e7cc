-- The reading of a text, part by part.
use Rattle.std.proofs.Common.{◌≡◌, ℕ, suc, zero, ◌+◌, ◌-◌, ◌<◌, Bool, true, false, cond, List, [], ◌∷◌, length, drop, Option, Some, sym, ◌∙◌, ap, subst, arith}
use Rattle.tokei_table.specs.Row.{Row}
use Rattle.tokei_table.specs.Lookups.{row_at}
use Rattle.tokei_parts.specs.Items.{Block}
use Rattle.tokei_parts.specs.Derivation.{items_of}
use Rattle.tokei_parts.specs.Modes.{Chain, Mark, marks}
use Rattle.tokei_parts.specs.Parts.{parts_of}
use Rattle.tokei_notebook.specs.Cells.{notebook_cells}
use Rattle.tokei_count.specs.Languages.{is_notebook}
use Rattle.tokei_count.specs.Languages.{languages_of}
use Rattle.tokei_count.specs.Gathered.{gathered, shares}
use Rattle.tokei_count.specs.PlainReading.{blocks}
use Rattle.tokei_parts.specs.Tally.{children, one_of, tally}
use Rattle.tokei_count.specs.PlainReading.{reading, read_by, notebook_by, child_reading}
use Rattle.tokei_count.specs.NotebookCells.{cell_blocks}
use Rattle.tokei_parts.specs.Progress.{marks_ahead, counts_left, children_left, ReadsLine, ReadsChild}
use Rattle.tokei_stats.specs.Statistics.{Counts, Statistics, Blobs, plus, no_lines, empty, at, put, joined, sum}
use Rattle.tokei_stats.specs.Statistics.Statistics.{node}
use Rattle.tokei_stats.specs.Statistics.Blobs.{none}
use Rattle.tokei_stats.specs.Overflow.{CountsFit, Fits, BlobsFit}
use Rattle.tokei_parts.specs.declared.class.Class.{Class}
use Rattle.tokei_count.proofs.Fitting.{gathered-child, gathered-first}
use Rattle.tokei_count.proofs.Gathered.{gathered-sum, gathered-cells}
use Rattle.tokei_count.proofs.Summaries.{reading-ordered}
use Rattle.tokei_stats.proofs.Fitting.{counts-left}
use Rattle.tokei_parts.proofs.Lines.{counts_left-none, children_left-none}

pub counts_same : (a b : Counts) → a.blanks ≡ b.blanks → a.code ≡ b.code → a.comments ≡ b.comments → a ≡ b
counts_same a b x y z =
    ap (λ w. record { blanks = w; code = a.code; comments = a.comments }) x
    ∙ ap (λ w. record { blanks = b.blanks; code = w; comments = a.comments }) y
    ∙ ap (λ w. record { blanks = b.blanks; code = b.code; comments = w }) z

line_on : (own one left more : Counts) → plus (plus own one) (plus left more) ≡ plus own (plus (plus one left) more)
line_on own one left more = counts_same _ _ (omega arith) (omega arith) (omega arith)

child_on : (own share left more : Counts) → plus (plus own share) (plus left more) ≡ plus own (plus left (plus share more))
child_on own share left more = counts_same _ _ (omega arith) (omega arith) (omega arith)

done_on : (own : Counts) → plus own (plus no_lines no_lines) ≡ own
done_on own = counts_same _ _ (omega arith) (omega arith) (omega arith)

first_fits : (a b : Counts) → CountsFit (plus a b) → CountsFit a
first_fits a b h = counts-left a b h

module _ (rows : List Row) (docs_are_comments : Bool) (levels language : ℕ) (text : List ℕ) where
  abbrev g : Row
  g = row_at rows language

  abbrev block : ℕ → List ℕ → Option Block
  block = blocks (languages_of rows) levels language text

  abbrev read : Block → Statistics
  read = child_reading (languages_of rows) docs_are_comments levels

  abbrev whole : Statistics
  whole = reading (languages_of rows) docs_are_comments levels language text

  abbrev all_kids : List Block
  all_kids = children_left g block (length text) [] text

  abbrev all_counts : Counts
  all_counts = plus (counts_left g block (length text) docs_are_comments [] text) (shares all_kids)

  -- what was read so far and what is left are the whole
  pub record IsCounted (own : Counts) (blobs : Blobs) (l : ℕ) (c : Chain) (rest : List ℕ) : Type 0 where
    pub counts : plus own (plus (counts_left g block l docs_are_comments c rest) (shares (children_left g block l c rest))) ≡ all_counts
    pub kids : gathered read blobs (children_left g block l c rest) ≡ gathered read none all_kids

  pub reading-lines : is_notebook g ≡ false → whole ≡ node all_counts (gathered read none all_kids)
  unfolding reading marks_ahead
  reading-lines h = by_levels levels h
    where
      by_levels : (n : ℕ) → is_notebook (row_at rows language) ≡ false
          → reading (languages_of rows) docs_are_comments n language text
          ≡ node (plus
          (counts_left (row_at rows language) (blocks (languages_of rows) n language text)
          (length text) docs_are_comments [] text)
          (shares (children_left (row_at rows language)
          (blocks (languages_of rows) n language text) (length text) [] text)))
          (gathered (child_reading (languages_of rows) docs_are_comments n) none (children_left (row_at rows language) (blocks (languages_of rows) n language text) (length text) [] text))
      by_levels zero h =
          let ms : List Mark = marks [] (items_of (row_at rows language) (blocks (languages_of rows) zero language text) text) in
          ap (λ x. cond x empty (read_by (row_at rows language) docs_are_comments (λ k. empty) ms)) h
          ∙ gathered-sum (λ k. empty) (λ k. tt) (tally (row_at rows language) docs_are_comments (parts_of ms)) none (children ms) tt
      by_levels (suc n) h =
          let ms : List Mark = marks [] (items_of (row_at rows language) (blocks (languages_of rows) (suc n) language text) text) in
          let inner : Block → Statistics = λ (k : Block). reading (languages_of rows) docs_are_comments n k.language k.contents in
          ap (λ x. cond x (notebook_by inner (cell_blocks rows language text)) (read_by (row_at rows language) docs_are_comments inner ms)) h
          ∙ gathered-sum inner (λ k. reading-ordered (languages_of rows) docs_are_comments n k.language k.contents) (tally (row_at rows language) docs_are_comments (parts_of ms)) none (children ms) tt

  -- a notebook, with levels left or none
  pub reading-notebook : is_notebook g ≡ true → 0 < levels → whole ≡ node no_lines (gathered read none (cell_blocks rows language text))
  unfolding reading
  reading-notebook h some = by_levels levels some h
    where
      by_levels : (n : ℕ) → 0 < n → is_notebook (row_at rows language) ≡ true
          → reading (languages_of rows) docs_are_comments n language text ≡ node no_lines (gathered (child_reading (languages_of rows) docs_are_comments n) none (cell_blocks rows language text))
      by_levels zero some h = absurd (omega (arith, some))
      by_levels (suc n) some h =
          let ms : List Mark = marks [] (items_of (row_at rows language) (blocks (languages_of rows) (suc n) language text) text) in
          let inner : Block → Statistics = λ (k : Block). reading (languages_of rows) docs_are_comments n k.language k.contents in
          ap (λ x. cond x (notebook_by inner (cell_blocks rows language text)) (read_by (row_at rows language) docs_are_comments inner ms)) h
          ∙ gathered-cells inner (λ k. reading-ordered (languages_of rows) docs_are_comments n k.language k.contents) (notebook_cells rows language text)

  pub reading-no_notebook : is_notebook g ≡ true → levels ≡ 0 → whole ≡ empty
  unfolding reading
  reading-no_notebook h none_left = by_levels levels none_left h
    where
      by_levels : (n : ℕ) → n ≡ 0 → is_notebook (row_at rows language) ≡ true → reading (languages_of rows) docs_are_comments n language text ≡ empty
      by_levels zero e h =
          ap
          (λ x. cond x empty (read_by (row_at rows language) docs_are_comments (λ k. empty)
          (marks [] (items_of (row_at rows language)
          (blocks (languages_of rows) zero language text) text))))
          h
      by_levels (suc n) e h = absurd (omega (arith, e))

  -- at the end nothing is left
  pub read_whole : (own : Counts) (blobs : Blobs) (l : ℕ) (c : Chain) → is_notebook g ≡ false → IsCounted own blobs l c [] → node own blobs ≡ whole
  read_whole own blobs l c n u =
      let no_kids : children_left g block l c [] ≡ [] = children_left-none g block l docs_are_comments c in
      let own_is : own ≡ all_counts = sym (done_on own)
      ∙ ap (λ m. plus own (plus m no_lines)) (sym (counts_left-none g block l docs_are_comments c))
      ∙ ap (λ ks. plus own (plus (counts_left g block l docs_are_comments c []) (shares ks))) (sym no_kids)
      ∙ u.counts in
      let blobs_are : blobs ≡ gathered read none all_kids = ap (gathered read blobs) (sym no_kids) ∙ u.kids in
      ap (λ m. node m blobs) own_is ∙ ap (node all_counts) blobs_are ∙ sym (reading-lines n)

  module _ (own : Counts) (blobs : Blobs) (l : ℕ) (c : Chain) (rest : List ℕ) (u : IsCounted own blobs l c rest) where
    -- the counts so far fit where the whole does
    pub own_fits : is_notebook g ≡ false → Fits whole → CountsFit own
    own_fits i f =
        let h : Fits (node all_counts (gathered read none all_kids)) = subst Fits (reading-lines i) f in
        first_fits own (plus (counts_left g block l docs_are_comments c rest) (shares (children_left g block l c rest))) (subst CountsFit (sym u.counts) h.0)

    -- a line
    pub line_read : (n : ℕ) (class : Class) (d : Chain) → {j : ℕ} → ReadsLine g block l docs_are_comments c n j class d rest → IsCounted (plus own (one_of class)) blobs l d (drop n rest)
    line_read n class d r =
        let left : Counts = counts_left g block l docs_are_comments d (drop n rest) in
        let kids : List Block = children_left g block l d (drop n rest) in
        record {
          counts = line_on own (one_of class) left (shares kids)
              ∙ ap (λ m. plus own (plus m (shares kids))) (sym r.counts)
              ∙ ap (λ ks. plus own (plus (counts_left g block l docs_are_comments c rest) (shares ks))) (sym r.kids)
              ∙ u.counts;
          kids = ap (gathered read blobs) (sym r.kids) ∙ u.kids;
        }

    -- a child
    module _ (n j : ℕ) (k : Block) (d : Chain) (r : ReadsChild g block l docs_are_comments c n j k d rest) where
      abbrev l' : ℕ
      l' = length rest - (n + k.size)

      abbrev behind : List ℕ
      behind = drop (n + k.size) rest

      abbrev with_child : Blobs
      with_child = put blobs k.language (joined (at blobs k.language) (λ s. sum s (read k)) (read k))

      kids_here : children_left g block l c rest ≡ k ∷ children_left g block l' [] behind
      kids_here = r.kids

      pub child_read : IsCounted (plus own k.share) with_child l' [] behind
      child_read =
          let left : Counts = counts_left g block l' docs_are_comments [] behind in
          let more : Counts = shares (children_left g block l' [] behind) in
          record {
            counts = child_on own k.share left more
                ∙ ap (λ ks. plus own (plus left (shares ks))) (sym kids_here)
                ∙ ap (λ m. plus own (plus m (shares (children_left g block l c rest)))) (sym r.counts)
                ∙ u.counts;
            kids = ap (gathered read blobs) (sym kids_here) ∙ u.kids;
          }

      kids_fit : is_notebook g ≡ false → Fits whole → BlobsFit (gathered read blobs (k ∷ children_left g block l' [] behind))
      kids_fit i f = let h : Fits (node all_counts (gathered read none all_kids)) = subst Fits (reading-lines i) f in subst BlobsFit (sym (ap (gathered read blobs) (sym kids_here) ∙ u.kids)) h.1

      pub child_fits : is_notebook g ≡ false → Fits whole → Fits (read k)
      child_fits i f = gathered-child read blobs k (children_left g block l' [] behind) (kids_fit i f)

      pub blob_fits : is_notebook g ≡ false → Fits whole → Fits (joined (at blobs k.language) (λ s. sum s (read k)) (read k))
      blob_fits i f = gathered-first read blobs k (children_left g block l' [] behind) (kids_fit i f)

      pub share_fits : is_notebook g ≡ false → Fits whole → CountsFit (plus own k.share)
      share_fits i f =
          let h : Fits (node all_counts (gathered read none all_kids)) = subst Fits (reading-lines i) f in
          let same : plus (plus own k.share) (plus (counts_left g block l' docs_are_comments [] behind) (shares (children_left g block l' [] behind))) ≡ all_counts = child_read.counts in
          first_fits (plus own k.share) (plus (counts_left g block l' docs_are_comments [] behind) (shares (children_left g block l' [] behind))) (subst CountsFit (sym same) h.0)

    pub line_fits : (n : ℕ) (class : Class) (d : Chain) → {j : ℕ} → ReadsLine g block l docs_are_comments c n j class d rest → is_notebook g ≡ false → Fits whole → CountsFit (plus own (one_of class))
    line_fits n class d r i f =
        let h : Fits (node all_counts (gathered read none all_kids)) = subst Fits (reading-lines i) f in
        let v = line_read n class d r in
        first_fits (plus own (one_of class)) (plus (counts_left g block l docs_are_comments d (drop n rest)) (shares (children_left g block l d (drop n rest)))) (subst CountsFit (sym v.counts) h.0)

-- where a child opens, levels are left
pub levels_left : (rows : List Row) (n language : ℕ) (text : List ℕ) (l : ℕ) (u : List ℕ) (k : Block) → blocks (languages_of rows) n language text l u ≡ Some k → 0 < n
levels_left rows zero language text l u k e = cc
levels_left rows (suc n) language text l u k e = omega arith

pub child_reading-is : (rows : List Row) (docs_are_comments : Bool) (n : ℕ) (k : Block) → 0 < n
    → child_reading (languages_of rows) docs_are_comments n k
    ≡ reading (languages_of rows) docs_are_comments (n - 1) k.language k.contents
child_reading-is rows docs_are_comments zero k h = absurd (omega arith)
child_reading-is rows docs_are_comments (suc n) k h = let e : n ≡ suc n - 1 = omega arith in ap (λ m. reading (languages_of rows) docs_are_comments m k.language k.contents) e
