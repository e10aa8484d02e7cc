-- What was gathered so far and what further children add are the sum of both.
use Rattle.std.proofs.Common.{◌≡◌, List, [], ◌∷◌, map, refl, sym, ◌∙◌, ap}
use Rattle.tokei_notebook.specs.Cells.{Cell}
use Rattle.tokei_stats.specs.Ordered.{AreOrdered, IsOrdered}
use Rattle.tokei_stats.specs.Statistics.{Counts, Statistics, Blobs, no_lines, plus, at, put, joined, sum}
use Rattle.tokei_stats.specs.Statistics.Statistics.{node}
use Rattle.tokei_stats.specs.Statistics.Blobs.{none}
use Rattle.tokei_stats.proofs.SumLaws.{associates, neutral_left, plus_associates}
use Rattle.tokei_stats.proofs.SumsOrdered.{sum_ordered}
use Rattle.tokei_count.specs.Gathered.{gathered, shares}
use Rattle.tokei_parts.specs.Items.{Block}
use Rattle.tokei_count.specs.NotebookCells.{cell_block}
use Rattle.tokei_count.specs.PlainReading.{child_adds, children_add}

-- cells add nothing to a notebook's own lines
shares-none : (cs : List Cell) → shares (map cell_block cs) ≡ no_lines
shares-none [] = refl
shares-none (c ∷ cs) = ap (plus no_lines) (shares-none cs)

module _ (read : Block → Statistics) (each : (k : Block) → IsOrdered (read k)) where
  adds-ordered : (k : Block) → IsOrdered (child_adds read k)
  adds-ordered k = (each k, (tt, tt))

  pub add-ordered : (ks : List Block) → IsOrdered (children_add read ks)
  add-ordered [] = tt
  add-ordered (k ∷ ks) = sum_ordered (child_adds read k) (children_add read ks) (adds-ordered k) (add-ordered ks)

  pub gathered-sum : (n : Counts) (bs : Blobs) (ks : List Block) → AreOrdered bs
      → sum (node n bs) (children_add read ks) ≡ node (plus n (shares ks)) (gathered read bs ks)
  gathered-sum n bs [] h = refl
  gathered-sum n bs (k ∷ ks) h =
      let with_child : Blobs = put bs k.language (joined (at bs k.language) (λ s. sum s (read k)) (read k)) in
      sym (associates (node n bs) (child_adds read k) (children_add read ks) h (adds-ordered k) (add-ordered ks))
      ∙ gathered-sum (plus n k.share) with_child ks (sum_ordered (node n bs) (child_adds read k) h (adds-ordered k))
      ∙ ap (λ m. node m (gathered read with_child ks)) (plus_associates n k.share (shares ks))

  pub gathered-cells : (cs : List Cell) → children_add read (map cell_block cs) ≡ node no_lines (gathered read none (map cell_block cs))
  gathered-cells cs =
      let ks : List Block = map cell_block cs in
      sym (neutral_left (children_add read ks) (add-ordered ks))
      ∙ gathered-sum no_lines none ks tt
      ∙ ap (λ m. node (plus no_lines m) (gathered read none ks)) (shares-none cs)
