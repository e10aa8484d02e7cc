-- The blobs of a reading stand in the table's order.
use Rattle.std.proofs.Common.{ℕ, zero, suc, Bool, true, false, cond, List, [], ◌∷◌}
use Rattle.tokei_count.specs.Languages.{Languages, is_notebook}
use Rattle.tokei_count.specs.PlainReading.{blocks, child_adds, children_add, notebook_by, read_by, reading}
use Rattle.tokei_parts.specs.Derivation.{items_of}
use Rattle.tokei_parts.specs.Items.{Block}
use Rattle.tokei_parts.specs.Modes.{Mark, marks}
use Rattle.tokei_parts.specs.Parts.{parts_of}
use Rattle.tokei_parts.specs.Tally.{children, tally}
use Rattle.tokei_stats.specs.Ordered.{IsOrdered}
use Rattle.tokei_stats.specs.Statistics.{Counts, Statistics, empty, sum}
use Rattle.tokei_stats.specs.Statistics.Statistics.{node}
use Rattle.tokei_stats.specs.Statistics.Blobs.{none}
use Rattle.tokei_stats.proofs.SumsOrdered.{sum_ordered}

adds_ordered : (read : Block → Statistics) → ((k : Block) → IsOrdered (read k)) → (ks : List Block) → IsOrdered (children_add read ks)
adds_ordered read h [] = tt
adds_ordered read h (k ∷ ks) = sum_ordered (child_adds read k) (children_add read ks) (h k, (tt, tt)) (adds_ordered read h ks)

module _ (ls : Languages) (docs_are_comments : Bool) where
  pub reading_ordered : (levels language : ℕ) (t : List ℕ) → IsOrdered (reading ls docs_are_comments levels language t)
  unfolding reading
  reading_ordered zero language t = by_test (is_notebook (ls.row language))
    where
      ms : List Mark
      ms = marks [] (items_of (ls.row language) (blocks ls zero language t) t)

      own : Counts
      own = tally (ls.row language) docs_are_comments (parts_of ms)

      by_test : (x : Bool) → IsOrdered (cond x empty (read_by (ls.row language) docs_are_comments (λ k. empty) ms))
      by_test true = tt
      by_test false = sum_ordered (node own none) (children_add (λ k. empty) (children ms)) tt (adds_ordered (λ k. empty) (λ k. tt) (children ms))
  reading_ordered (suc n) language t = by_test (is_notebook (ls.row language)) (λ k. reading_ordered n k.language k.contents)
    where
      ms : List Mark
      ms = marks [] (items_of (ls.row language) (blocks ls (suc n) language t) t)

      own : Counts
      own = tally (ls.row language) docs_are_comments (parts_of ms)

      read : Block → Statistics
      read k = reading ls docs_are_comments n k.language k.contents

      by_test : (x : Bool) → ((k : Block) → IsOrdered (read k))
          → IsOrdered (cond x (notebook_by read (ls.cells language t)) (read_by (ls.row language) docs_are_comments read ms))
      by_test true each = adds_ordered read each (ls.cells language t)
      by_test false each = sum_ordered (node own none) (children_add read (children ms)) tt (adds_ordered read each (children ms))
