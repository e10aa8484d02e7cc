-- The entries of a map are in the table's order.
use Rattle.std.proofs.Common.{ℕ, ◌≡◌, List, [], ◌∷◌, sym}
use Rattle.std.specs.Ordering.{nat_cmp}
use Rattle.std.specs.declared.cmp.Ordering.TheVariants.{Less}
use Rattle.std.specs.List.{AllByRecursion}
use Rattle.std.specs.List.Sorted.{IsStrictlySortedBy}
use Rattle.std.specs.Map.{keys_of}
use Rattle.std.proofs.lemmas.Cmp.{ranked}
use Rattle.tokei_stats.specs.Ordered.{IsOrdered, AreOrdered, StandBehind}
use Rattle.tokei_stats.specs.Seen.{stats_of, blobs_of, entries_of}
use Rattle.tokei_stats.specs.declared.stats.CodeStats.{CodeStats}

stand_behind : (k : ℕ) (es : List (ℕ × CodeStats)) → AllByRecursion (λ y. nat_cmp k y ≡ Less) (keys_of es) → StandBehind k (blobs_of (entries_of es))
stand_behind k [] h = tt
stand_behind k (e ∷ es) h = (ranked k e.0 Less (sym h.0), stand_behind k es h.1)

pub sorted_rest : (e : ℕ × CodeStats) (es : List (ℕ × CodeStats)) → IsStrictlySortedBy nat_cmp (keys_of (e ∷ es)) → IsStrictlySortedBy nat_cmp (keys_of es)
unfolding IsStrictlySortedBy
sorted_rest e es h = h.1

pub ordered_first : (e : ℕ × CodeStats) (es : List (ℕ × CodeStats)) → IsStrictlySortedBy nat_cmp (keys_of (e ∷ es)) → IsOrdered (stats_of e.1)
    → AreOrdered (blobs_of (entries_of es)) → AreOrdered (blobs_of (entries_of (e ∷ es)))
unfolding IsStrictlySortedBy
ordered_first e es h o r = (o, (stand_behind e.0 es h.0, r))
