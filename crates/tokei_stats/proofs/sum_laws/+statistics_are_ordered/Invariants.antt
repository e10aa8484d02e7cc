use Rattle.std.specs.Ordering.{nat_cmp}
use Rattle.std.specs.List.Sorted.{IsStrictlySortedBy}
use Rattle.std.specs.Map.{keys_of}
use Rattle.tokei_stats.specs.Ordered.{IsOrdered, AreOrdered}
use Rattle.tokei_stats.specs.Seen.{stats_of, blobs_of, entries_of}
use Rattle.tokei_stats.proofs.sum_laws.+statistics_are_ordered.Given as goal

abbrev pub invariant-loop-inner : goal.invariant-loop-inner
invariant-loop-inner l = record {
  sorted : IsStrictlySortedBy nat_cmp (keys_of l.inner-iterator);
  ordered : AreOrdered (blobs_of (entries_of l.inner-iterator)) → IsOrdered (stats_of l.stats);
}
