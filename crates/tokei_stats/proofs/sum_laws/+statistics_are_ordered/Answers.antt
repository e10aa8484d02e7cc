use Rattle.std.proofs.Common.{ℕ, ◌∷◌, sym, subst}
use Rattle.std.specs.Ordering.{nat_cmp}
use Rattle.std.specs.List.Sorted.{IsStrictlySortedBy}
use Rattle.std.specs.Map.{keys_of}
use Rattle.tokei_stats.specs.Ordered.{AreOrdered}
use Rattle.tokei_stats.specs.Seen.{blobs_of, entries_of}
use Rattle.tokei_stats.specs.declared.stats.CodeStats.{CodeStats}
use Rattle.tokei_stats.proofs.MapsOrdered.{sorted_rest, ordered_first}
use Rattle.tokei_stats.proofs.sum_laws.+statistics_are_ordered.Goals as goal

pub loop-inner-preserved : goal.loop-inner-preserved
loop-inner-preserved t c =
    let first : ℕ × CodeStats = (c.in-Some.field-0-0.now, c.in-Some.inner.now) in
    let sorted : IsStrictlySortedBy nat_cmp (keys_of (first ∷ c.next.new.self)) = subst (λ es. IsStrictlySortedBy nat_cmp (keys_of es)) c.in-Some.ensures.steps c.loop-inner.invariant.sorted in
    record {
      sorted = sorted_rest first c.next.new.self sorted;
      ordered =
          λ h. c.loop-inner.invariant.ordered (subst (λ es. AreOrdered (blobs_of (entries_of es)))
          (sym c.in-Some.ensures.steps)
          (ordered_first first c.next.new.self sorted c.statistics_are_ordered.ensures h));
    }

pub returns : goal.returns
returns t c = c.loop-inner.invariant.ordered (subst (λ es. AreOrdered (blobs_of (entries_of es))) (sym c.in-None.ensures.steps.0) tt)
