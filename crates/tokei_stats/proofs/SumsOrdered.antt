-- Sums of statistics in the table's order, language by language.
use Rattle.std.proofs.Common.{◌≡◌, ℕ, ◌<◌, Option, None, Some, refl, sym, ◌∙◌, ap, arith}
use Rattle.std.specs.Cmp.{ranks}
use Rattle.std.specs.Ordering.{nat_cmp}
use Rattle.std.proofs.lemmas.Cmp.{by_ranked}
use Rattle.tokei_stats.specs.Ordered.{AreOrdered, IsOrdered}
use Rattle.tokei_stats.specs.Statistics.{Statistics, Blobs, at, put, joined, sum, add_all}
use Rattle.tokei_stats.specs.SumLaws.{both}
use Rattle.tokei_stats.specs.Statistics.Statistics.{node}
use Rattle.tokei_stats.specs.Statistics.Blobs.{none, blob}
use Rattle.tokei_stats.proofs.BlobsAt.{at_head, at_tail, none_behind, put_same, put_other, put_ordered, OrderedAt, at_ordered}

joined_ordered : (o : Option Statistics) (f : Statistics → Statistics) (t : Statistics) → OrderedAt o → ((s : Statistics) → IsOrdered s → IsOrdered (f s)) → IsOrdered t → IsOrdered (joined o f t)
joined_ordered None f t h g k = k
joined_ordered (Some s) f t h g k = g s h

mutual
  pub sum_ordered : (s t : Statistics) → IsOrdered s → IsOrdered t → IsOrdered (sum s t)
  sum_ordered (node n bs) (node m cs) h k = add_ordered bs cs h k

  pub add_ordered : (old bs : Blobs) → AreOrdered old → AreOrdered bs → AreOrdered (add_all old bs)
  add_ordered old none h k = h
  add_ordered old (blob j t rest) h k = add_ordered (put old j (joined (at old j) (λ s. sum s t) t)) rest
      (put_ordered old j (joined (at old j) (λ s. sum s t) t) h (joined_ordered (at old j) (λ s. sum s t) t (at_ordered old j h) (λ s o. sum_ordered s t o k.0) k.0)) k.1.1

pub both_none : (o : Option Statistics) → both o None ≡ o
both_none None = refl
both_none (Some s) = refl

joined_both : (o : Option Statistics) (t : Statistics) → both (Some (joined o (λ s. sum s t) t)) None ≡ both o (Some t)
joined_both None t = refl
joined_both (Some s) t = refl

-- what a sum has at a language
pub add_at : (old bs : Blobs) → AreOrdered bs → (k : ℕ) → at (add_all old bs) k ≡ both (at old k) (at bs k)
add_at old none h k = sym (both_none (at old k))
add_at old (blob j t rest) h k = add_at with_t rest h.1.1 k ∙ by_ranked (k < j) (k ≡ j) (j < k) (nat_cmp k j) (ranks k j)
    (λ _ l. other (λ e. omega (arith, l, e)))
    (λ _ e. ap (λ i. both (at with_t i) (at rest i)) e ∙ here ∙ ap (λ i. both (at old i) (at (blob j t rest) i)) (sym e))
    (λ _ l. other (λ e. omega (arith, l, e)))
  where
    with_t : Blobs
    with_t = put old j (joined (at old j) (λ s. sum s t) t)

    here : both (at with_t j) (at rest j) ≡ both (at old j) (at (blob j t rest) j)
    here = ap (λ o. both o (at rest j)) (put_same old j (joined (at old j) (λ s. sum s t) t))
        ∙ ap (both (Some (joined (at old j) (λ s. sum s t) t))) (none_behind j rest h.1.0)
        ∙ joined_both (at old j) t ∙ ap (both (at old j)) (sym (at_head j t rest))

    other : (k ≡ j → ⊥) → both (at with_t k) (at rest k) ≡ both (at old k) (at (blob j t rest) k)
    other n = ap (λ o. both o (at rest k)) (put_other old j (joined (at old j) (λ s. sum s t) t) k n) ∙ ap (both (at old k)) (sym (at_tail k j t rest n))
