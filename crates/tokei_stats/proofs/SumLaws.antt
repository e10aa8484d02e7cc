-- Sums in any order, and their summaries.
use Rattle.std.proofs.Common.{◌≡◌, ℕ, ◌<◌, Option, None, Some, refl, sym, ◌∙◌, ap, arith}
use Rattle.std.specs.Cmp.{ranks}
use Rattle.std.specs.Ordering.{nat_cmp, MatchOrdering}
use Rattle.std.specs.declared.cmp.Ordering.{Ordering}
use Rattle.std.specs.declared.cmp.Ordering.TheVariants.{Less, Equal, Greater}
use Rattle.tokei_stats.specs.Ordered.{AreOrdered, IsOrdered}
use Rattle.tokei_stats.specs.Statistics.{Counts, Statistics, Blobs, no_lines, empty, plus, by_order, at, put, joined, sum, add_all, summary, summaries}
use Rattle.tokei_stats.specs.SumLaws.{both}
use Rattle.tokei_stats.specs.Statistics.Statistics.{node}
use Rattle.tokei_stats.specs.Statistics.Blobs.{none, blob}
use Rattle.tokei_stats.proofs.SameMembers.{same_counts, same_node}
use Rattle.tokei_stats.proofs.BlobsAt.{OrderedAt, at_ordered, same_blobs, none_behind, behind_less, put_ordered}
use Rattle.tokei_stats.proofs.SumsOrdered.{both_none, add_at, sum_ordered, add_ordered}

pub plus_commutes : (a b : Counts) → plus a b ≡ plus b a
plus_commutes a b = same_counts (plus a b) (plus b a) (omega arith) (omega arith) (omega arith)

pub plus_associates : (a b c : Counts) → plus (plus a b) c ≡ plus a (plus b c)
plus_associates a b c = same_counts (plus (plus a b) c) (plus a (plus b c)) (omega arith) (omega arith) (omega arith)

pub plus_none : (a : Counts) → plus a no_lines ≡ a
plus_none a = same_counts (plus a no_lines) a (omega arith) (omega arith) (omega arith)

some_commutes : (s : Statistics) (o : Option Statistics) → OrderedAt o → ((t : Statistics) → IsOrdered t → sum s t ≡ sum t s) → both (Some s) o ≡ both o (Some s)
some_commutes s None h f = refl
some_commutes s (Some t) h f = ap Some (f t h)

pick : (r : Ordering) (P : Option Statistics → Type 0) (o q : Option Statistics) → P o → P q → P (by_order r o q o)
pick Less P o q h k = h
pick Equal P o q h k = k
pick Greater P o q h k = h

mutual
  pub commutes : (s t : Statistics) → IsOrdered s → IsOrdered t → sum s t ≡ sum t s
  commutes (node n bs) (node m cs) h k = same_node (plus n m) (plus m n) (add_all bs cs) (add_all cs bs) (plus_commutes n m)
      (same_blobs (add_all bs cs) (add_all cs bs) (add_ordered bs cs h k) (add_ordered cs bs k h)
      (λ i. add_at bs cs k i ∙ both_commutes bs i h (at cs i) (at_ordered cs i k) ∙ sym (add_at cs bs h i)))

  both_commutes : (bs : Blobs) (i : ℕ) → AreOrdered bs → (o : Option Statistics) → OrderedAt o → both (at bs i) o ≡ both o (at bs i)
  both_commutes none i h o g = sym (both_none o)
  both_commutes (blob j s rest) i h o g = pick (nat_cmp i j) (λ q. both q o ≡ both o q) (at rest i) (Some s)
      (both_commutes rest i h.1.1 o g) (some_commutes s o g (λ t k. commutes s t h.0 k))

some_associates : (s : Statistics) (o q : Option Statistics) → OrderedAt o → OrderedAt q
    → ((t u : Statistics) → IsOrdered t → IsOrdered u → sum (sum s t) u ≡ sum s (sum t u)) → both (both (Some s) o) q ≡ both (Some s) (both o q)
some_associates s None q h k f = refl
some_associates s (Some t) None h k f = refl
some_associates s (Some t) (Some u) h k f = ap Some (f t u h k)

mutual
  pub associates : (s t u : Statistics) → IsOrdered s → IsOrdered t → IsOrdered u → sum (sum s t) u ≡ sum s (sum t u)
  associates (node n bs) (node m cs) (node l ds) h k g = same_node (plus (plus n m) l) (plus n (plus m l)) (add_all (add_all bs cs) ds) (add_all bs (add_all cs ds)) (plus_associates n m l)
      (same_blobs (add_all (add_all bs cs) ds) (add_all bs (add_all cs ds)) (add_ordered (add_all bs cs) ds (add_ordered bs cs h k) g) (add_ordered bs (add_all cs ds) h (add_ordered cs ds k g))
      (λ i. add_at (add_all bs cs) ds g i ∙ ap (λ o. both o (at ds i)) (add_at bs cs k i)
      ∙ both_associates bs i h (at cs i) (at ds i) (at_ordered cs i k) (at_ordered ds i g)
      ∙ ap (both (at bs i)) (sym (add_at cs ds g i)) ∙ sym (add_at bs (add_all cs ds) (add_ordered cs ds k g) i)))

  both_associates : (bs : Blobs) (i : ℕ) → AreOrdered bs → (o q : Option Statistics) → OrderedAt o → OrderedAt q → both (both (at bs i) o) q ≡ both (at bs i) (both o q)
  both_associates none i h o q g k = refl
  both_associates (blob j s rest) i h o q g k = pick (nat_cmp i j) (λ p. both (both p o) q ≡ both p (both o q)) (at rest i) (Some s)
      (both_associates rest i h.1.1 o q g k) (some_associates s o q g k (λ t u a b. associates s t u h.0 a b))

pub neutral : (s : Statistics) → sum s empty ≡ s
neutral (node n bs) = same_node (plus n no_lines) n bs bs (plus_none n) refl

pub neutral_left : (s : Statistics) → IsOrdered s → sum empty s ≡ s
neutral_left s h = commutes empty s tt h ∙ neutral s

-- the summaries of blobs to which statistics are put together with what stands there
put_summaries : (f : Statistics → Statistics) (t : Statistics) → ((s : Statistics) → IsOrdered s → summary (f s) ≡ plus (summary s) (summary t))
    → (bs : Blobs) (k : ℕ) → AreOrdered bs → summaries (put bs k (joined (at bs k) f t)) ≡ plus (summaries bs) (summary t)
put_summaries f t g none k h = plus_commutes (summary t) no_lines
put_summaries f t g (blob j s rest) k h = by_cmp (nat_cmp k j) (ranks k j) (put_summaries f t g rest k h.1.1)
  where
    by_cmp : (o : Ordering) → MatchOrdering o (k < j) (k ≡ j) (j < k) → summaries (put rest k (joined (at rest k) f t)) ≡ plus (summaries rest) (summary t)
        → summaries (by_order o
        (blob k (joined (by_order o (at rest k) (Some s) (at rest k)) f t) (blob j s rest))
        (blob j (joined (by_order o (at rest k) (Some s) (at rest k)) f t) rest)
        (blob j s (put rest k (joined (by_order o (at rest k) (Some s) (at rest k)) f t))))
        ≡ plus (plus (summary s) (summaries rest)) (summary t)
    by_cmp Less l r =
        ap (λ o. plus (summary (joined o f t)) (plus (summary s) (summaries rest)))
        (none_behind k rest (behind_less k j rest l h.1.0))
        ∙ plus_commutes (summary t) (plus (summary s) (summaries rest))
    by_cmp Equal e r = ap (λ n. plus n (summaries rest)) (g s h.0) ∙ plus_associates (summary s) (summary t) (summaries rest)
        ∙ ap (plus (summary s)) (plus_commutes (summary t) (summaries rest)) ∙ sym (plus_associates (summary s) (summaries rest) (summary t))
    by_cmp Greater l r = ap (plus (summary s)) r ∙ sym (plus_associates (summary s) (summaries rest) (summary t))

swap : (a b c d : Counts) → plus (plus a b) (plus c d) ≡ plus (plus a c) (plus b d)
swap a b c d = same_counts (plus (plus a b) (plus c d)) (plus (plus a c) (plus b d)) (omega arith) (omega arith) (omega arith)

joined_ordered : (o : Option Statistics) (f : Statistics → Statistics) (t : Statistics) → OrderedAt o → ((s : Statistics) → IsOrdered s → IsOrdered (f s)) → IsOrdered t → IsOrdered (joined o f t)
joined_ordered None f t h g k = k
joined_ordered (Some s) f t h g k = g s h

mutual
  pub sum_summary : (s t : Statistics) → IsOrdered s → IsOrdered t → summary (sum s t) ≡ plus (summary s) (summary t)
  sum_summary (node n bs) (node m cs) h k = ap (plus (plus n m)) (add_summaries bs cs h k) ∙ swap n m (summaries bs) (summaries cs)

  add_summaries : (old bs : Blobs) → AreOrdered old → AreOrdered bs → summaries (add_all old bs) ≡ plus (summaries old) (summaries bs)
  add_summaries old none h k = sym (plus_none (summaries old))
  add_summaries old (blob j t rest) h k =
      add_summaries (put old j (joined (at old j) (λ s. sum s t) t)) rest
      (put_ordered old j (joined (at old j) (λ s. sum s t) t) h (joined_ordered (at old j) (λ s. sum s t) t (at_ordered old j h) (λ s o. sum_ordered s t o k.0) k.0)) k.1.1
      ∙ ap (λ n. plus n (summaries rest)) (put_summaries (λ s. sum s t) t (λ s o. sum_summary s t o k.0) old j h)
      ∙ plus_associates (summaries old) (summary t) (summaries rest)
