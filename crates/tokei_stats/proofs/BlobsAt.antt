-- Blobs as what stands at each language.
use Rattle.std.proofs.Common.{◌≡◌, ℕ, ◌<◌, Option, None, Some, unwrap_or, refl, sym, ◌∙◌, ap, subst, arith}
use Rattle.std.specs.Bool.{⊤}
use Rattle.std.specs.Cmp.{ranks, nat_cmp_is}
use Rattle.std.specs.Ordering.{nat_cmp, MatchOrdering}
use Rattle.std.specs.declared.cmp.Ordering.{Ordering}
use Rattle.std.specs.declared.cmp.Ordering.TheVariants.{Less, Equal, Greater}
use Rattle.std.proofs.lemmas.Cmp.{by_ranked}
use Rattle.tokei_stats.specs.Ordered.{StandBehind, AreOrdered, IsOrdered}
use Rattle.tokei_stats.specs.Statistics.{Statistics, Blobs, by_order, at, put}
use Rattle.tokei_stats.specs.Statistics.Blobs.{none, blob}

-- at the first language
pub at_head : (k : ℕ) (s : Statistics) (bs : Blobs) → at (blob k s bs) k ≡ Some s
at_head k s bs = ap (λ o. by_order o (at bs k) (Some s) (at bs k)) (sym (nat_cmp_is k k Equal refl))

-- at another one
pub at_tail : (j k : ℕ) (s : Statistics) (bs : Blobs) → (j ≡ k → ⊥) → at (blob k s bs) j ≡ at bs j
at_tail j k s bs n = by_ranked (j < k) (j ≡ k) (k < j) (nat_cmp j k) (ranks j k)
    (λ e _. ap (λ o. by_order o (at bs j) (Some s) (at bs j)) e)
    (λ _ p. absurd (n p))
    (λ e _. ap (λ o. by_order o (at bs j) (Some s) (at bs j)) e)

pub behind_less : (i k : ℕ) (bs : Blobs) → i < k → StandBehind k bs → StandBehind i bs
behind_less i k none l h = tt
behind_less i k (blob j t rest) l h = (omega (arith, l, h.0), behind_less i k rest l h.1)

pub none_behind : (k : ℕ) (bs : Blobs) → StandBehind k bs → at bs k ≡ None
none_behind k none h = refl
none_behind k (blob j t rest) h = at_tail k j t rest (λ e. omega (arith, h.0, e)) ∙ none_behind k rest h.1

abbrev IsNone : Option Statistics → Type 0
IsNone None = ⊤
IsNone (Some s) = ⊥

some_is_not : (s : Statistics) → None ≡ Some s → ⊥
some_is_not s e = subst IsNone e tt

-- the first statistics, where blobs of one first language have the same at each language
heads : (j : ℕ) (s t : Statistics) (rest more : Blobs) → ((i : ℕ) → at (blob j s rest) i ≡ at (blob j t more) i) → s ≡ t
heads j s t rest more h = ap (λ o. unwrap_or o s) (sym (at_head j s rest) ∙ h j ∙ at_head j t more)

-- the others
tails : (j : ℕ) (s t : Statistics) (rest more : Blobs) → StandBehind j rest → StandBehind j more → ((i : ℕ) → at (blob j s rest) i ≡ at (blob j t more) i) → (i : ℕ) → at rest i ≡ at more i
tails j s t rest more b c h i = by_ranked (i < j) (i ≡ j) (j < i) (nat_cmp i j) (ranks i j)
    (λ _ l. other (λ e. omega (arith, l, e)))
    (λ _ e. ap (at rest) e ∙ none_behind j rest b ∙ sym (none_behind j more c) ∙ ap (at more) (sym e))
    (λ _ l. other (λ e. omega (arith, l, e)))
  where
    other : (i ≡ j → ⊥) → at rest i ≡ at more i
    other n = sym (at_tail i j s rest n) ∙ h i ∙ at_tail i j t more n

-- blobs in the table's order are the same where the same stands at each language
pub same_blobs : (bs cs : Blobs) → AreOrdered bs → AreOrdered cs → ((k : ℕ) → at bs k ≡ at cs k) → bs ≡ cs
same_blobs none none b c h = refl
same_blobs none (blob k t more) b c h = absurd (some_is_not t (h k ∙ at_head k t more))
same_blobs (blob j s rest) none b c h = absurd (some_is_not s (sym (h j) ∙ at_head j s rest))
same_blobs (blob j s rest) (blob k t more) b c h = by_ranked (j < k) (j ≡ k) (k < j) (nat_cmp j k) (ranks j k)
    (λ _ l. absurd (some_is_not s (sym (none_behind j more (behind_less j k more l c.1.0)) ∙ sym (at_tail j k t more (λ e. omega (arith, l, e))) ∙ sym (h j) ∙ at_head j s rest)))
    (λ _ e. subst (λ i. StandBehind i more → ((n : ℕ) → at (blob j s rest) n ≡ at (blob i t more) n) → blob j s rest ≡ blob i t more) e
    (λ d g. ap (λ v. blob j v rest) (heads j s t rest more g) ∙ ap (blob j t) (same_blobs rest more b.1.1 c.1.1 (tails j s t rest more b.1.0 d g))) c.1.0 h)
    (λ _ l. absurd (some_is_not t (sym (none_behind k rest (behind_less k j rest l b.1.0)) ∙ sym (at_tail k j s rest (λ e. omega (arith, l, e))) ∙ h k ∙ at_head k t more)))

-- what was put at a language stands there
pub put_same : (bs : Blobs) (k : ℕ) (s : Statistics) → at (put bs k s) k ≡ Some s
put_same none k s = at_head k s none
put_same (blob j t rest) k s = by_cmp (nat_cmp k j) (ranks k j) (put_same rest k s)
  where
    by_cmp : (o : Ordering) → MatchOrdering o (k < j) (k ≡ j) (j < k) → at (put rest k s) k ≡ Some s → at (by_order o (blob k s (blob j t rest)) (blob j s rest) (blob j t (put rest k s))) k ≡ Some s
    by_cmp Less l r = at_head k s (blob j t rest)
    by_cmp Equal e r = ap (λ i. at (blob i s rest) k) (sym e) ∙ at_head k s rest
    by_cmp Greater l r = at_tail k j t (put rest k s) (λ e. omega (arith, l, e)) ∙ r

-- and nothing else changes
pub put_other : (bs : Blobs) (k : ℕ) (s : Statistics) (i : ℕ) → (i ≡ k → ⊥) → at (put bs k s) i ≡ at bs i
put_other none k s i n = at_tail i k s none n
put_other (blob j t rest) k s i n = by_cmp (nat_cmp k j) (ranks k j) (put_other rest k s i n)
  where
    by_cmp : (o : Ordering) → MatchOrdering o (k < j) (k ≡ j) (j < k)
        → at (put rest k s) i ≡ at rest i
        → at (by_order o (blob k s (blob j t rest)) (blob j s rest) (blob j t (put rest k s))) i
        ≡ at (blob j t rest) i
    by_cmp Less l r = at_tail i k s (blob j t rest) n
    by_cmp Equal e r = at_tail i j s rest (λ f. n (f ∙ sym e)) ∙ sym (at_tail i j t rest (λ f. n (f ∙ sym e)))
    by_cmp Greater l r = ap (λ x. by_order (nat_cmp i j) x (Some t) x) r

-- the statistics, if any, are in the table's order
abbrev pub OrderedAt : Option Statistics → Type 0
OrderedAt None = ⊤
OrderedAt (Some s) = IsOrdered s

pub at_ordered : (bs : Blobs) (k : ℕ) → AreOrdered bs → OrderedAt (at bs k)
at_ordered none k h = tt
at_ordered (blob j s rest) k h = by_cmp (nat_cmp k j) (at_ordered rest k h.1.1)
  where
    by_cmp : (o : Ordering) → OrderedAt (at rest k) → OrderedAt (by_order o (at rest k) (Some s) (at rest k))
    by_cmp Less r = r
    by_cmp Equal r = h.0
    by_cmp Greater r = r

put_behind : (i k : ℕ) (s : Statistics) (bs : Blobs) → i < k → StandBehind i bs → StandBehind i (put bs k s)
put_behind i k s none l h = (l, tt)
put_behind i k s (blob j t rest) l h = by_cmp (nat_cmp k j) (put_behind i k s rest l h.1)
  where
    by_cmp : (o : Ordering) → StandBehind i (put rest k s) → StandBehind i (by_order o (blob k s (blob j t rest)) (blob j s rest) (blob j t (put rest k s)))
    by_cmp Less r = (l, h)
    by_cmp Equal r = h
    by_cmp Greater r = (h.0, r)

pub put_ordered : (bs : Blobs) (k : ℕ) (s : Statistics) → AreOrdered bs → IsOrdered s → AreOrdered (put bs k s)
put_ordered none k s h o = (o, (tt, tt))
put_ordered (blob j t rest) k s h o = by_cmp (nat_cmp k j) (ranks k j) (put_ordered rest k s h.1.1 o)
  where
    by_cmp : (r : Ordering) → MatchOrdering r (k < j) (k ≡ j) (j < k) → AreOrdered (put rest k s) → AreOrdered (by_order r (blob k s (blob j t rest)) (blob j s rest) (blob j t (put rest k s)))
    by_cmp Less l a = (o, ((l, behind_less k j rest l h.1.0), h))
    by_cmp Equal e a = (o, h.1)
    by_cmp Greater l a = (h.0, (put_behind j k s rest l h.1.0, a))
