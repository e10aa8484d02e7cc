-- A map that is copied entry by entry, in the order of its keys.
use Rattle.std.proofs.Common.{◌≡◌, ℕ, List, [], ◌∷◌, ◌++◌, map, refl, sym, ◌∙◌, ap, subst}
use Rattle.std.specs.Ordering.{nat_cmp, ordering_reverse, match_ordering}
use Rattle.std.specs.Cmp.{nat_cmp_total}
use Rattle.std.specs.declared.cmp.Ordering.{Ordering}
use Rattle.std.specs.declared.cmp.Ordering.TheVariants.{Less, Equal, Greater}
use Rattle.std.specs.List.{AllByRecursion}
use Rattle.std.specs.List.Sorted.{IsStrictlySortedBy}
use Rattle.std.specs.Map.{keys_of}
use Rattle.std.specs.BTreeMap.{insert_entry}
use Rattle.tokei_stats.specs.Seen.{stats_of, entries_of}
use Rattle.tokei_stats.specs.declared.stats.CodeStats.{CodeStats}

all_at : {A : Type 0} (P : ℕ → Type 0) (old : List (ℕ × A)) (k : ℕ) (t : A) (rest : List (ℕ × A)) → AllByRecursion P (keys_of (old ++ (k, t) ∷ rest)) → P k
all_at P [] k t rest h = h.0
all_at P (a ∷ old) k t rest h = all_at P old k t rest h.1

-- an entry above all goes to the end
insert_last : {A : Type 0} (old : List (ℕ × A)) (k : ℕ) (t : A) (rest : List (ℕ × A))
    → IsStrictlySortedBy nat_cmp (keys_of (old ++ (k, t) ∷ rest))
    → insert_entry nat_cmp old k t ++ rest ≡ old ++ (k, t) ∷ rest
unfolding IsStrictlySortedBy
insert_last [] k t rest h = refl
insert_last (a ∷ old) k t rest h =
    let less : nat_cmp a.0 k ≡ Less = all_at (λ y. nat_cmp a.0 y ≡ Less) old k t rest h.0 in
    let above : nat_cmp k a.0 ≡ Greater = nat_cmp_total.antisymm k a.0 ∙ ap ordering_reverse less in
    ap (λ o. match_ordering o ((k, t) ∷ a ∷ old) ((a.0, t) ∷ old) (a ∷ insert_entry nat_cmp old k t) ++ rest) above
    ∙ ap (λ es. a ∷ es) (insert_last old k t rest h.1)

insert_by : {A B : Type 0} (f : A → B) (o : Ordering) (k : ℕ) (v : A) (e : ℕ × A) (es : List (ℕ × A)) (more : List (ℕ × A)) (more' : List (ℕ × B))
    → map (λ e. (e.0, f e.1)) more ≡ more'
    → map (λ e. (e.0, f e.1)) (match_ordering o ((k, v) ∷ e ∷ es) ((e.0, v) ∷ es) (e ∷ more))
    ≡ match_ordering o ((k, f v) ∷ (e.0, f e.1) ∷ map (λ e. (e.0, f e.1)) es)
    ((e.0, f v) ∷ map (λ e. (e.0, f e.1)) es) ((e.0, f e.1) ∷ more')
insert_by f Less k v e es more more' h = refl
insert_by f Equal k v e es more more' h = refl
insert_by f Greater k v e es more more' h = ap (λ w. (e.0, f e.1) ∷ w) h

pub insert_seen : (es : List (ℕ × CodeStats)) (k : ℕ) (v : CodeStats) → entries_of (insert_entry nat_cmp es k v) ≡ insert_entry nat_cmp (entries_of es) k (stats_of v)
insert_seen [] k v = refl
insert_seen (e ∷ es) k v = insert_by stats_of (nat_cmp k e.0) k v e es (insert_entry nat_cmp es k v) (insert_entry nat_cmp (entries_of es) k (stats_of v)) (insert_seen es k v)

keys_seen : (es : List (ℕ × CodeStats)) → keys_of (entries_of es) ≡ keys_of es
keys_seen [] = refl
keys_seen (e ∷ es) = ap (λ w. e.0 ∷ w) (keys_seen es)

pub clone_more : (old rest all : List (ℕ × CodeStats)) (k : ℕ) (v w : CodeStats)
    → entries_of old ++ entries_of ((k, w) ∷ rest) ≡ entries_of all → IsStrictlySortedBy nat_cmp (keys_of all) → stats_of v ≡ stats_of w
    → entries_of (insert_entry nat_cmp old k v) ++ entries_of rest ≡ entries_of all
clone_more old rest all k v w h s e =
    let same : entries_of old ++ (k, stats_of v) ∷ entries_of rest ≡ entries_of all = ap (λ t. entries_of old ++ (k, t) ∷ entries_of rest) e ∙ h in
    let sorted : IsStrictlySortedBy nat_cmp (keys_of (entries_of old ++ (k, stats_of v) ∷ entries_of rest)) = subst (IsStrictlySortedBy nat_cmp) (sym (keys_seen all) ∙ ap keys_of (sym same)) s in
    ap (λ es. es ++ entries_of rest) (insert_seen old k v) ∙ insert_last (entries_of old) k (stats_of v) (entries_of rest) sorted ∙ same
