-- A map that is filled in the order of its keys.
use Rattle.std.proofs.Common.{◌≡◌, ℕ, List, [], ◌∷◌, ◌++◌, refl, sym, ◌∙◌, ap, subst}
use Rattle.std.specs.Ordering.{nat_cmp, ordering_reverse, match_ordering}
use Rattle.std.specs.Cmp.{nat_cmp_total}
use Rattle.std.specs.declared.cmp.Ordering.TheVariants.{Less, Greater}
use Rattle.std.specs.List.{AllByRecursion}
use Rattle.std.specs.List.Sorted.{IsStrictlySortedBy}
use Rattle.std.specs.Map.{keys_of}
use Rattle.std.specs.BTreeMap.{insert_entry}

all_at : {A : Type 0} (P : ℕ → Type 0) (old : List (ℕ × A)) (k : ℕ) (t : A) (rest : List (ℕ × A))
    → AllByRecursion P (keys_of (old ++ (k, t) ∷ rest)) → P k
all_at P [] k t rest h = h.0
all_at P (a ∷ old) k t rest h = all_at P old k t rest h.1

-- an entry above all goes to the end
pub insert_last : {A : Type 0} (old : List (ℕ × A)) (k : ℕ) (t : A) (rest : List (ℕ × A))
    → IsStrictlySortedBy nat_cmp (keys_of (old ++ (k, t) ∷ rest))
    → insert_entry nat_cmp old k t ++ rest ≡ old ++ (k, t) ∷ rest
unfolding IsStrictlySortedBy
insert_last [] k t rest h = refl
insert_last (a ∷ old) k t rest h =
    let less : nat_cmp a.0 k ≡ Less = all_at (λ y. nat_cmp a.0 y ≡ Less) old k t rest h.0 in
    let above : nat_cmp k a.0 ≡ Greater = nat_cmp_total.antisymm k a.0 ∙ ap ordering_reverse less in
    ap (λ o. match_ordering o ((k, t) ∷ a ∷ old) ((a.0, t) ∷ old) (a ∷ insert_entry nat_cmp old k t) ++ rest) above
    ∙ ap (λ es. a ∷ es) (insert_last old k t rest h.1)

-- one turn of a loop that fills a map in the order of its keys
pub filled_more : {A : Type 0} (old new : List (ℕ × A)) (k : ℕ) (t u : A) (rest all : List (ℕ × A))
    → new ≡ insert_entry nat_cmp old k t → t ≡ u → old ++ (k, u) ∷ rest ≡ all
    → IsStrictlySortedBy nat_cmp (keys_of all) → new ++ rest ≡ all
filled_more old new k t u rest all e f h sorted =
    let same : old ++ (k, t) ∷ rest ≡ all = ap (λ v. old ++ (k, v) ∷ rest) f ∙ h in
    ap (λ es. es ++ rest) e
    ∙ insert_last old k t rest (subst (λ es. IsStrictlySortedBy nat_cmp (keys_of es)) (sym same) sorted)
    ∙ same
