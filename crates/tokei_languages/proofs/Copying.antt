-- A map that is filled in the order of its keys.
use Rattle.std.proofs.Common.{◌≡◌, ℕ, List, [], ◌∷◌, ◌++◌, refl, sym, ◌∙◌, ap, subst}
use Rattle.std.specs.Ordering.{nat_cmp, ordering_reverse, match_ordering}
use Rattle.std.specs.Cmp.{nat_cmp_total}
use Rattle.std.specs.declared.cmp.Ordering.TheVariants.{Less, Greater}
use Rattle.std.specs.List.{AllByRecursion}
use Rattle.std.specs.List.Sorted.{IsStrictlySortedBy}
use Rattle.std.specs.Map.{keys_of}
use Rattle.std.specs.BTreeMap.{insert_entry}
use Rattle.tokei_languages.proofs.Entries.{seen, inserted_seen}

all_at : {A : Type 0} (P : ℕ → Type 0) (old : List (ℕ × A)) (k : ℕ) (t : A) (rest : List (ℕ × A)) → AllByRecursion P (keys_of (old ++ (k, t) ∷ rest)) → P k
all_at P [] k t rest h = h.0
all_at P (a ∷ old) k t rest h = all_at P old k t rest h.1

-- an entry above all goes to the end
insert_last : {A : Type 0} (old : List (ℕ × A)) (k : ℕ) (t : A) (rest : List (ℕ × A)) → IsStrictlySortedBy nat_cmp (keys_of (old ++ (k, t) ∷ rest))
    → insert_entry nat_cmp old k t ++ rest ≡ old ++ (k, t) ∷ rest
unfolding IsStrictlySortedBy
insert_last [] k t rest h = refl
insert_last (a ∷ old) k t rest h =
    let less : nat_cmp a.0 k ≡ Less = all_at (λ y. nat_cmp a.0 y ≡ Less) old k t rest h.0 in
    let above : nat_cmp k a.0 ≡ Greater = nat_cmp_total.antisymm k a.0 ∙ ap ordering_reverse less in
    ap (λ o. match_ordering o ((k, t) ∷ a ∷ old) ((a.0, t) ∷ old) (a ∷ insert_entry nat_cmp old k t) ++ rest) above
    ∙ ap (λ es. a ∷ es) (insert_last old k t rest h.1)

-- one turn of a loop that fills a map in the order of the keys, as the map is seen
pub one_more : {S : Type 0} (old new : List (ℕ × S)) (k : ℕ) (s : S) (rest all : List (ℕ × S))
    → new ≡ insert_entry nat_cmp old k s → old ++ (k, s) ∷ rest ≡ all → IsStrictlySortedBy nat_cmp (keys_of all)
    → new ++ rest ≡ all
one_more old new k s rest all e h sorted =
    ap (λ es. es ++ rest) e
    ∙ insert_last old k s rest (subst (λ es. IsStrictlySortedBy nat_cmp (keys_of es)) (sym h) sorted)
    ∙ h

-- an entry is put there, and is seen so
pub put_seen : {V S : Type 0} (view : V → S) (old new : List (ℕ × V)) (k : ℕ) (v : V) (s : S)
    → new ≡ insert_entry nat_cmp old k v → view v ≡ s → seen view new ≡ insert_entry nat_cmp (seen view old) k s
put_seen view old new k v s e h =
    ap (seen view) e ∙ inserted_seen view old k v ∙ ap (insert_entry nat_cmp (seen view old) k) h
