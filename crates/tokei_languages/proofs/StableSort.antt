-- A stable sort by a strict weak order: it exists, and there is only one.
use Rattle.std.proofs.Common.{◌≡◌, ℕ, Bool, true, false, cond, ◌+◌, ◌<◌, ◌≤◌, ◌&&◌, not, List, [], ◌∷◌, length, refl, sym, ◌∙◌, ap, get_or, suc, zero, arith, map, add-one}
use Rattle.std.specs.Bool.{⊤}
use Rattle.std.specs.Cmp.{IsStrictWeakOrder}
use Rattle.std.specs.List.{filter}
use Rattle.std.specs.List.Sorted.{IsPermutation, IsSortedBy, IsStableBy, ties}
use Rattle.std.proofs.lemmas.Bool.{false≢true}
use Rattle.std.proofs.lemmas.List.Sorted.{IsPermutation-refl, IsPermutation-sym, IsPermutation-trans, IsPermutation-cons, IsPermutation-middle, sorted_far}
use Rattle.tokei_languages.specs.Sorting.{placed, stably_sorted, IsStableSort}

module _ {X : Type 0} (before : X → X → Bool) (o : IsStrictWeakOrder before) where
  -- no element of the list goes before x
  abbrev NoneBefore : X → List X → Type 0
  NoneBefore x [] = ⊤
  NoneBefore x (y ∷ ys) = (before y x ≡ false) × NoneBefore x ys

  -- no element goes before an earlier one
  abbrev Ascends : List X → Type 0
  Ascends [] = ⊤
  Ascends (x ∷ xs) = NoneBefore x xs × Ascends xs

  none_from : (x y : X) (ys : List X) → before y x ≡ false → NoneBefore y ys → NoneBefore x ys
  none_from x y [] h n = tt
  none_from x y (z ∷ ys) h n = (o.chain z y x n.0 h, none_from x y ys h n.1)

  irreflexive_by : (x : X) (b : Bool) → before x x ≡ b → b ≡ false
  irreflexive_by x true h = sym h ∙ o.one_way x x h
  irreflexive_by x false h = refl

  irreflexive : (x : X) → before x x ≡ false
  irreflexive x = irreflexive_by x (before x x) refl

  none_placed_by : (b : Bool) (x y z : X) (ys : List X) → before x y ≡ false → before z y ≡ false → NoneBefore y ys → NoneBefore y (placed before x ys)
      → NoneBefore y (cond b (z ∷ placed before x ys) (x ∷ z ∷ ys))
  none_placed_by true x y z ys h i n more = (i, more)
  none_placed_by false x y z ys h i n more = (h, (i, n))

  none_placed : (x y : X) (ys : List X) → before x y ≡ false → NoneBefore y ys → NoneBefore y (placed before x ys)
  none_placed x y [] h n = (h, tt)
  none_placed x y (z ∷ ys) h n = none_placed_by (before z x) x y z ys h n.0 n.1 (none_placed x y ys h n.1)

  placed_ascends_by : (b : Bool) (x y : X) (ys : List X) → before y x ≡ b → NoneBefore y ys → Ascends ys → Ascends (placed before x ys)
      → Ascends (cond b (y ∷ placed before x ys) (x ∷ y ∷ ys))
  placed_ascends_by true x y ys h n a more = (none_placed x y ys (o.one_way y x h) n, more)
  placed_ascends_by false x y ys h n a more = ((h, none_from x y ys h n), (n, a))

  placed_ascends : (x : X) (ys : List X) → Ascends ys → Ascends (placed before x ys)
  placed_ascends x [] a = (tt, tt)
  placed_ascends x (y ∷ ys) a = placed_ascends_by (before y x) x y ys refl a.0 a.1 (placed_ascends x ys a.1)

  sorted_ascends : (xs : List X) → Ascends (stably_sorted before xs)
  sorted_ascends [] = tt
  sorted_ascends (x ∷ xs) = placed_ascends x (stably_sorted before xs) (sorted_ascends xs)

  permutes_by : (b : Bool) (x y : X) (ys : List X) → IsPermutation (x ∷ ys) (placed before x ys)
      → IsPermutation (x ∷ y ∷ ys) (cond b (y ∷ placed before x ys) (x ∷ y ∷ ys))
  permutes_by true x y ys more =
      IsPermutation-trans (x ∷ y ∷ ys) (y ∷ x ∷ ys) (y ∷ placed before x ys)
      (IsPermutation-sym (y ∷ x ∷ ys) (x ∷ y ∷ ys) (IsPermutation-middle (y ∷ []) x ys))
      (IsPermutation-cons y (x ∷ ys) (placed before x ys) more)
  permutes_by false x y ys more = IsPermutation-refl (x ∷ y ∷ ys)

  placed_permutes : (x : X) (ys : List X) → IsPermutation (x ∷ ys) (placed before x ys)
  placed_permutes x [] = IsPermutation-refl (x ∷ [])
  placed_permutes x (y ∷ ys) = permutes_by (before y x) x y ys (placed_permutes x ys)

  sort_permutes : (xs : List X) → IsPermutation xs (stably_sorted before xs)
  sort_permutes [] = IsPermutation-refl []
  sort_permutes (x ∷ xs) =
      IsPermutation-trans (x ∷ xs) (x ∷ stably_sorted before xs) (placed before x (stably_sorted before xs))
      (IsPermutation-cons x xs (stably_sorted before xs) (sort_permutes xs)) (placed_permutes x (stably_sorted before xs))

  not_true : (b : Bool) → not b ≡ true → b ≡ false
  not_true true h = absurd (false≢true h)
  not_true false h = refl

  first_of_both : (p q : Bool) → (p && q) ≡ true → p ≡ true
  first_of_both true q h = refl
  first_of_both false q h = h

  second_of_both : (p q : Bool) → (p && q) ≡ true → q ≡ true
  second_of_both true q h = h
  second_of_both false q h = absurd (false≢true h)

  -- of two that tie with z neither goes before the other
  ties_apart : (z x y : X) → ties before z x ≡ true → ties before z y ≡ true → before y x ≡ false
  ties_apart z x y h i =
      o.chain y z x (not_true (before y z) (second_of_both (not (before z y)) (not (before y z)) i))
      (not_true (before z x) (first_of_both (not (before z x)) (not (before x z)) h))

  swap_by : (p q : Bool) (x y : X) (more rest : List X) → (p ≡ true → q ≡ true → ⊥) → more ≡ cond p (x ∷ rest) rest
      → cond q (y ∷ more) more ≡ cond p (x ∷ cond q (y ∷ rest) rest) (cond q (y ∷ rest) rest)
  swap_by true true x y more rest h m = absurd (h refl refl)
  swap_by true false x y more rest h m = m
  swap_by false true x y more rest h m = ap (λ l. y ∷ l) m
  swap_by false false x y more rest h m = m

  keeps_by : (b : Bool) (z x y : X) (ys : List X) → before y x ≡ b
      → filter (ties before z) (placed before x ys) ≡ filter (ties before z) (x ∷ ys)
      → filter (ties before z) (cond b (y ∷ placed before x ys) (x ∷ y ∷ ys)) ≡ filter (ties before z) (x ∷ y ∷ ys)
  keeps_by true z x y ys h m =
      swap_by (ties before z x) (ties before z y) x y (filter (ties before z) (placed before x ys)) (filter (ties before z) ys)
      (λ p q. false≢true (sym (ties_apart z x y p q) ∙ h)) m
  keeps_by false z x y ys h m = refl

  placed_keeps : (z x : X) (ys : List X) → filter (ties before z) (placed before x ys) ≡ filter (ties before z) (x ∷ ys)
  placed_keeps z x [] = refl
  placed_keeps z x (y ∷ ys) = keeps_by (before y x) z x y ys refl (placed_keeps z x ys)

  sort_keeps : (z : X) (xs : List X) → filter (ties before z) (stably_sorted before xs) ≡ filter (ties before z) xs
  sort_keeps z [] = refl
  sort_keeps z (x ∷ xs) =
      placed_keeps z x (stably_sorted before xs)
      ∙ ap (λ l. cond (ties before z x) (x ∷ l) l) (sort_keeps z xs)

  sorted_at : (xs : List X) → Ascends xs → (k : ℕ) (d : X) → suc k < length xs → before (get_or xs (suc k) d) (get_or xs k d) ≡ false
  sorted_at [] a k d h = absurd (omega arith)
  sorted_at (x ∷ []) a k d h = absurd (omega arith)
  sorted_at (x ∷ y ∷ ys) a zero d h = a.0.0
  sorted_at (x ∷ y ∷ ys) a (suc k) d h = sorted_at (y ∷ ys) a.1 k d (omega (arith, h))

  -- the sort is one
  pub sort_is_stable : (xs : List X) → IsStableSort before xs (stably_sorted before xs)
  sort_is_stable xs = record {
    permutation = sort_permutes xs;
    sorted = λ k d low h. rw add-one (sorted_at (stably_sorted before xs) (sorted_ascends xs) k d (rw add-one at h));
    stable = λ z. sort_keeps z xs;
  }

  none_at : (x : X) (ys : List X) → ((j : ℕ) (d : X) → j < length ys → before (get_or ys j d) x ≡ false) → NoneBefore x ys
  none_at x [] h = tt
  none_at x (y ∷ ys) h = (h 0 y (omega arith), none_at x ys (λ j d l. h (suc j) d (omega (arith, l))))

  ascends_at : (xs : List X) → ((i j : ℕ) (d : X) → i ≤ j → j < length xs → before (get_or xs j d) (get_or xs i d) ≡ false) → Ascends xs
  ascends_at [] h = tt
  ascends_at (x ∷ xs) h =
      (none_at x xs (λ j d l. h 0 (suc j) d (omega arith) (omega (arith, l))), ascends_at xs (λ i j d l m. h (suc i) (suc j) d (omega (arith, l)) (omega (arith, m))))

  ascends : (xs : List X) → IsSortedBy before xs → Ascends xs
  ascends xs h = ascends_at xs (sorted_far before o xs h)

  tie : (x y : X) → before x y ≡ false → before y x ≡ false → ties before x y ≡ true
  tie x y h i = ap (λ v. not v && not (before y x)) h ∙ ap (λ v. not v) i

  tie_self : (x : X) → ties before x x ≡ true
  tie_self x = tie x x (irreflexive x) (irreflexive x)

  low_by : (b : Bool) (z w y v : X) (l r : List X) → ties before z w ≡ b → before w y ≡ false → (l ≡ v ∷ r → before z y ≡ false)
      → cond b (w ∷ l) l ≡ v ∷ r → before z y ≡ false
  low_by true z w y v l r t h more e = o.chain z w y (not_true (before z w) (first_of_both (not (before z w)) (not (before w z)) t)) h
  low_by false z w y v l r t h more e = more e

  -- what ties with one of a list doesn't go before what none of them goes before
  low_from : (z y v : X) (ws r : List X) → NoneBefore y ws → filter (ties before z) ws ≡ v ∷ r → before z y ≡ false
  low_from z y v [] r n h = cc
  low_from z y v (w ∷ ws) r n h = low_by (ties before z w) z w y v (filter (ties before z) ws) r refl n.0 (low_from z y v ws r n.1) h

  tail_by : (b : Bool) (y : X) (l r : List X) → cond b (y ∷ l) l ≡ cond b (y ∷ r) r → l ≡ r
  tail_by true y l r h = cc
  tail_by false y l r h = h

  -- what ties with the head comes first
  head_kept : (x : X) (xs : List X) → filter (ties before x) (x ∷ xs) ≡ x ∷ filter (ties before x) xs
  head_kept x xs = ap (λ v. cond v (x ∷ filter (ties before x) xs) (filter (ties before x) xs)) (tie_self x)

  only : (ys zs : List X) → Ascends ys → Ascends zs → ((x : X) → filter (ties before x) ys ≡ filter (ties before x) zs) → ys ≡ zs
  only [] [] a b s = refl
  only [] (z ∷ zs) a b s = let bad : [] ≡ z ∷ filter (ties before z) zs = s z ∙ head_kept z zs in cc
  only (y ∷ ys) [] a b s = let bad : y ∷ filter (ties before y) ys ≡ [] = sym (head_kept y ys) ∙ s y in cc
  only (y ∷ ys) (z ∷ zs) a b s =
      let zy : before z y ≡ false = low_from z y z (y ∷ ys) (filter (ties before z) zs) (irreflexive y, a.0) (s z ∙ head_kept z zs) in
      let yz : before y z ≡ false = low_from y z y (z ∷ zs) (filter (ties before y) ys) (irreflexive z, b.0) (sym (s y) ∙ head_kept y ys) in
      let heads : y ∷ filter (ties before y) ys ≡ z ∷ filter (ties before y) zs =
      sym (head_kept y ys) ∙ s y ∙ ap (λ v. cond v (z ∷ filter (ties before y) zs) (filter (ties before y) zs)) (tie y z yz zy) in
      let same : y ≡ z = cc in
      ap (λ w. w ∷ ys) same
      ∙ ap (λ l. z ∷ l) (only ys zs a.1 b.1 (λ x. tail_by (ties before x y) y (filter (ties before x) ys) (filter (ties before x) zs)
      (s x ∙ ap (λ w. cond (ties before x w) (w ∷ filter (ties before x) zs) (filter (ties before x) zs)) (sym same))))

  -- and the only one
  pub only_sort : (xs ys : List X) → IsSortedBy before ys → IsStableBy before xs ys → ys ≡ stably_sorted before xs
  only_sort xs ys up same = only ys (stably_sorted before xs) (ascends ys up) (sorted_ascends xs) (λ x. same x ∙ sym (sort_keeps x xs))

-- a sort by what is seen of each element is seen as a sort
placed_seen : {X Y : Type 0} (view : X → Y) (before : Y → Y → Bool) (x : X) (ys : List X)
    → map view (placed (λ a b. before (view a) (view b)) x ys) ≡ placed before (view x) (map view ys)
placed_seen view before x [] = refl
placed_seen view before x (y ∷ ys) =
    elim (before (view y) (view x))
    as (λ b. map view (cond b (y ∷ placed (λ a b. before (view a) (view b)) x ys) (x ∷ y ∷ ys)) ≡ cond b (view y ∷ placed before (view x) (map view ys)) (view x ∷ view y ∷ map view ys))
    [ true ↦ ap (λ l. view y ∷ l) (placed_seen view before x ys) | false ↦ refl ]

pub sort_seen : {X Y : Type 0} (view : X → Y) (before : Y → Y → Bool) (xs : List X)
    → map view (stably_sorted (λ a b. before (view a) (view b)) xs) ≡ stably_sorted before (map view xs)
sort_seen view before [] = refl
sort_seen view before (x ∷ xs) =
    placed_seen view before x (stably_sorted (λ a b. before (view a) (view b)) xs)
    ∙ ap (placed before (view x)) (sort_seen view before xs)
