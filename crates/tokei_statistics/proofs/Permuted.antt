-- What neighbours of a list may change places in doesn't ask for its order.
use Rattle.std.proofs.Common.{ℕ, zero, suc, ◌<◌, List, [], ◌∷◌, length, get_or, subst, arith}
use Rattle.std.proofs.Math.ListN.{set}
use Rattle.std.specs.List.{swap}
use Rattle.std.specs.List.Sorted.{IsPermutation}
use Rattle.std.proofs.lemmas.List.Edits.{swap_is}
use Rattle.std.proofs.lemmas.List.Sorted.{IsPermutation-keeps}

module _ {X M : Type 0} (F : List X → M) (Like : M → M → Type 0)
    (same : (m : M) → Like m m) (joined : (a b c : M) → Like a b → Like b c → Like a c)
    (below : (x : X) (xs ys : List X) → Like (F xs) (F ys) → Like (F (x ∷ xs)) (F (x ∷ ys)))
    (neighbours : (x y : X) (xs : List X) → Like (F (x ∷ y ∷ xs)) (F (y ∷ x ∷ xs))) where
  -- the first element changes places with another
  first_with : (x : X) (l : List X) (j : ℕ) (d : X) → j < length l → Like (F (get_or l j d ∷ set l j x)) (F (x ∷ l))
  first_with x [] j d h = absurd (omega arith)
  first_with x (y ∷ l) zero d h = neighbours y x l
  first_with x (y ∷ l) (suc j) d h =
      joined _ _ _ (neighbours (get_or l j d) y (set l j x))
      (joined _ _ _ (below y (get_or l j d ∷ set l j x) (x ∷ l) (first_with x l j d (omega arith))) (neighbours y x l))

  -- two elements do
  both_swapped : (l : List X) (i j : ℕ) (d : X) → i < length l → j < length l → Like (F (set (set l i (get_or l j d)) j (get_or l i d))) (F l)
  both_swapped [] i j d h k = absurd (omega arith)
  both_swapped (x ∷ l) zero zero d h k = same (F (x ∷ l))
  both_swapped (x ∷ l) zero (suc j) d h k = first_with x l j d (omega arith)
  both_swapped (x ∷ l) (suc i) zero d h k = first_with x l i d (omega arith)
  both_swapped (x ∷ l) (suc i) (suc j) d h k =
      below x (set (set l i (get_or l j d)) j (get_or l i d)) l (both_swapped l i j d (omega arith) (omega arith))

  swapped : (l : List X) (i j : ℕ) → i < length l → j < length l → Like (F (swap l i j)) (F l)
  swapped [] i j h k = absurd (omega arith)
  swapped (x ∷ l) i j h k =
      subst (λ (m : List X). Like (F m) (F (x ∷ l))) (swap_is (x ∷ l) i j x h k) (both_swapped (x ∷ l) i j x h k)

  pub permuted : (xs ys : List X) → IsPermutation xs ys → Like (F ys) (F xs)
  permuted xs ys p =
      IsPermutation-keeps xs (λ l. Like (F l) (F xs)) (same (F xs)) (λ l i j h k so. joined _ _ _ (swapped l i j h k) so) ys p
