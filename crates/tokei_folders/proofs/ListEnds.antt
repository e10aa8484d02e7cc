-- The last item of a list.
use Rattle.std.proofs.Common.{◌≡◌, ℕ, suc, ◌-◌, ◌==◌, List, [], ◌∷◌, ◌++◌, length, take, refl, ap, ◌∙◌, arith}
use Rattle.tokei_folders.specs.Ends.{ends_in, without_last}

pub ends_in-push : (e c : ℕ) (xs : List ℕ) → ends_in e (xs ++ c ∷ []) ≡ (c == e)
ends_in-push e c [] = refl
ends_in-push e c (x ∷ []) = refl
ends_in-push e c (x ∷ y ∷ xs) = ends_in-push e c (y ∷ xs)

pub without_last-take : {X : Type 0} (xs : List X) → take (length xs - 1) xs ≡ without_last xs
without_last-take [] = refl
without_last-take (x ∷ []) = refl
without_last-take (x ∷ y ∷ xs) =
    let e : suc (suc (length xs)) - 1 ≡ suc (length (y ∷ xs) - 1) = omega arith in
    ap (λ n. take n (x ∷ y ∷ xs)) e ∙ ap (λ (ys : List _). x ∷ ys) (without_last-take (y ∷ xs))

pub without_last-push : {X : Type 0} (xs : List X) (x : X) → without_last (xs ++ x ∷ []) ≡ xs
without_last-push [] x = refl
without_last-push (y ∷ []) x = refl
without_last-push (y ∷ z ∷ xs) x = ap (λ (ys : List _). y ∷ ys) (without_last-push (z ∷ xs) x)

pub without_last_of_take : {X : Type 0} (xs ys : List X) → ys ≡ take (length xs - 1) xs → ys ≡ without_last xs
without_last_of_take xs ys is = is ∙ without_last-take xs
