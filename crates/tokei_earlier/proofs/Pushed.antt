-- What is read of an item goes behind what was read.
use Rattle.std.proofs.Common.{◌≡◌, List, [], ◌∷◌, ◌++◌, map, refl, ap}

pub pushed : {A B : Type 0} (f : A → B) (xs : List A) (x : A) (more : List B) → map f (xs ++ x ∷ []) ++ more ≡ map f xs ++ f x ∷ more
pushed f [] x more = refl
pushed f (y ∷ ys) x more = ap (λ zs. f y ∷ zs) (pushed f ys x more)
