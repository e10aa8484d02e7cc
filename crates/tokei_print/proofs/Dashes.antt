-- The dashes beside a file's name.
use Rattle.std.proofs.Common.{◌≡◌, ℕ, zero, suc, List, [], ◌∷◌, replicate, refl, ap}
use Rattle.std.specs.List.{repeat}

pub dashes : (n : ℕ) → repeat {A = ℕ} n (45 ∷ []) ≡ replicate n 45
dashes zero = refl
dashes (suc n) = ap (λ (r : List ℕ). 45 ∷ r) (dashes n)
