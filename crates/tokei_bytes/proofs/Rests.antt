-- The lanes of a block from one of them on.
use Rattle.std.proofs.Common.{◌≡◌, ℕ, zero, suc, ◌+◌, ◌-◌, ◌*◌, ◌/◌, ◌^◌, ◌≤◌, Bool, true, false, cond, List, [], ◌∷◌, map, take, drop, sym, ap, ◌∙◌, arith}
use Rattle.std.proofs.Common.{pow-suc, mul_comm, div-one}
use native.Mathlib.Nat.{zero-div, div-div-eq-div-mul}
use Rattle.std.proofs.lemmas.List.{drop-drop, drop-take, drop-map}
use lib.Lanes.{chunk, mask_l}

half : (b : Bool) (n : ℕ) → (cond b 1 0 + 2 * n) / 2 ≡ n
half true n = omega arith
half false n = omega arith

shifted_mask : (ms : List Bool) (k : ℕ) → mask_l ms / 2 ^ k ≡ mask_l (drop k ms)
shifted_mask [] zero = zero-div (2 ^ 0)
shifted_mask [] (suc k) = zero-div (2 ^ suc k)
shifted_mask (m ∷ ms) zero = div-one (mask_l (m ∷ ms))
shifted_mask (m ∷ ms) (suc k) =
    ap (λ n. mask_l (m ∷ ms) / n) (pow-suc 2 k ∙ mul_comm (2 ^ k) 2)
    ∙ sym (div-div-eq-div-mul (mask_l (m ∷ ms)) 2 (2 ^ k))
    ∙ ap (λ n. n / 2 ^ k) (half m (mask_l ms))
    ∙ shifted_mask ms k

dropped : (k w n : ℕ) (xs : List ℕ) → w ≡ k + n → drop k (take w xs) ≡ take n (drop k xs)
dropped k w n xs e = ap (λ v. drop k (take v xs)) e ∙ drop-take k n xs

-- the mask of those of the w bytes of t from place base on, without its k lowest bits
pub mask_of_rest : (p : ℕ → Bool) (t : List ℕ) (base w k m : ℕ) → k ≤ w → m ≡ mask_l (map p (chunk base w t))
    → m / 2 ^ k ≡ mask_l (map p (chunk (base + k) (w - k) t))
mask_of_rest p t base w k m le e =
    ap (λ n. n / 2 ^ k) e
    ∙ shifted_mask (map p (chunk base w t)) k
    ∙ ap mask_l (drop-map p k (chunk base w t))
    ∙ ap (λ l. mask_l (map p l)) (dropped k w (w - k) (drop base t) (omega (arith, le)) ∙ ap (take (w - k)) (drop-drop k base t))
