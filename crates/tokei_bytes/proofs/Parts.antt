-- What a search of a part of a text says of the text.
use Rattle.std.proofs.Common.{◌≡◌, ℕ, ◌+◌, ◌-◌, ◌<◌, ◌≤◌, ◌==◌, Bool, true, false, List, length, take, drop, get_or, refl, sym, ap, ◌∙◌, arith, length-take, length-drop, get_or-take, get_or-drop}

not_true : (x : Bool) → (x ≡ true → ⊥) → x ≡ false
not_true true un = absurd (un refl)
not_true false un = refl

pub part_length : (t : List ℕ) (from to : ℕ) → from ≤ to → to ≤ length t → length (take (to - from) (drop from t)) ≡ to - from
part_length t from to low high = omega (arith, length-take (to - from) (drop from t), length-drop from t)

part_reads : (t : List ℕ) (from n k : ℕ) → k < n → get_or (take n (drop from t)) k 0 ≡ get_or t (from + k) 0
part_reads t from n k l = get_or-take n (drop from t) k 0 l ∙ get_or-drop from t k 0

-- the byte stands at none of the part's first i places
pub apart : (t : List ℕ) (byte from n i : ℕ) → i ≤ n → ((k : ℕ) → 0 ≤ k → k < i → ¬ ((get_or (take n (drop from t)) k 0 == byte) ≡ true))
    → (p : ℕ) → from ≤ p → p < from + i → (get_or t p 0 == byte) ≡ false
apart t byte from n i within none p low high =
    not_true (get_or t p 0 == byte) (λ h. none (p - from) (omega arith) (omega arith) (ap (λ b. b == byte) (part_reads t from n (p - from) (omega arith) ∙ ap (λ k. get_or t k 0) place) ∙ h))
  where
    place : from + (p - from) ≡ p
    place = omega arith

-- and where it stands in the part it stands in the text
pub stands_out : (t : List ℕ) (byte from n i : ℕ) → i < n → (get_or (take n (drop from t)) i 0 == byte) ≡ true → (get_or t (from + i) 0 == byte) ≡ true
stands_out t byte from n i within h = ap (λ b. b == byte) (sym (part_reads t from n i within)) ∙ h
