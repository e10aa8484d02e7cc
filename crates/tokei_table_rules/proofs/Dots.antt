-- What stands behind the last dot of a name, by the dot's place.
use Rattle.std.proofs.Common.{◌≡◌, ℕ, zero, suc, ◌+◌, ◌-◌, ◌<◌, ◌≤◌, Bool, true, false, ◌==◌, cond, List, [], ◌∷◌}
use Rattle.std.proofs.Common.{length, take, drop, get_or, None, Some, refl, sym, ◌∙◌, ap, arith}
use Rattle.std.proofs.lemmas.List.{take_all, length-drop}
use Rattle.memchr.specs.Find.{IsLastByte, is_byte}
use Rattle.tokei_table_rules.specs.Lookups.{behind_dot, behind_last_dot, extension_of}

not_true : (b : Bool) → (b ≡ true → ⊥) → b ≡ false
not_true true un = absurd (un refl)
not_true false un = refl

no_dot : (t : List ℕ) → ((k : ℕ) → k < length t → (get_or t k 0 == 46) ≡ true → ⊥) → behind_last_dot t ≡ None
no_dot [] none = refl
no_dot (b ∷ t) none =
    ap (behind_dot (b == 46) t) (no_dot t (λ k l. none (suc k) (omega (arith, l))))
    ∙ ap (λ dot. cond dot (Some t) None) (not_true (b == 46) (none 0 (omega arith)))

last_dot : (t : List ℕ) (k : ℕ) → k < length t → (get_or t k 0 == 46) ≡ true
    → ((j : ℕ) → k + 1 ≤ j → j < length t → (get_or t j 0 == 46) ≡ true → ⊥) → behind_last_dot t ≡ Some (drop (suc k) t)
last_dot [] k l dot none = absurd (omega (arith, l))
last_dot (b ∷ t) zero l dot none =
    ap (behind_dot (b == 46) t) (no_dot t (λ k m. none (suc k) (omega arith) (omega (arith, m))))
    ∙ ap (λ d. cond d (Some t) None) dot
last_dot (b ∷ t) (suc k) l dot none =
    ap (behind_dot (b == 46) t) (last_dot t k (omega (arith, l)) dot
    (λ j m n. none (suc j) (omega (arith, m)) (omega (arith, n))))

pub extension_none : (t : List ℕ) → IsLastByte (is_byte 46) t None → None ≡ extension_of t
extension_none [] none = refl
extension_none (b ∷ t) none = sym (no_dot t (λ k l. none (suc k) (omega arith) (omega (arith, l))))

pub extension_first : (t : List ℕ) (at : ℕ) → at ≡ 0 → IsLastByte (is_byte 46) t (Some at) → None ≡ extension_of t
extension_first [] at z found = refl
extension_first (b ∷ t) at z found = sym (no_dot t (λ k l. found.0.after (suc k) (omega (arith, z)) (omega (arith, l))))

some_rest : (t : List ℕ) (at : ℕ) → at < length t → IsLastByte (is_byte 46) t (Some at) → (at ≡ 0 → ⊥)
    → Some (drop (at + 1) t) ≡ extension_of t
some_rest [] at l found far = absurd (omega (arith, l))
some_rest (b ∷ t) zero l found far = absurd (far refl)
some_rest (b ∷ t) (suc k) l found far =
    ap (λ n. Some (drop n (b ∷ t))) (plus_one k)
    ∙ sym (last_dot t k (omega (arith, l)) found.1
    (λ j m n. found.0.after (suc j) (omega (arith, m)) (omega (arith, n))))
  where
    plus_one : (k : ℕ) → suc k + 1 ≡ suc (suc k)
    plus_one k = omega arith

pub extension_rest : (t : List ℕ) (at : ℕ) → IsLastByte (is_byte 46) t (Some at) → (at ≡ 0 → ⊥)
    → Some (take (length t - (at + 1)) (drop (at + 1) t)) ≡ extension_of t
extension_rest t at found far =
    ap Some (take_all (length t - (at + 1)) (drop (at + 1) t) (omega (arith, length-drop (at + 1) t)))
    ∙ some_rest t at found.0.high found far
