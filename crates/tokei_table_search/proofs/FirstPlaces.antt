-- The first place of an opener, by places at which none stands.
use Rattle.std.proofs.Common.{◌≡◌, ℕ, zero, suc, ◌<◌, true, false, cond, List, [], ◌∷◌, length, drop, None, Some}
use Rattle.std.proofs.Common.{option_map, refl, sym, ◌∙◌, ap, arith}
use Rattle.tokei_table_row.specs.FirstOpener.{first_opener}
use Rattle.tokei_table_row.specs.Bytes.{begins_with_one}

module _ (os : List (List ℕ)) where
  pub first_at : (t : List ℕ) (n : ℕ) → n < length t → ((k : ℕ) → k < n → begins_with_one os (drop k t) ≡ false)
      → begins_with_one os (drop n t) ≡ true → Some n ≡ first_opener os t
  first_at [] n l none h = absurd (omega (arith, l))
  first_at (b ∷ t) zero l none h = sym (ap (λ c. cond c (Some 0) (option_map suc (first_opener os t))) h)
  first_at (b ∷ t) (suc n) l none h =
      sym (ap (λ c. cond c (Some 0) (option_map suc (first_opener os t))) (none 0 (omega arith))
      ∙ ap (option_map suc) (sym (first_at t n (omega (arith, l)) (λ k m. none (suc k) (omega (arith, m))) h)))

  pub first_none : (t : List ℕ) → ((k : ℕ) → k < length t → begins_with_one os (drop k t) ≡ false)
      → None ≡ first_opener os t
  first_none [] none = refl
  first_none (b ∷ t) none =
      sym (ap (λ c. cond c (Some 0) (option_map suc (first_opener os t))) (none 0 (omega arith))
      ∙ ap (option_map suc) (sym (first_none t (λ k m. none (suc k) (omega (arith, m))))))
