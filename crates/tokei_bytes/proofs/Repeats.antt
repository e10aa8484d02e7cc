-- Four bytes of which some are the same.
use Rattle.std.proofs.Common.{◌≡◌, ℕ, ◌+◌, ◌⊎◌, inl, inr, ◌==◌, ◌&&◌, ◌||◌, not, Bool, true, false, cond, List, [], ◌∷◌, length, get_or, refl, sym, ap, ap₂, ◌∙◌, arith}
use Rattle.tokei_bytes.specs.OneOf.{is_one_of}
use Rattle.tokei_bytes.specs.Pairs.{counts_at}

-- what holds of any four holds of a list of four
of_four : (P : List ℕ → Type 0) → ((a b c d : ℕ) → P (a ∷ b ∷ c ∷ d ∷ [])) → (bs : List ℕ) → length bs ≡ 4 → P bs
of_four P each [] four = absurd (omega arith)
of_four P each (a ∷ []) four = absurd (omega arith)
of_four P each (a ∷ b ∷ []) four = absurd (omega arith)
of_four P each (a ∷ b ∷ c ∷ []) four = absurd (omega arith)
of_four P each (a ∷ b ∷ c ∷ d ∷ []) four = each a b c d
of_four P each (a ∷ b ∷ c ∷ d ∷ e ∷ rest) four = absurd (omega arith)

twice_two : (x y : Bool) → cond x true (cond y true (cond x true (cond y true false))) ≡ cond x true (cond y true false)
twice_two true y = refl
twice_two false true = refl
twice_two false false = refl

second_thrice : (x y : Bool) → cond x true (cond y true (cond y true (cond y true false))) ≡ cond x true (cond y true false)
second_thrice true y = refl
second_thrice false true = refl
second_thrice false false = refl

either_order : (x y : Bool) → cond x true (cond y true false) ≡ cond y true (cond x true false)
either_order true true = refl
either_order true false = refl
either_order false true = refl
either_order false false = refl

four_times : (x : Bool) → cond x true (cond x true (cond x true (cond x true false))) ≡ cond x true false
four_times true = refl
four_times false = refl

-- of four whose last two are the first two, or the second one, a byte is one where it is one of the first two
pub two_of_four : (bs : List ℕ) (x : ℕ) → length bs ≡ 4 → (get_or bs 2 0 ≡ get_or bs 0 0) ⊎ (get_or bs 2 0 ≡ get_or bs 1 0) → get_or bs 3 0 ≡ get_or bs 1 0
    → is_one_of bs x ≡ is_one_of (get_or bs 0 0 ∷ get_or bs 1 0 ∷ []) x
two_of_four bs x four = of_four
    (λ bs. (get_or bs 2 0 ≡ get_or bs 0 0) ⊎ (get_or bs 2 0 ≡ get_or bs 1 0) → get_or bs 3 0 ≡ get_or bs 1 0 → is_one_of bs x ≡ is_one_of (get_or bs 0 0 ∷ get_or bs 1 0 ∷ []) x)
    by_third bs four
  where
    by_third : (a b c d : ℕ) → (c ≡ a) ⊎ (c ≡ b) → d ≡ b → is_one_of (a ∷ b ∷ c ∷ d ∷ []) x ≡ is_one_of (a ∷ b ∷ []) x
    by_third a b c d (inl e) f = ap₂ (λ c d. is_one_of (a ∷ b ∷ c ∷ d ∷ []) x) e f ∙ twice_two (x == a) (x == b)
    by_third a b c d (inr e) f = ap₂ (λ c d. is_one_of (a ∷ b ∷ c ∷ d ∷ []) x) e f ∙ second_thrice (x == a) (x == b)

-- the same where the four are named by the first two, each twice
pub two_twice : (bs : List ℕ) (x : ℕ) → length bs ≡ 4 → (get_or bs 2 0 ≡ get_or bs 0 0) ⊎ (get_or bs 2 0 ≡ get_or bs 1 0) → get_or bs 3 0 ≡ get_or bs 1 0
    → is_one_of bs x ≡ is_one_of (get_or bs 0 0 ∷ get_or bs 1 0 ∷ get_or bs 0 0 ∷ get_or bs 1 0 ∷ []) x
two_twice bs x four third last = two_of_four bs x four third last ∙ sym (twice_two (x == get_or bs 0 0) (x == get_or bs 1 0))

-- of four that are all the first a byte is one where it is the first
one_of_same : (bs : List ℕ) (x : ℕ) → length bs ≡ 4 → get_or bs 1 0 ≡ get_or bs 0 0 → get_or bs 2 0 ≡ get_or bs 0 0 → get_or bs 3 0 ≡ get_or bs 0 0
    → is_one_of bs x ≡ is_one_of (get_or bs 0 0 ∷ []) x
one_of_same bs x four = of_four
    (λ bs. get_or bs 1 0 ≡ get_or bs 0 0 → get_or bs 2 0 ≡ get_or bs 0 0 → get_or bs 3 0 ≡ get_or bs 0 0 → is_one_of bs x ≡ is_one_of (get_or bs 0 0 ∷ []) x)
    (λ a b c d e f g. ap₂ (λ b c. is_one_of (a ∷ b ∷ c ∷ d ∷ []) x) e f ∙ ap (λ d. is_one_of (a ∷ a ∷ a ∷ d ∷ []) x) g ∙ four_times (x == a)) bs four

-- four bytes that are two, and four seconds that are one: where one of the two bytes is the first, a place counts by these alone
module _ (bytes : List ℕ) (first : ℕ) (seconds text : List ℕ) (p : ℕ) (four : length bytes ≡ 4) (all : length seconds ≡ 4)
    (c_a : get_or bytes 2 0 ≡ get_or bytes 0 0)
    (d_b : get_or bytes 3 0 ≡ get_or bytes 1 0)
    (q : get_or seconds 1 0 ≡ get_or seconds 0 0)
    (r : get_or seconds 2 0 ≡ get_or seconds 0 0)
    (s : get_or seconds 3 0 ≡ get_or seconds 0 0) where
  pub counts_by_last : first ≡ get_or bytes 1 0 → counts_at bytes first seconds text p ≡ counts_at (get_or bytes 0 0 ∷ first ∷ []) first (get_or seconds 0 0 ∷ []) text p
  counts_by_last e =
      ap₂ (λ x y. x && (not (get_or text p 0 == first) || y))
      (two_of_four bytes (get_or text p 0) four (inl c_a) d_b ∙ ap (λ b. is_one_of (get_or bytes 0 0 ∷ b ∷ []) (get_or text p 0)) (sym e))
      (one_of_same seconds (get_or text (p + 1) 0) all q r s)

  pub counts_by_front : first ≡ get_or bytes 0 0 → counts_at bytes first seconds text p ≡ counts_at (get_or bytes 1 0 ∷ first ∷ []) first (get_or seconds 0 0 ∷ []) text p
  counts_by_front e =
      ap₂ (λ x y. x && (not (get_or text p 0 == first) || y))
      (two_of_four bytes (get_or text p 0) four (inl c_a) d_b ∙ either_order (get_or text p 0 == get_or bytes 0 0) (get_or text p 0 == get_or bytes 1 0)
      ∙ ap (λ a. is_one_of (get_or bytes 1 0 ∷ a ∷ []) (get_or text p 0)) (sym e))
      (one_of_same seconds (get_or text (p + 1) 0) all q r s)
