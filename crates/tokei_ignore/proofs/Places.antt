-- The place of the last item that passes a test.
use Rattle.std.proofs.Common.{◌≡◌, ℕ, zero, suc, ◌≤◌, max, List, [], ◌∷◌, ◌++◌, length, take, get_or, Bool, true, false, true≢false, ◌||◌, cond, refl, sym, ap, ◌∙◌, arith}
use Rattle.tokei_ignore.specs.Index.{behind, last_place}

behind_le : (b : Bool) (n m : ℕ) → n ≤ m → behind b n ≤ suc m
behind_le true zero m h = omega arith
behind_le false zero m h = omega arith
behind_le b (suc n) m h = omega arith

pub place_le : {X : Type 0} (test : X → Bool) (xs : List X) → last_place test xs ≤ length xs
place_le test [] = omega arith
place_le test (x ∷ xs) = behind_le (test x) (last_place test xs) (length xs) (place_le test xs)

behind_cond : (a b : Bool) (n m : ℕ) → behind a (cond b (suc n) m) ≡ cond b (suc (suc n)) (behind a m)
behind_cond a true n m = refl
behind_cond a false n m = refl

-- one more item at the end
pub place_push : {X : Type 0} (test : X → Bool) (xs : List X) (x : X) → last_place test (xs ++ x ∷ []) ≡ cond (test x) (suc (length xs)) (last_place test xs)
place_push test [] x = refl
place_push test (y ∷ xs) x =
    ap (behind (test y)) (place_push test xs x) ∙ behind_cond (test y) (test x) (length xs) (last_place test xs)

among_step : {X : Type 0} (t : X → Bool) (x : X) (xs : List X) (b : Bool) (m : ℕ) → (t x ≡ true → b ≡ true)
    → last_place t (take m xs) ≡ last_place t xs
    → last_place t (take (behind b m) (x ∷ xs)) ≡ behind (t x) (last_place t xs)
among_step t x xs true zero imp ih = ap (behind (t x)) ih
among_step t x xs false zero imp ih = none (t x) imp
  where
    none : (a : Bool) → (a ≡ true → false ≡ true) → 0 ≡ behind a (last_place t xs)
    none true imp = absurd (true≢false (sym (imp refl)))
    none false imp = ap (behind false) ih
among_step t x xs b (suc m) imp ih = ap (behind (t x)) ih

-- what passes stands no later than what passes a wider test
pub place_among : {X : Type 0} (t u : X → Bool) (xs : List X) → ((x : X) → t x ≡ true → u x ≡ true) → last_place t (take (last_place u xs) xs) ≡ last_place t xs
place_among t u [] imp = refl
place_among t u (x ∷ xs) imp = among_step t x xs (u x) (last_place u xs) (imp x) (place_among t u xs imp)

either_step : (a b : Bool) (n m : ℕ) → behind (a || b) (max n m) ≡ max (behind a n) (behind b m)
either_step true true zero zero = refl
either_step true false zero zero = refl
either_step false true zero zero = refl
either_step false false zero zero = refl
either_step a b zero (suc m) =
    let e : max zero (suc m) ≡ suc m = omega arith in
    ap (behind (a || b)) e ∙ small a
  where
    small : (c : Bool) → suc (suc m) ≡ max (behind c zero) (suc (suc m))
    small true = omega arith
    small false = omega arith
either_step a b (suc n) zero =
    let e : max (suc n) zero ≡ suc n = omega arith in
    ap (behind (a || b)) e ∙ small b
  where
    small : (c : Bool) → suc (suc n) ≡ max (suc (suc n)) (behind c zero)
    small true = omega arith
    small false = omega arith
either_step a b (suc n) (suc m) = ap (behind (a || b)) e ∙ f
  where
    e : max (suc n) (suc m) ≡ suc (max n m)
    e = omega arith

    f : suc (suc (max n m)) ≡ max (suc (suc n)) (suc (suc m))
    f = omega arith

-- of two tests the later place
pub place_either : {X : Type 0} (t u : X → Bool) (xs : List X) → last_place (λ x. t x || u x) xs ≡ max (last_place t xs) (last_place u xs)
place_either t u [] = refl
place_either t u (x ∷ xs) = ap (behind (t x || u x)) (place_either t u xs) ∙ either_step (t x) (u x) (last_place t xs) (last_place u xs)

pub place_same : {X : Type 0} (t u : X → Bool) (xs : List X) → ((x : X) → t x ≡ u x) → last_place t xs ≡ last_place u xs
place_same t u xs same = λ i. last_place (λ x. same x i) xs

pub place_none : {X : Type 0} (t : X → Bool) (xs : List X) → ((x : X) → t x ≡ false) → last_place t xs ≡ 0
place_none t [] fails = refl
place_none t (x ∷ xs) fails = ap (behind (t x)) (place_none t xs fails) ∙ ap (λ b. behind b 0) (fails x)

passes_step : {X : Type 0} (t : X → Bool) (x : X) (xs : List X) (k : ℕ) (d : X) (b : Bool) (n : ℕ) → t x ≡ b
    → ((j : ℕ) → n ≡ suc j → t (get_or xs j d) ≡ true)
    → behind b n ≡ suc k → t (get_or (x ∷ xs) k d) ≡ true
passes_step t x xs zero d true zero is ih e = is
passes_step t x xs (suc k) d true zero is ih e = absurd (omega (arith, e))
passes_step t x xs k d false zero is ih e = absurd (omega (arith, e))
passes_step t x xs zero d b (suc n) is ih e = absurd (omega (arith, e))
passes_step t x xs (suc k) d b (suc n) is ih e = ih k (omega (arith, e))

-- what stands there passes
pub place_passes : {X : Type 0} (t : X → Bool) (xs : List X) (k : ℕ) (d : X) → last_place t xs ≡ suc k → t (get_or xs k d) ≡ true
place_passes t [] k d e = absurd (omega (arith, e))
place_passes t (x ∷ xs) k d e = passes_step t x xs k d (t x) (last_place t xs) refl (λ j. place_passes t xs j d) e
