-- Blanks at the end of a text.
use Rattle.std.proofs.Common.{◌≡◌, ℕ, suc, ◌-◌, ◌<◌, Bool, true, false, ◌&&◌, cond, List, [], ◌∷◌, length, take}
use Rattle.std.proofs.Common.{get_or, refl, sym, ◌∙◌, ap, arith}
use Rattle.tokei_table_row.specs.Bytes.{is_blank, all_blank, trim_end}

last : List ℕ → ℕ
last [] = 0
last (b ∷ []) = b
last (b ∷ c ∷ t) = last (c ∷ t)

front : List ℕ → List ℕ
front [] = []
front (b ∷ []) = []
front (b ∷ c ∷ t) = b ∷ front (c ∷ t)

front_is : (t : List ℕ) → front t ≡ take (length t - 1) t
unfolding front
front_is [] = refl
front_is (b ∷ []) = refl
front_is (b ∷ c ∷ t) =
    let n : suc (suc (length t)) - 1 ≡ suc (length t) = omega arith in
    let m : suc (length t) - 1 ≡ length t = omega arith in
    ap (λ w. b ∷ w) (front_is (c ∷ t) ∙ ap (λ k. take k (c ∷ t)) m) ∙ ap (λ k. take k (b ∷ c ∷ t)) (sym n)

last_is : (t : List ℕ) → last t ≡ get_or t (length t - 1) 0
unfolding last
last_is [] = refl
last_is (b ∷ []) = refl
last_is (b ∷ c ∷ t) =
    let n : suc (suc (length t)) - 1 ≡ suc (length t) = omega arith in
    let m : suc (length t) - 1 ≡ length t = omega arith in
    last_is (c ∷ t) ∙ ap (λ k. get_or (c ∷ t) k 0) m ∙ ap (λ k. get_or (b ∷ c ∷ t) k 0) (sym n)

-- whether all is blank, by the last byte and the others
all_blank-front : (b : ℕ) (t : List ℕ) → is_blank (last (b ∷ t)) ≡ true → all_blank (front (b ∷ t)) ≡ all_blank (b ∷ t)
unfolding front last
all_blank-front b [] h = sym (ap (λ x. x && true) h)
all_blank-front b (c ∷ t) h = ap (λ r. is_blank b && r) (all_blank-front c t h)

all_blank-last : (b : ℕ) (t : List ℕ) → is_blank (last (b ∷ t)) ≡ false → all_blank (b ∷ t) ≡ false
unfolding front last
all_blank-last b [] h = ap (λ x. x && true) h
all_blank-last b (c ∷ t) h = ap (λ r. is_blank b && r) (all_blank-last c t h) ∙ and_false (is_blank b)
  where
    and_false : (x : Bool) → (x && false) ≡ false
    and_false true = refl
    and_false false = refl

trim_end-front : (t : List ℕ) → is_blank (last t) ≡ true → trim_end (front t) ≡ trim_end t
unfolding front last
trim_end-front [] h = refl
trim_end-front (b ∷ []) h = sym (ap (λ x. cond (x && true) [] (b ∷ [])) h)
trim_end-front (b ∷ c ∷ t) h =
    let rec : trim_end (front (c ∷ t)) ≡ trim_end (c ∷ t) = trim_end-front (c ∷ t) h in
    let blank : all_blank (front (c ∷ t)) ≡ all_blank (c ∷ t) = all_blank-front c t h in
    ap (λ r. cond (is_blank b && all_blank (front (c ∷ t))) [] (b ∷ r)) rec
    ∙ ap (λ x. cond (is_blank b && x) [] (b ∷ trim_end (c ∷ t))) blank

trim_stops : (b : ℕ) (t : List ℕ) → is_blank (last (b ∷ t)) ≡ false → trim_end (b ∷ t) ≡ b ∷ t
unfolding last
trim_stops b [] h = ap (λ x. cond (x && true) [] (b ∷ [])) h
trim_stops b (c ∷ t) h =
    ap (λ x. cond x [] (b ∷ trim_end (c ∷ t))) (all_blank-last b (c ∷ t) h) ∙ ap (λ w. b ∷ w) (trim_stops c t h)

pub trim_end-blank : (t : List ℕ) → is_blank (get_or t (length t - 1) 0) ≡ true
    → trim_end (take (length t - 1) t) ≡ trim_end t
trim_end-blank t h = ap trim_end (sym (front_is t)) ∙ trim_end-front t (ap is_blank (last_is t) ∙ h)

pub trim_end-stop : (t : List ℕ) → 0 < length t → is_blank (get_or t (length t - 1) 0) ≡ false → trim_end t ≡ t
trim_end-stop [] l h = refl
trim_end-stop (b ∷ t) l h = trim_stops b t (ap is_blank (last_is (b ∷ t)) ∙ h)
