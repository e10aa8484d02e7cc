-- Tokens at the front of a text, by their first bytes.
use Rattle.std.proofs.Common.{◌≡◌, ◌∙◌, ℕ, ◌<◌, ◌==◌, Bool, true, false, ◌&&◌, List, [], ◌∷◌, length, get_or, refl, sym, ap, arith}
use Rattle.std.proofs.lemmas.Bool.Decides.{Decides-eqb}
use Rattle.tokei_table_row.specs.Bytes.{begins}

with_true : (a : Bool) → (a && true) ≡ a
with_true true = refl
with_true false = refl

with_false : (a : Bool) → (a && false) ≡ false
with_false true = refl
with_false false = refl

other : (a b : ℕ) → (a ≡ b → ⊥) → (a == b) ≡ false
other a b apart = by_test (a == b) refl
  where
    by_test : (t : Bool) → (a == b) ≡ t → (a == b) ≡ false
    by_test true e = absurd (apart ((Decides-eqb a b).0 e))
    by_test false e = e

-- where the second bytes differ, it doesn't stand there
pub second_apart : (token text : List ℕ) → 1 < length token → 1 < length text → (get_or token 1 0 ≡ get_or text 1 0 → ⊥) → false ≡ begins token text
second_apart [] text h k apart = absurd (omega (arith, h))
second_apart (a ∷ []) text h k apart = absurd (omega (arith, h))
second_apart (a ∷ b ∷ p) [] h k apart = absurd (omega (arith, k))
second_apart (a ∷ b ∷ p) (x ∷ []) h k apart = absurd (omega (arith, k))
second_apart (a ∷ b ∷ p) (x ∷ y ∷ t) h k apart =
    sym (ap (λ q. (a == x) && (q && begins p t)) (other b y apart) ∙ with_false (a == x))

-- behind two equal bytes
behind_two : (token text : List ℕ) (a b : ℕ) (x y : ℕ) → a ≡ x → b ≡ y → begins token text ≡ begins (a ∷ b ∷ token) (x ∷ y ∷ text)
behind_two token text a b x y first second =
    sym (ap (λ q. q && ((b == y) && begins token text)) ((Decides-eqb a x).1 first) ∙ ap (λ q. q && begins token text) ((Decides-eqb b y).1 second))

-- a token of three bytes stands where the third is equal too
pub three_stand : (token text : List ℕ) → 2 < length token → length token < 4 → 2 < length text → get_or token 0 0 ≡ get_or text 0 0 → get_or token 1 0 ≡ get_or text 1 0
    → (get_or token 2 0 == get_or text 2 0) ≡ begins token text
three_stand [] text h few k first second = absurd (omega (arith, h))
three_stand (a ∷ []) text h few k first second = absurd (omega (arith, h))
three_stand (a ∷ b ∷ []) text h few k first second = absurd (omega (arith, h))
three_stand (a ∷ b ∷ d ∷ e ∷ p) text h few k first second = absurd (omega (arith, few))
three_stand (a ∷ b ∷ d ∷ []) [] h few k first second = absurd (omega (arith, k))
three_stand (a ∷ b ∷ d ∷ []) (x ∷ []) h few k first second = absurd (omega (arith, k))
three_stand (a ∷ b ∷ d ∷ []) (x ∷ y ∷ []) h few k first second = absurd (omega (arith, k))
three_stand (a ∷ b ∷ d ∷ []) (x ∷ y ∷ z ∷ t) h few k first second = sym (with_true (d == z)) ∙ behind_two (d ∷ []) (z ∷ t) a b x y first second
