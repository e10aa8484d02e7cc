-- A text has one least boundary that is not below an index.
use Rattle.std.proofs.Common.{◌≡◌, ℕ, zero, suc, ◌≤◌, ◌<◌, Bool, true, false, List, [], ◌∷◌, if◌then◌else◌, refl, sym, ap, ◌∙◌, arith}
use Rattle.std.proofs.lemmas.Bool.Decides.{nat_tests}
use Rattle.std.specs.Fmt.{is_char_start}
use Rattle.std.specs.Str.{IsCharBoundary}
use Rattle.tokei_bytes.specs.Boundaries.{cut_len, boundary_from}

is_start : (b : ℕ) → (128 ≤ b → 192 ≤ b) → is_char_start b ≡ true
is_start b h = grind (arith, nat_tests)

of_start : (b : ℕ) → is_char_start b ≡ true → 128 ≤ b → 192 ≤ b
of_start b e h = grind (arith, nat_tests)

behind : (b : ℕ) (text : List ℕ) (k : ℕ) → IsCharBoundary (b ∷ text) (suc k) → IsCharBoundary text k
behind b text k h = (omega (arith, h.0), λ inside high. h.1 (omega arith) high)

before : (b : ℕ) (text : List ℕ) (k : ℕ) → IsCharBoundary text k → IsCharBoundary (b ∷ text) (suc k)
before b text k h = (omega (arith, h.0), λ inside high. h.1 (omega arith) high)

no_start : (v : Bool) (b n : ℕ) → is_char_start b ≡ v → ((128 ≤ b → 192 ≤ b) → ⊥) → (if v then 0 else n) ≡ n
no_start true b n e h = absurd (h (of_start b e))
no_start false b n e h = refl

-- the first boundary of all
pub cut_len_least : (text : List ℕ) (r : ℕ) → IsCharBoundary text r → ((k : ℕ) → 0 ≤ k → k < r → IsCharBoundary text k → ⊥) → r ≡ cut_len text
cut_len_least [] r h none = omega (arith, h.0)
cut_len_least (b ∷ text) zero h none =
    let start : is_char_start b ≡ true = is_start b (h.1 (omega arith)) in rw start refl
cut_len_least (b ∷ text) (suc r) h none =
    let more : suc r ≡ suc (cut_len text) = ap suc (cut_len_least text r (behind b text r h) (λ k low high at. none (suc k) (omega arith) (omega arith) (before b text k at))) in
    more ∙ sym (no_start (is_char_start b) b (suc (cut_len text)) refl (λ start. none 0 (omega arith) (omega arith) (omega arith, λ inside. start)))

-- the first that is not below i
pub boundary_from_least : (text : List ℕ) (i r : ℕ) → i ≤ r → IsCharBoundary text r → ((k : ℕ) → i ≤ k → k < r → IsCharBoundary text k → ⊥) → r ≡ boundary_from text i
boundary_from_least text zero r low h none = cut_len_least text r h none ∙ omega arith
boundary_from_least [] (suc i) r low h none = absurd (omega (arith, h.0))
boundary_from_least (b ∷ text) (suc i) zero low h none = absurd (omega arith)
boundary_from_least (b ∷ text) (suc i) (suc r) low h none =
    let rest : r ≡ boundary_from text i = boundary_from_least text i r (omega arith) (behind b text r h)
    (λ k above below at. none (suc k) (omega arith) (omega arith) (before b text k at)) in
    omega arith
