-- Whether bytes are UTF-8, as a truth value.
use Rattle.std.proofs.Common.{◌≡◌, ℕ, List, Bool, true, false, refl}
use Rattle.std.proofs.lemmas.Str.{is_utf8-from_IsUtf8, IsUtf8-from_is_utf8}
use Rattle.std.specs.Str.{is_utf8, IsUtf8}

pub utf8_true : (bytes : List ℕ) → IsUtf8 bytes → is_utf8 bytes ≡ true
utf8_true bytes u = is_utf8-from_IsUtf8 bytes u

pub utf8_false : (bytes : List ℕ) → (IsUtf8 bytes → ⊥) → is_utf8 bytes ≡ false
utf8_false bytes un = by (is_utf8 bytes) (λ e. un (IsUtf8-from_is_utf8 bytes e))
  where
    by : (b : Bool) → (b ≡ true → ⊥) → b ≡ false
    by true unlike = absurd (unlike refl)
    by false unlike = refl
