-- What becomes of bytes, by whether they are UTF-8.
use Rattle.std.proofs.Common.{◌≡◌, ℕ, List, Bool, true, false, Result, Err, if◌then◌else◌, ap, refl}
use Rattle.std.proofs.lemmas.Str.{is_utf8-from_IsUtf8, IsUtf8-from_is_utf8}
use Rattle.std.specs.Str.{is_utf8, IsUtf8}
use Rattle.tokei_languages.specs.Values.{LanguageValue}
use Rattle.tokei_table.specs.Row.{Row}
use Rattle.tokei_earlier.specs.Outcome.{outcome_of_bytes, outcome_of_text}
use Rattle.tokei_earlier.specs.declared.error.InputError.{InputError}
use Rattle.tokei_earlier.specs.declared.error.InputError.TheVariants.{NotJson}

left_out : {A : Type 0} (b : Bool) (x y : A) → (b ≡ true → ⊥) → (if b then x else y) ≡ y
left_out true x y un = absurd (un refl)
left_out false x y un = refl

pub text_of_bytes : (rows : List Row) (bytes : List ℕ) → IsUtf8 bytes → outcome_of_bytes rows bytes ≡ outcome_of_text rows bytes
unfolding outcome_of_bytes
text_of_bytes rows bytes u =
    let refused : Result (List (ℕ × LanguageValue)) InputError = Err NotJson in
    ap (λ b. if b then outcome_of_text rows bytes else refused) (is_utf8-from_IsUtf8 bytes u)

pub bytes_refused : (rows : List Row) (bytes : List ℕ) → (IsUtf8 bytes → ⊥) → outcome_of_bytes rows bytes ≡ Err NotJson
unfolding outcome_of_bytes
bytes_refused rows bytes un = left_out (is_utf8 bytes) (outcome_of_text rows bytes) (Err NotJson) (λ e. un (IsUtf8-from_is_utf8 bytes e))
