-- Names without a capital are in lower case.
use Rattle.std.proofs.Common.{◌≡◌, ℕ, List, [], ◌∷◌, Bool, true, false, not, refl, sym, ap₂, arith}
use Rattle.std.proofs.lemmas.Bool.{false≢true, or_parts}
use Rattle.std.proofs.lemmas.Grind.{common_steps}
use Rattle.std.specs.Char.{is_ascii_uppercase, to_ascii_lowercase}
use Rattle.std.specs.List.{list_any}
use Rattle.std.specs.Str.{str_to_ascii_lowercase}

stays : (byte : ℕ) → is_ascii_uppercase byte ≡ false → to_ascii_lowercase byte ≡ byte
stays byte e = grind (arith, common_steps)

denied : (b : Bool) → true ≡ not b → b ≡ false
denied false e = refl
denied true e = absurd (false≢true (sym e))

lowered_stays : (text : List ℕ) → list_any is_ascii_uppercase text ≡ false → str_to_ascii_lowercase text ≡ text
lowered_stays [] e = refl
lowered_stays (byte ∷ text) e =
    let parts = or_parts (is_ascii_uppercase byte) (list_any is_ascii_uppercase text) e in
    ap₂ (λ (x : ℕ) (xs : List ℕ). x ∷ xs) (stays byte parts.0) (lowered_stays text parts.1)

-- whose test answers so
pub is_lowered : (text : List ℕ) → true ≡ not (list_any is_ascii_uppercase text) → text ≡ str_to_ascii_lowercase text
is_lowered text e = sym (lowered_stays text (denied (list_any is_ascii_uppercase text) e))
