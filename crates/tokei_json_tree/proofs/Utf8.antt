-- Which bytes are read as JSON.
use Rattle.std.proofs.Common.{◌≡◌, ℕ, List, Bool, true, false, Option, None, if◌then◌else◌, ◌∙◌, refl}
use Rattle.std.proofs.lemmas.Str.{is_utf8-from_IsUtf8, IsUtf8-from_is_utf8}
use Rattle.std.specs.Str.{is_utf8, IsUtf8}
use Rattle.serde_json.specs.Data.{Data}
use Rattle.serde_json.specs.Read.{read}
use Rattle.tokei_json_tree.specs.Bytes.{data_of_bytes}

chosen : (b : Bool) (x : Option Data) → b ≡ true → (if b then x else None) ≡ x
chosen true x e = refl
chosen false x e = absurd (cc)

left_out : (b : Bool) (x : Option Data) → (b ≡ true → ⊥) → (if b then x else None) ≡ None
left_out true x un = absurd (un refl)
left_out false x un = refl

pub data_read : (bytes : List ℕ) (d : Option Data) → IsUtf8 bytes → read bytes ≡ d → data_of_bytes bytes ≡ d
unfolding data_of_bytes
data_read bytes d u r = chosen (is_utf8 bytes) (read bytes) (is_utf8-from_IsUtf8 bytes u) ∙ r

pub data_none : (bytes : List ℕ) → (IsUtf8 bytes → ⊥) → data_of_bytes bytes ≡ None
unfolding data_of_bytes
data_none bytes un = left_out (is_utf8 bytes) (read bytes) (λ e. un (IsUtf8-from_is_utf8 bytes e))
