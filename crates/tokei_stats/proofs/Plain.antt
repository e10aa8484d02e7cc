-- A text without control characters is shown as it is.
use Rattle.std.proofs.Common.{◌≡◌, ℕ, List, [], ◌∷◌, ◌++◌, Bool, true, false, ◌||◌, flat_map, if◌then◌else◌, refl, sym, subst, ap, ap₂, ◌∙◌}
use Rattle.std.specs.Bool.{⊤}
use Rattle.std.proofs.lemmas.Str.{encodes-chars}
use Rattle.std.specs.Char.{is_control}
use Rattle.std.specs.List.{list_any}
use Rattle.std.specs.Str.{IsUtf8, chars}
use Rattle.std.specs.Prelude.{encode_utf8}
use Rattle.tokei_stats.specs.Shown.{shown_char, escaped, shown}
use lib.Utf8.{encodes}

abbrev is_no : Bool → Type 0
is_no true = ⊥
is_no false = ⊤

neither : (a b : Bool) → (a || b) ≡ false → (a ≡ false) × (b ≡ false)
neither true b e = absurd (subst is_no (sym e) tt)
neither false b e = (refl, e)

-- the characters are shown as they are, one after the other
pub plain_chars : (cs : List ℕ) → list_any is_control cs ≡ false → flat_map shown_char cs ≡ encodes cs
plain_chars [] h = refl
plain_chars (c ∷ cs) h =
    let both = neither (is_control c) (list_any is_control cs) h in
    ap₂ (λ (a b : List ℕ). a ++ b) (ap (λ (x : Bool). if x then escaped c else encode_utf8 c) both.0) (plain_chars cs both.1)

pub shows_plain : (text : List ℕ) → IsUtf8 text → list_any is_control (chars text) ≡ false → shown text ≡ text
shows_plain text is h = plain_chars (chars text) h ∙ encodes-chars text is
