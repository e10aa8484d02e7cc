-- The first character of a text, and what is left of it.
use Rattle.std.proofs.Common.{◌≡◌, ℕ, ◌<◌, ◌≤◌, List, ◌∷◌, ◌++◌, length, Bool, true, false, ◌&&◌, sym, ap, ◌∙◌, arith}
use Rattle.std.proofs.Common.{subst, length-append}
use Rattle.std.proofs.lemmas.Str.{cons_from_encodes, chars-encodes, length-encode, len_utf8_bounds}
use Rattle.std.specs.Str.{chars, IsUtf8}
use lib.Utf8.{scalars, encode}

second : (a b : Bool) → (a && b) ≡ true → b ≡ true
second true b e = e
second false b e = cc

pub chars_step : (bs rest : List ℕ) (c : ℕ) → IsUtf8 bs → bs ≡ encode c ++ rest → chars bs ≡ c ∷ chars rest
chars_step bs rest c u e =
    let found = cons_from_encodes u.0 rest c (u.1.1 ∙ e) in
    let whole : scalars (c ∷ found.0) ≡ true = subst (λ (cs : List ℕ). scalars cs ≡ true) found.1 u.1.0 in
    let left : chars rest ≡ found.0 =
    ap chars (sym found.2) ∙ chars-encodes found.0 (second _ (scalars found.0) whole) in
    ap chars (sym u.1.1) ∙ chars-encodes u.0 u.1.0 ∙ found.1 ∙ ap (λ (t : List ℕ). c ∷ t) (sym left)

pub shorter_step : (bs rest : List ℕ) (c : ℕ) → bs ≡ encode c ++ rest → length rest < length bs
shorter_step bs rest c e =
    let n = ap length e in
    let k : 1 ≤ length (encode c) = rw length-encode (len_utf8_bounds c).0 in
    omega (arith, length-append (encode c) rest)
