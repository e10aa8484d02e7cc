-- Which texts read as a count.
use Rattle.std.proofs.Common.{◌≡◌, ℕ, ◌^◌, ◌<◌, ◌==◌, List, length, slice_index}
use Rattle.std.proofs.Common.{Bool, true, false, ◌&&◌, not, ℤ, Float, nat_lt, nat_le, drop, Option}
use Rattle.std.proofs.Common.{Some, None, is_some, option_and_then, if◌then◌else◌, refl, sym, ap, ◌∙◌, arith}
use Rattle.std.proofs.lemmas.Bool.Decides.{nat_tests}
use Rattle.std.specs.Float.{binary64, float_is_finite}
use Rattle.std.specs.Option.{SomeIff}
use Rattle.fast_float.specs.Text.{IsInteger, Parts, digits_of, minus, nearest, scan, with_sign}
use Rattle.serde_json.specs.Data.{Num, unsigned, negative, float}
use Rattle.serde_json.specs.Find.{as_u64}
use Rattle.serde_json.specs.Read.{float_of, is_integer, number_from, number_of}

-- the count of a number, if there is one and it is a count
abbrev pub count_of : Option Num → Option ℕ
count_of o = option_and_then as_u64 o

float_or_none : (t : Bool) (x : Float) → count_of (if t then Some (float x) else None) ≡ None
float_or_none true x = refl
float_or_none false x = refl

no_float : (sign : Bool) (p : Parts) → count_of (float_of sign p) ≡ None
no_float sign p = float_or_none (float_is_finite (nearest binary64 sign p)) (nearest binary64 sign p)

negative_or : (t : Bool) (z : ℤ) (o : Option Num) → count_of o ≡ None → count_of (if t then Some (negative z) else o) ≡ None
negative_or true z o h = refl
negative_or false z o h = h

unsigned_or : (t : Bool) (n : ℕ) (o : Option Num) → count_of o ≡ None
    → count_of (if t then Some (unsigned n) else o) ≡ (if t then Some n else None)
unsigned_or true n o h = refl
unsigned_or false n o h = h

first_of : {X : Type 0} (b : Bool) (x y : X) → b ≡ true → (if b then x else y) ≡ x
first_of true x y e = refl
first_of false x y e = absurd cc

second_of : {X : Type 0} (b : Bool) (x y : X) → b ≡ false → (if b then x else y) ≡ y
second_of true x y e = absurd cc
second_of false x y e = refl

fits : (n e d m : ℕ) (b : Bool) (o : Option ℕ) → SomeIff o (((0 < n) × (b ≡ false) × (e ≡ 0)) × (d < m)) d
    → is_some o ≡ ((nat_lt 0 n && not b && (e == 0)) && nat_lt d m)
fits n e d m b None h = grind (arith, nat_tests)
fits n e d m b (Some x) h = grind (arith, nat_tests)

chosen : (P : Type 0) (t : Bool) (d : ℕ) (o : Option ℕ) → is_some o ≡ t → SomeIff o P d → o ≡ (if t then Some d else None)
chosen P true d None e h = absurd cc
chosen P false d None e h = refl
chosen P true d (Some x) e h = ap Some h.1
chosen P false d (Some x) e h = absurd cc

pub with_minus : (s : List ℕ) → (slice_index s 0 == minus) ≡ true → None ≡ count_of (number_of s)
unfolding number_of
with_minus s e =
    let p = scan (drop 1 s) in
    sym (ap count_of (first_of (slice_index s 0 == minus) (number_from true p) (number_from false (scan s)) e)
    ∙ negative_or (is_integer p && nat_lt 0 (digits_of p) && nat_le (digits_of p) (2 ^ 63)) (with_sign true (digits_of p)) (float_of true p) (no_float true p))

pub without_minus : (s : List ℕ) (p : Parts) (o : Option ℕ) → p ≡ scan s → (slice_index s 0 == minus) ≡ false
    → SomeIff o (IsInteger p × (digits_of p < 2 ^ 64)) (digits_of p) → o ≡ count_of (number_of s)
unfolding number_of
without_minus s p o same e h =
    let t = is_integer p && nat_lt (digits_of p) (2 ^ 64) in
    chosen (IsInteger p × (digits_of p < 2 ^ 64)) t (digits_of p) o (fits (length p.whole) (length p.exponent) (digits_of p) (2 ^ 64) p.point o h) h
    ∙ sym (ap count_of (second_of (slice_index s 0 == minus) (number_from true (scan (drop 1 s))) (number_from false (scan s)) e)
    ∙ ap (λ q. count_of (number_from false q)) (sym same)
    ∙ unsigned_or t (digits_of p) (float_of false p) (no_float false p))
