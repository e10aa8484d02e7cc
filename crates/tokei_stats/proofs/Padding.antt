-- What a hole with a width writes, in the words of `specs/Places.antt`.
use Rattle.std.proofs.Common.{◌≡◌, ℕ, suc, zero, ◌+◌, ◌-◌, ◌^◌, ◌≤◌, ◌<◌, List, [], ◌∷◌, ◌++◌, length, replicate, Bool, true, false, if◌then◌else◌, refl, sym, ap, ap₂, ◌∙◌, arith, append-nil, lit<}
use Rattle.std.proofs.lemmas.Bool.Decides.{nat_tests}
use Rattle.std.proofs.lemmas.Str.{encode_ascii}
use lib.Utf8.{encode}
use Rattle.std.specs.Prelude.{◌==◌, ◌&&◌, nat_lt, drop}
use Rattle.std.specs.List.{repeat}
use Rattle.std.specs.Fmt.{padded, padded_integral, format_spec, take_chars, char_count, is_char_start, styled_text}
use Rattle.tokei_stats.specs.Places.{left_in}
use Rattle.tokei_stats.specs.ReportRow.{name_cell}
use Rattle.tokei_bytes.specs.Boundaries.{boundary_from}

one_at_most : (x : Bool) (m k : ℕ) → m ≤ k → (if x then 1 else 0) + m ≤ suc k
one_at_most true m k h = omega arith
one_at_most false m k h = omega arith

pub char_count-le : (t : List ℕ) → char_count t ≤ length t
unfolding char_count
char_count-le [] = omega arith
char_count-le (b ∷ t) = one_at_most (is_char_start b) (char_count t) (length t) (char_count-le t)

taken : (x : Bool) (n b c : ℕ) (t : List ℕ) (f : ℕ → List ℕ) → ((m : ℕ) → c ≤ m → f m ≡ t) → (if x then 1 else 0) + c ≤ n
    → (if x then (if n == 0 then [] else b ∷ f (n - 1)) else b ∷ f n) ≡ b ∷ t
taken true zero b c t f ih h = absurd (omega arith)
taken true (suc n) b c t f ih h = let e : (suc n == 0) ≡ false = grind (arith, nat_tests) in rw e (ap (λ (r : List ℕ). b ∷ r) (ih (suc n - 1) (omega arith)))
taken false n b c t f ih h = ap (λ (r : List ℕ). b ∷ r) (ih n (omega arith))

pub take_chars_all : (n : ℕ) (t : List ℕ) → char_count t ≤ n → take_chars n t ≡ t
unfolding char_count take_chars
take_chars_all n [] h = refl
take_chars_all n (b ∷ t) h = taken (is_char_start b) n b (char_count t) t (λ m. take_chars m t) (λ m k. take_chars_all m t k) h

one_space : encode 32 ≡ 32 ∷ []
one_space = encode_ascii 32 (lit< tt)

repeat_one : (n : ℕ) → repeat {A = ℕ} n (32 ∷ []) ≡ replicate n 32
repeat_one zero = refl
repeat_one (suc n) = ap (λ (r : List ℕ). 32 ∷ r) (repeat_one n)

spaces : (n k : ℕ) → n ≡ k → repeat {A = ℕ} n (encode 32) ≡ replicate k 32
spaces n k e = rw (one_space, e) (repeat_one k)

pub padded_left : (w : ℕ) (t : List ℕ) → length t < 2 ^ 64 → padded (format_spec 32 1 0 w (2 ^ 64 - 1)) t ≡ left_in w t
unfolding padded
padded_left w t h =
    let all : take_chars 18446744073709551615 t ≡ t = take_chars_all 18446744073709551615 t (omega (arith, char_count-le t)) in
    rw all (ap (λ (r : List ℕ). t ++ r) (spaces (w - char_count t - 0) (w - char_count t) (omega arith)))

no_more : (p : ℕ) → repeat {A = ℕ} (p - p) (encode 32) ≡ []
no_more p = spaces (p - p) 0 (omega arith)

pub padded_right : (w : ℕ) (t : List ℕ) → padded_integral (format_spec 32 3 0 w (2 ^ 64 - 1)) false [] t ≡ replicate (w - length t) 32 ++ t
unfolding padded_integral char_count
padded_right w t =
    let p : ℕ = w - length t - 0 - 0 in
    let before : ((repeat {A = ℕ} p (encode 32) ++ []) ++ []) ++ [] ≡ replicate (w - length t) 32 = append-nil _ ∙ append-nil _ ∙ append-nil _ ∙ spaces p (w - length t) (omega arith) in
    ap₂ (λ (x y : List ℕ). x ++ (t ++ y)) before (no_more p) ∙ ap (λ (y : List ℕ). replicate (w - length t) 32 ++ y) (append-nil t)

chosen_text : (b : Bool) (x y : List ℕ) → (b ≡ true → x ≡ y) → (if b then x else y) ≡ y
chosen_text true x y e = e refl
chosen_text false x y e = refl

first_of_both : (a b : Bool) → (a && b) ≡ true → a ≡ true
first_of_both true b e = refl
first_of_both false b e = e

no_width : (w : ℕ) (t : List ℕ) → (w == 0) ≡ true → t ≡ left_in w t
no_width w t e =
    let zeroed : w ≡ 0 = grind (arith, nat_tests) in
    let none : w - char_count t ≡ 0 = omega arith in
    rw none (sym (append-nil t))

-- a text under `{:<w}`, also where w is 0
pub styled_left : (w : ℕ) (t : List ℕ) → length t < 2 ^ 64 → styled_text (format_spec 32 1 0 w (2 ^ 64 - 1)) t ≡ left_in w t
styled_left w t h =
    chosen_text ((w == 0) && true) t (padded (format_spec 32 1 0 w (2 ^ 64 - 1)) t) (λ e. no_width w t (first_of_both (w == 0) true e) ∙ sym (padded_left w t h)) ∙ padded_left w t h

-- the rest of a shortened name stands behind its bar in one place less
pub shortened_cell : (w : ℕ) (name : List ℕ) → w < length name → 124 ∷ left_in (w - 1) (drop (boundary_from name (length name + 1 - w)) name) ≡ name_cell w name
unfolding char_count
shortened_cell w name long =
    let is_long : nat_lt w (length name) ≡ true = grind (arith, nat_tests) in
    let end : List ℕ = drop (boundary_from name (length name + 1 - w)) name in
    let room : w - 1 - char_count end ≡ w - (1 + char_count end) = omega arith in
    rw is_long (ap (λ (n : ℕ). 124 ∷ (end ++ replicate n 32)) room)
