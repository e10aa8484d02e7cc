-- What a hole with a width or a precision writes, in the words of the specs.
use Rattle.std.proofs.Common.{◌≡◌, ℕ, suc, zero, ◌-◌, ◌^◌, ◌≤◌, ◌<◌, List, [], ◌∷◌, ◌++◌, codes, length, replicate, Bool, true, false, if◌then◌else◌, refl, sym, ap, ◌∙◌, arith, append-nil, lit<}
use Rattle.std.proofs.lemmas.Bool.Decides.{nat_tests}
use Rattle.std.specs.Prelude.{◌==◌, ◌&&◌, nat_lt}
use lib.Utf8.{encode}
use Rattle.std.specs.List.{repeat}
use Rattle.std.specs.Fmt.{padded, format_spec, take_chars, char_count, styled_text}
use Rattle.std.proofs.lemmas.Str.{encode_ascii}
use Rattle.tokei_stats.proofs.Padding.{char_count-le, take_chars_all, styled_left}
use Rattle.tokei_stats.specs.Places.{left_in}
use Rattle.tokei_stats.specs.ReportRow.{name_cell}
use Rattle.tokei_print.specs.Cells.{right_in}
use Rattle.tokei_print.specs.NameSection.{shown_name}

one_space : encode 32 ≡ 32 ∷ []
one_space = encode_ascii 32 (lit< tt)

repeat_one : (n : ℕ) → repeat {A = ℕ} n (32 ∷ []) ≡ replicate n 32
repeat_one zero = refl
repeat_one (suc n) = ap (λ (r : List ℕ). 32 ∷ r) (repeat_one n)

spaces : (n k : ℕ) → n ≡ k → repeat {A = ℕ} n (encode 32) ≡ replicate k 32
spaces n k e = rw (one_space, e) (repeat_one k)

chosen_text : (b : Bool) (x y : List ℕ) → (b ≡ true → x ≡ y) → (if b then x else y) ≡ y
chosen_text true x y e = e refl
chosen_text false x y e = refl

first_of_both : (a b : Bool) → (a && b) ≡ true → a ≡ true
first_of_both true b e = refl
first_of_both false b e = e

pub padded_right_text : (w : ℕ) (t : List ℕ) → length t < 2 ^ 64 → padded (format_spec 32 3 0 w (2 ^ 64 - 1)) t ≡ right_in w t
unfolding padded
padded_right_text w t h =
    let all : take_chars 18446744073709551615 t ≡ t = take_chars_all 18446744073709551615 t (omega (arith, char_count-le t)) in
    let p : ℕ = w - char_count t in
    let before : repeat {A = ℕ} p (encode 32) ≡ replicate p 32 = spaces p p refl in
    let behind : repeat {A = ℕ} (p - p) (encode 32) ≡ [] = spaces (p - p) 0 (omega arith) in
    rw (all, before, behind) (ap (λ (r : List ℕ). replicate p 32 ++ r) (append-nil t))

no_width : (w : ℕ) (t : List ℕ) → (w == 0) ≡ true → t ≡ right_in w t
no_width w t e =
    let zeroed : w ≡ 0 = grind (arith, nat_tests) in
    let none : w - char_count t ≡ 0 = omega arith in
    rw none refl

-- a text under `{:>w}`, also where w is 0
pub styled_right : (w : ℕ) (t : List ℕ) → length t < 2 ^ 64 → styled_text (format_spec 32 3 0 w (2 ^ 64 - 1)) t ≡ right_in w t
styled_right w t h =
    chosen_text ((w == 0) && true) t (padded (format_spec 32 3 0 w (2 ^ 64 - 1)) t) (λ e. no_width w t (first_of_both (w == 0) true e) ∙ sym (padded_right_text w t h)) ∙ padded_right_text w t h

nothing : (n : ℕ) → n ≡ 0 → repeat {A = ℕ} n (encode 32) ≡ []
nothing n e = spaces n 0 e

-- a text under `{:.n}`
precise : (n : ℕ) (t : List ℕ) → n < 2 ^ 64 - 1 → styled_text (format_spec 32 0 0 0 n) t ≡ take_chars n t
unfolding padded
precise n t h =
    let other : (n == 18446744073709551615) ≡ false = grind (arith, nat_tests) in
    let none : repeat {A = ℕ} (0 - char_count (take_chars n t) - 0) (encode 32) ≡ [] = nothing (0 - char_count (take_chars n t) - 0) (omega arith) in
    rw (other, none) (append-nil (take_chars n t))

-- a name that fits stands whole
pub short_cell : (w : ℕ) (name : List ℕ) → length name ≤ w → name_cell w name ≡ left_in w name
short_cell w name h = let fits : nat_lt w (length name) ≡ false = grind (arith, nat_tests) in rw fits refl

-- a name of more bytes than places is cut
pub cut_name : (places : ℕ) (name : List ℕ) → places < length name → places ≤ 65535 → styled_text (format_spec 32 0 0 0 (places - 1)) name ++ codes "|" ≡ shown_name places name
cut_name places name h n =
    let long : nat_lt places (length name) ≡ true = grind (arith, nat_tests) in
    rw long (ap (λ t. t ++ codes "|") (precise (places - 1) name (omega arith)))

-- and any other fills its places
pub whole_name : (places : ℕ) (name : List ℕ) → length name ≤ places → places ≤ 65535 → styled_text (format_spec 32 1 0 places (2 ^ 64 - 1)) name ≡ shown_name places name
whole_name places name h n =
    let fits : nat_lt places (length name) ≡ false = grind (arith, nat_tests) in
    rw fits (styled_left places name (omega arith))
