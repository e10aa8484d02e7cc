-- Grouped digits, one digit at a time.
use Rattle.std.proofs.Common.{◌≡◌, ℕ, suc, ◌+◌, ◌-◌, ◌<◌, ◌^◌, List, [], ◌∷◌, ◌++◌, length, drop, get_or, decimal, if◌then◌else◌, refl, ap, ◌∙◌, arith, append_assoc, add-one, drop-cons, length-drop, encode_utf8}
use Rattle.std.proofs.lemmas.Fmt.{IsAscii-decimal}
use Rattle.std.proofs.lemmas.Str.{encode_ascii}
use Rattle.tokei_options.specs.Grouping.{grouped, ends_group}

pub grouped-drop : (separator digits : List ℕ) (i : ℕ) → i < length digits
    → grouped separator (drop i digits) ≡ get_or digits i 0 ∷ ((if ends_group (length digits - 1 - i) then separator else []) ++ grouped separator (drop (i + 1) digits))
grouped-drop separator digits i h =
    let rest : length (drop (suc i) digits) ≡ length digits - 1 - i = omega (arith, length-drop (suc i) digits) in
    let split : drop i digits ≡ get_or digits i 0 ∷ drop (suc i) digits = drop-cons digits i 0 h in
    rw (add-one, split, rest) refl

-- a digit and what ends its group go from the digits to the text
pub group_step : (separator digits text next : List ℕ) (i digit : ℕ) → i < length digits → get_or digits i 0 ≡ digit → digit < 128
    → next ≡ (text ++ encode_utf8 digit) ++ (if ends_group (length digits - 1 - i) then separator else [])
    → next ++ grouped separator (drop (i + 1) digits) ≡ text ++ grouped separator (drop i digits)
group_step separator digits text next i digit h is small e =
    let one : encode_utf8 digit ≡ digit ∷ [] = encode_ascii digit small in
    let end : List ℕ = if ends_group (length digits - 1 - i) then separator else [] in
    let rest : List ℕ = grouped separator (drop (i + 1) digits) in
    let made : next ++ rest ≡ ((text ++ (digit ∷ [])) ++ end) ++ rest = ap (λ (t : List ℕ). t ++ rest) (e ∙ ap (λ (d : List ℕ). (text ++ d) ++ end) one) in
    let from : grouped separator (drop i digits) ≡ digit ∷ (end ++ rest) = grouped-drop separator digits i h ∙ ap (λ (d : ℕ). d ∷ (end ++ rest)) is in
    rw (made, from) (simp append_assoc)

-- each digit of a number is one byte
pub decimal-small : (n i : ℕ) → n < 2 ^ 64 → get_or (decimal n) i 0 < 128
decimal-small n i h = IsAscii-decimal n h i
