-- The units of bytes, and the text of what they spell.
use Rattle.std.proofs.Common.{◌≡◌, ℕ, suc, ◌/◌, ◌%◌, List, [], ◌∷◌, ◌++◌, length, map, slice_index, true, false, refl, sym, ap, ◌∙◌, arith, append-nil}
use Rattle.std.proofs.lemmas.Bool.Decides.{nat_tests}
use Rattle.std.proofs.lemmas.Str.{encodes-append}
use Rattle.std.specs.Prelude.{◌==◌, encode_utf8}
use Rattle.std.specs.Simd.{first_chunks}
use Rattle.std.specs.Str.{encode_utf8_all}
use Rattle.tokei_bytes.specs.Decoding.{unit_of, units_of, odd_byte}
use Rattle.tokei_bytes.specs.declared.decoding.ByteOrder.{ByteOrder}

-- the units are those of the pairs into which the bytes are cut
pub units_of_pairs : (order : ByteOrder) (bytes : List ℕ) → map (λ (p : List ℕ). unit_of order (slice_index p 0) (slice_index p 1)) (first_chunks 2 (length bytes / 2) bytes) ≡ units_of order bytes
units_of_pairs order [] = refl
units_of_pairs order (a ∷ []) = refl
units_of_pairs order (a ∷ b ∷ rest) =
    let one_more : length (a ∷ b ∷ rest) / 2 ≡ suc (length rest / 2) = omega arith in
    rw one_more (ap (λ (us : List ℕ). unit_of order a b ∷ us) (units_of_pairs order rest))

-- an odd last byte is U+FFFD behind the other characters
pub encoded_odd : (chars bytes : List ℕ) → length bytes % 2 ≡ 1 → encode_utf8_all chars ++ encode_utf8 0xFFFD ≡ encode_utf8_all (chars ++ odd_byte bytes)
encoded_odd chars bytes h =
    let is_odd : (length bytes % 2 == 1) ≡ true = grind (arith, nat_tests) in
    rw is_odd (ap (λ (r : List ℕ). encode_utf8_all chars ++ r) (sym (append-nil (encode_utf8 0xFFFD))) ∙ sym (encodes-append chars (0xFFFD ∷ [])))

-- where there is none, they are all
pub encoded_even : (chars bytes : List ℕ) → (length bytes % 2 ≡ 1 → ⊥) → encode_utf8_all chars ≡ encode_utf8_all (chars ++ odd_byte bytes)
encoded_even chars bytes h =
    let is_even : (length bytes % 2 == 1) ≡ false = grind (arith, nat_tests) in
    rw is_even (ap encode_utf8_all (sym (append-nil chars)))
