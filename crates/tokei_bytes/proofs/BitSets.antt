-- Sets of bytes as the bits of words.
use Rattle.std.proofs.Common.{◌≡◌, ℕ, ◌*◌, ◌/◌, ◌%◌, ◌^◌, ◌-◌, ◌<◌, ◌==◌, ◌||◌, Bool, true, false}
use Rattle.std.proofs.Common.{List, [], ◌∷◌, length, replicate, get_or, set, bit_or, refl, sym, subst, ◌∙◌, ap, inl, inr, arith, ext_get_or, length-set, get_or-set_same, get_or-set_other, eq-eqb, w64}
use Rattle.std.proofs.lemmas.List.{length-replicate, get_or-replicate}
use Rattle.std.proofs.lemmas.List.FromFn.{length-map-range_with_len, get_or-map-range_with_len}
use Rattle.std.proofs.lemmas.Bool.{cases_eq}
use Rattle.std.proofs.lemmas.Nat.Bits.{bit_at_set_same, bit_at_set_other, bit_at-zero, bit_at_ones}
use Rattle.std.specs.Int.{bit_at}
use Rattle.tokei_bytes.specs.ByteSets.{HasFew, is_in}
use Rattle.tokei_bytes.proofs.Blocks.{the_one}
use Rattle.tokei_bytes.proofs.Sets.{put_in}
use Rattle.tokei_bytes.specs.BitSets.{has_bit, flags_of}

pub length-flags_of : (words : List ℕ) → length (flags_of words) ≡ 256
unfolding flags_of
length-flags_of words = length-map-range_with_len (has_bit words) 0 256

pub get_or-flags_of : (words : List ℕ) (k : ℕ) → k < 256 → get_or (flags_of words) k false ≡ has_bit words k
unfolding flags_of
get_or-flags_of words k h = get_or-map-range_with_len (has_bit words) 0 256 k k false h (omega arith)

-- four equal words, of whose bits each is as the flag says
same_flags : (word : ℕ) (flag : Bool) → ((k : ℕ) → k < 64 → (bit_at word k == 1) ≡ flag)
    → flags_of (replicate 4 word) ≡ replicate 256 flag
same_flags word flag each =
    ext_get_or false _ _ (length-flags_of (replicate 4 word) ∙ sym (length-replicate 256 flag))
    (λ k h.
    let within : k < 256 = omega (arith, h, length-flags_of (replicate 4 word)) in
    get_or-flags_of (replicate 4 word) k within
    ∙ ap (λ x. bit_at x (k % 64) == 1) (get_or-replicate 4 (k / 64) word 0 (omega (arith, within)))
    ∙ each (k % 64) (omega arith)
    ∙ sym (get_or-replicate 256 k flag false within))

pub no_flags : flags_of (replicate 4 0) ≡ replicate 256 false
no_flags = same_flags 0 false (λ k l. ap (λ x. x == 1) (bit_at-zero k))

pub all_flags : flags_of (replicate 4 (2 ^ 64 - 1)) ≡ replicate 256 true
all_flags = same_flags (2 ^ 64 - 1) true (λ k l. ap (λ x. x == 1) (bit_at_ones 64 k l))

-- the words after the bit of a byte became 1
abbrev pub with_bit : List ℕ → ℕ → List ℕ
with_bit words n = set words (n / 64) (bit_or (get_or words (n / 64) 0) (1 * 2 ^ (n % 64) % 2 ^ 64))

pub flags_of-with_bit : (words : List ℕ) (n : ℕ) → length words ≡ 4 → n < 256
    → flags_of (with_bit words n) ≡ set (flags_of words) n true
flags_of-with_bit words n four within =
    let word : ℕ = get_or words (n / 64) 0 in
    let v : ℕ = bit_or word (1 * 2 ^ (n % 64) % 2 ^ 64) in
    let new : List ℕ = with_bit words n in
    let n_in : n < length (flags_of words) = omega (arith, within, length-flags_of words) in
    let word_in : n / 64 < length words = omega (arith, within, four) in
    let low : n % 64 < 64 = omega arith in
    ext_get_or false _ _
    (length-flags_of new ∙ sym (length-flags_of words) ∙ sym (length-set (flags_of words) n true))
    (λ k h.
    let k_in : k < 256 = omega (arith, h, length-flags_of new) in
    get_or-flags_of new k k_in
    ∙ (elim (cases_eq k n) as (λ _. has_bit new k ≡ get_or (set (flags_of words) n true) k false) [
      | inl same ↦
          rw same
          (ap (λ x. bit_at x (n % 64) == 1) (get_or-set_same words (n / 64) v 0 word_in)
          ∙ eq-eqb _ 1 (bit_at_set_same w64 word (n % 64) low)
          ∙ sym (get_or-set_same (flags_of words) n true false n_in))
      | inr other ↦
          (elim (cases_eq (k / 64) (n / 64)) as (λ _. has_bit new k ≡ has_bit words k) [
            | inl row ↦
                ap (λ j. bit_at (get_or new j 0) (k % 64) == 1) row
                ∙ ap (λ x. bit_at x (k % 64) == 1) (get_or-set_same words (n / 64) v 0 word_in)
                ∙ ap (λ x. x == 1) (bit_at_set_other w64 word (n % 64) low (k % 64) (omega arith))
                ∙ ap (λ j. bit_at (get_or words j 0) (k % 64) == 1) (sym row)
            | inr apart ↦ ap (λ x. bit_at x (k % 64) == 1) (get_or-set_other words (n / 64) (k / 64) v 0 apart)
          ])
          ∙ sym (get_or-flags_of words k k_in)
          ∙ sym (get_or-set_other (flags_of words) n k true false other)
    ]))

pub bit_put : (words : List ℕ) (n x : ℕ) → length words ≡ 4 → n < 256
    → is_in (flags_of (with_bit words n)) x ≡ (is_in (flags_of words) x || (x == n))
bit_put words n x four fits =
    ap (λ fs. is_in fs x) (flags_of-with_bit words n four fits)
    ∙ put_in (flags_of words) n x (omega (arith, fits, length-flags_of words))

-- of more than four bytes the four are known, whatever is put beside them
pub more_than_few : (flags : List Bool) (few : List ℕ) (n b : ℕ) → b < length flags → HasFew flags few n → 4 < n
    → HasFew (set flags b true) few n
more_than_few flags few n b l has many = record {
  four = has.four;
  holds = λ small x fits h. absurd (omega (arith, small, many));
  held = λ some x h. put_in flags b x l ∙ ap (λ y. y || (x == b)) (has.held some x h);
}

-- each of four equal bytes is in the set of all
pub all_in : HasFew (replicate 256 true) (0 ∷ 0 ∷ 0 ∷ 0 ∷ []) 5
all_in = record {
  four = refl;
  holds = λ small b fits h. absurd (omega (arith, small));
  held = λ some b h. subst (λ x. is_in (replicate 256 true) x ≡ true) (sym (the_one b 0 h)) refl;
}
