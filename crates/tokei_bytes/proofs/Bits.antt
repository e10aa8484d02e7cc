-- What the bits of a block's mask say of its bytes, one by one.
use Rattle.std.proofs.Common.{◌≡◌, ℕ, ◌+◌, ◌-◌, ◌<◌, ◌≤◌, ◌^◌, Bool, true, false, not, ◌&&◌, ◌||◌, ◌==◌, cond, min, max, List, [], ◌∷◌, map, length, get_or, bit_and, bit_or, w64, inl, inr, refl, sym, ap, ap₂, ◌∙◌, arith, get_or-take, get_or-drop}
use Rattle.std.proofs.lemmas.Nat.{and_le_l, or_lt}
use Rattle.std.proofs.lemmas.Nat.Bits.{bit_at_and, bit_at_or, bit_at_not, bit_at-trailing_zeros, bit_at-zero}
use Rattle.std.proofs.lemmas.Simd.{bit_mask_l, length-chunk}
use Rattle.std.proofs.lemmas.List.{length-map, get_or_past, get_or-map}
use Rattle.std.specs.Int.{bit_at, bit_not, trailing_zeros}
use Rattle.std.proofs.Math.Nat.{zero-min}
use lib.Lanes.{chunk, mask_l}
use Rattle.std.proofs.lemmas.Bool.{cases_lt}
use Rattle.tokei_bytes.specs.OneOf.{is_one_of}
use Rattle.tokei_bytes.specs.Pairs.{counts_at}

-- m is the mask of those of the w bytes of t from place i on of which p holds
module _ (p : ℕ → Bool) (w : ℕ) (t : List ℕ) (i m : ℕ) (room : i + w ≤ length t) (marked : m ≡ mask_l (map p (chunk i w t))) where
  pub bit_in : (k : ℕ) → k < w → bit_at m k ≡ cond (p (get_or t (i + k) 0)) 1 0
  bit_in k l =
      ap (λ n. bit_at n k) marked
      ∙ bit_mask_l (map p (chunk i w t)) k
      ∙ ap (λ b. cond b 1 0) (get_or-map p (chunk i w t) k 0 false (omega (arith, l, length-chunk i w t room))
      ∙ ap p (get_or-take w _ k 0 l ∙ get_or-drop i t k 0))

  pub bit_past : (k : ℕ) → w ≤ k → bit_at m k ≡ 0
  bit_past k l =
      ap (λ n. bit_at n k) marked
      ∙ bit_mask_l (map p (chunk i w t)) k
      ∙ ap (λ b. cond b 1 0) (get_or_past (map p (chunk i w t)) k false (omega (arith, l, length-map (chunk i w t) p, length-chunk i w t room)))

-- a bit of the first mask that the second one hasn't or the third one has
pub bit_of_three : (h f b k : ℕ) → f < 2 ^ 64 → k < 64
    → bit_at (bit_and h (bit_or (bit_not w64 f) b)) k ≡ min (bit_at h k) (max (1 - bit_at f k) (bit_at b k))
bit_of_three h f b k small within =
    bit_at_and h (bit_or (bit_not w64 f) b) k
    ∙ ap (λ n. min (bit_at h k) n) (bit_at_or (bit_not w64 f) b k ∙ ap (λ n. max n (bit_at b k)) (bit_at_not w64 f k small within))

pub by_tests : (x y z : Bool) → min (cond x 1 0) (max (1 - cond y 1 0) (cond z 1 0)) ≡ cond (x && (not y || z)) 1 0
by_tests true true true = refl
by_tests true true false = refl
by_tests true false true = refl
by_tests true false false = refl
by_tests false true true = refl
by_tests false true false = refl
by_tests false false true = refl
by_tests false false false = refl

-- a test as a bit
abbrev flag : Bool → ℕ
flag x = cond x 1 0

pub unset : (x : Bool) → flag x ≡ 0 → x ≡ false
unset true h = absurd (omega (arith, h))
unset false h = refl

pub set : (x : Bool) → flag x ≡ 1 → x ≡ true
set true h = refl
set false h = absurd (omega (arith, h))

-- n places behind i is the first of 32 at which p holds
pub record IsFirstIn (p : ℕ → Bool) (i n : ℕ) : Type 0 where
  pub low : i ≤ i + n
  pub high : i + n ≤ i + 32
  pub passed : (q : ℕ) → i ≤ q → q < i + n → p q ≡ false
  pub found : p (i + n) ≡ true

-- the bits of m say of each of 32 places from i on whether p holds there
module _ (p : ℕ → Bool) (i m : ℕ) (inside : (k : ℕ) → k < 32 → bit_at m k ≡ flag (p (i + k))) (past : (k : ℕ) → 32 ≤ k → bit_at m k ≡ 0) where
  none_told : (n : ℕ) → n ≤ 32 → ((k : ℕ) → k < n → bit_at m k ≡ 0) → (q : ℕ) → i ≤ q → q < i + n → p q ≡ false
  none_told n most clear q low high =
      let place : i + (q - i) ≡ q = omega (arith, low) in
      ap p (sym place) ∙ unset (p (i + (q - i))) (sym (inside (q - i) (omega (arith, low, high, most))) ∙ clear (q - i) (omega (arith, low, high)))

  low_told : (k : ℕ) → bit_at m k ≡ 1 → k < 32
  low_told k one = elim (cases_lt k 32) [
    | inl low ↦ low
    | inr high ↦ absurd (omega (arith, one, past k high))
  ]

  pub none_told_by_zero : m ≡ 0 → (q : ℕ) → i ≤ q → q < i + 32 → p q ≡ false
  none_told_by_zero zero = none_told 32 (omega arith) (λ k l. ap (λ n. bit_at n k) zero ∙ bit_at-zero k)

  -- the lowest bit tells the first place
  pub first_told : (m ≡ 0 → ⊥) → m < 2 ^ 64 → IsFirstIn p i (trailing_zeros w64 m)
  first_told some small =
      let lowest = bit_at-trailing_zeros w64 m (omega (arith, some)) small in
      let near : trailing_zeros w64 m < 32 = low_told (trailing_zeros w64 m) lowest.1 in
      record {
        low = omega arith;
        high = omega (arith, near);
        passed = none_told (trailing_zeros w64 m) (omega (arith, near)) lowest.2;
        found = set (p (i + trailing_zeros w64 m)) (sym (inside (trailing_zeros w64 m) near) ∙ lowest.1);
      }

-- of the 32 bytes of the text from place i on h is the mask of those in the list, f of the first, and b of the seconds behind
module _ (bytes : List ℕ) (first : ℕ) (seconds text : List ℕ) (i h f b m : ℕ) (room : i + 32 < length text)
    (here : h ≡ mask_l (map (is_one_of bytes) (chunk i 32 text)))
    (firsts : f ≡ mask_l (map (λ x. x == first) (chunk i 32 text)))
    (behind : b ≡ mask_l (map (is_one_of seconds) (chunk (i + 1) 32 text)))
    (small : f < 2 ^ 64)
    (marked : m ≡ bit_and h (bit_or (bit_not w64 f) b)) where
  bit_here : (k : ℕ) → k < 32 → bit_at m k ≡ cond (counts_at bytes first seconds text (i + k)) 1 0
  bit_here k l =
      let next : i + 1 + k ≡ i + k + 1 = omega arith in
      ap (λ n. bit_at n k) marked
      ∙ bit_of_three h f b k small (omega (arith, l))
      ∙ ap₂ (λ x y. min x y) (bit_in (is_one_of bytes) 32 text i h (omega (arith, room)) here k l)
      (ap₂ (λ x y. max x y)
      (ap (λ n. 1 - n) (bit_in (λ x. x == first) 32 text i f (omega (arith, room)) firsts k l))
      (bit_in (is_one_of seconds) 32 text (i + 1) b (omega (arith, room)) behind k l
      ∙ ap (λ j. cond (is_one_of seconds (get_or text j 0)) 1 0) next))
      ∙ by_tests (is_one_of bytes (get_or text (i + k) 0)) (get_or text (i + k) 0 == first) (is_one_of seconds (get_or text (i + k + 1) 0))

  none_past : (k : ℕ) → 32 ≤ k → bit_at m k ≡ 0
  none_past k past =
      let none : bit_at h k ≡ 0 = bit_past (is_one_of bytes) 32 text i h (omega (arith, room)) here k past in
      ap (λ n. bit_at n k) marked ∙ bit_at_and h (bit_or (bit_not w64 f) b) k
      ∙ ap (λ n. min n (bit_at (bit_or (bit_not w64 f) b) k)) none ∙ zero-min (bit_at (bit_or (bit_not w64 f) b) k)

  pub none_here : m ≡ 0 → (p : ℕ) → i ≤ p → p < i + 32 → counts_at bytes first seconds text p ≡ false
  none_here = none_told_by_zero (counts_at bytes first seconds text) i m bit_here none_past

  pub first_here : h < 2 ^ 64 → (m ≡ 0 → ⊥) → IsFirstIn (counts_at bytes first seconds text) i (trailing_zeros w64 m)
  first_here fits some =
      first_told (counts_at bytes first seconds text) i m bit_here none_past some (omega (arith, marked, fits, and_le_l h (bit_or (bit_not w64 f) b)))

-- a bit of the first mask that the second one hasn't, or one of the second that the third one has
bit_of_two : (o f b k : ℕ) → f < 2 ^ 64 → k < 64
    → bit_at (bit_or (bit_and o (bit_not w64 f)) (bit_and f b)) k ≡ max (min (bit_at o k) (1 - bit_at f k)) (min (bit_at f k) (bit_at b k))
bit_of_two o f b k small within =
    bit_at_or (bit_and o (bit_not w64 f)) (bit_and f b) k
    ∙ ap₂ (λ x y. max x y) (bit_at_and o (bit_not w64 f) k ∙ ap (λ n. min (bit_at o k) n) (bit_at_not w64 f k small within)) (bit_at_and f b k)

two_by_tests : (x y z : Bool) → max (min (flag x) (1 - flag y)) (min (flag y) (flag z)) ≡ flag (cond x true (cond y true false) && (not y || cond z true false))
two_by_tests true true true = refl
two_by_tests true true false = refl
two_by_tests true false true = refl
two_by_tests true false false = refl
two_by_tests false true true = refl
two_by_tests false true false = refl
two_by_tests false false true = refl
two_by_tests false false false = refl

-- the same for two bytes, of which o marks the other one, and for one second
module _ (other first second : ℕ) (text : List ℕ) (i o f b m : ℕ) (room : i + 32 < length text)
    (others : o ≡ mask_l (map (λ x. x == other) (chunk i 32 text)))
    (firsts : f ≡ mask_l (map (λ x. x == first) (chunk i 32 text)))
    (behind : b ≡ mask_l (map (λ x. x == second) (chunk (i + 1) 32 text)))
    (small : f < 2 ^ 64)
    (marked : m ≡ bit_or (bit_and o (bit_not w64 f)) (bit_and f b)) where
  two_here : (k : ℕ) → k < 32 → bit_at m k ≡ flag (counts_at (other ∷ first ∷ []) first (second ∷ []) text (i + k))
  two_here k l =
      let next : i + 1 + k ≡ i + k + 1 = omega arith in
      let x : ℕ = get_or text (i + k) 0 in
      let y : ℕ = get_or text (i + k + 1) 0 in
      let at_first : bit_at f k ≡ flag (x == first) = bit_in (λ x. x == first) 32 text i f (omega (arith, room)) firsts k l in
      let at_other : bit_at o k ≡ flag (x == other) = bit_in (λ x. x == other) 32 text i o (omega (arith, room)) others k l in
      let at_second : bit_at b k ≡ flag (y == second) =
      bit_in (λ x. x == second) 32 text (i + 1) b (omega (arith, room)) behind k l
      ∙ ap (λ j. flag (get_or text j 0 == second)) next in
      ap (λ n. bit_at n k) marked
      ∙ bit_of_two o f b k small (omega (arith, l))
      ∙ ap₂ (λ u v. max u v) (ap₂ (λ u v. min u v) at_other (ap (λ n. 1 - n) at_first)) (ap₂ (λ u v. min u v) at_first at_second)
      ∙ two_by_tests (x == other) (x == first) (y == second)

  two_past : (k : ℕ) → 32 ≤ k → bit_at m k ≡ 0
  two_past k past =
      let no_other : bit_at o k ≡ 0 = bit_past (λ x. x == other) 32 text i o (omega (arith, room)) others k past in
      let no_first : bit_at f k ≡ 0 = bit_past (λ x. x == first) 32 text i f (omega (arith, room)) firsts k past in
      ap (λ n. bit_at n k) marked
      ∙ bit_at_or (bit_and o (bit_not w64 f)) (bit_and f b) k
      ∙ ap₂ (λ u v. max u v)
      (bit_at_and o (bit_not w64 f) k ∙ ap (λ n. min n (bit_at (bit_not w64 f) k)) no_other ∙ zero-min (bit_at (bit_not w64 f) k))
      (bit_at_and f b k ∙ ap (λ n. min n (bit_at b k)) no_first ∙ zero-min (bit_at b k))

  pub none_of_two : m ≡ 0 → (p : ℕ) → i ≤ p → p < i + 32 → counts_at (other ∷ first ∷ []) first (second ∷ []) text p ≡ false
  none_of_two = none_told_by_zero (counts_at (other ∷ first ∷ []) first (second ∷ []) text) i m two_here two_past

  pub first_of_two : o < 2 ^ 64 → (m ≡ 0 → ⊥) → IsFirstIn (counts_at (other ∷ first ∷ []) first (second ∷ []) text) i (trailing_zeros w64 m)
  first_of_two fits some =
      let both = or_lt 64 (bit_and o (bit_not w64 f)) (bit_and f b) (omega (arith, fits, and_le_l o (bit_not w64 f))) (omega (arith, small, and_le_l f b)) in
      first_told (counts_at (other ∷ first ∷ []) first (second ∷ []) text) i m two_here two_past some (omega (arith, marked, both))
