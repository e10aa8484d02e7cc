-- What a look-up in slots gives, lane by lane.
use Rattle.std.proofs.Common.{◌≡◌, ℕ, zero, suc, ◌+◌, ◌*◌, ◌/◌, ◌%◌, ◌^◌, ◌<◌, ◌≤◌, ◌==◌, List, [], ◌∷◌, Bool, cond, eqb, length, get_or, set, get_or-set_same, get_or-set_other, true≢false, map, replicate, bit_and, bit_or, min, max, ap₂, ◌&&◌, ◌||◌, false, true, ◌⊎◌, inl, inr, refl, sym, ap, ◌∙◌, arith, w8, w64}
use Rattle.std.proofs.lemmas.Bool.Decides.{Decides-eqb}
use lib.Bits.{or_step}
use lib.Lanes.{chunk, zip2, mask_l, top}
use Rattle.std.specs.Int.{bit_at, trailing_zeros}
use Rattle.std.proofs.lemmas.Nat.Bits.{bit_at_and, bit_at_or}
use Rattle.std.proofs.Math.Nat.{zero-min}
use Rattle.std.proofs.lemmas.Nat.{and_le_l, and_mask, or_lt}
use Rattle.std.proofs.lemmas.Simd.{length-zip2, get_or-zip2, get_or-replicate, tops_compared, mask_l-mod, length-swz_l, get_or-swz_l_below, swz_l, SwzOk, SwzOk-from_below, Each1-from_get_or}
use Rattle.std.proofs.lemmas.List.{ext_get_or, length-map, get_or-map}
use Rattle.tokei_bytes.specs.Slots.{HasSlots, in_slots, is_slotted, is_told}
use Rattle.tokei_bytes.proofs.Bits.{IsFirstIn, bit_in, bit_past, none_told_by_zero, first_told}

-- the low halves of 32 bytes
module _ (v : List ℕ) (long : length v ≡ 32) where
  length-halves : length (zip2 bit_and v (replicate 32 15)) ≡ 32
  length-halves = length-zip2 bit_and v (replicate 32 15) (long ∙ refl) ∙ long

  half_at : (k : ℕ) → k < 32 → get_or (zip2 bit_and v (replicate 32 15)) k 0 ≡ get_or v k 0 % 16
  half_at k l =
      get_or-zip2 bit_and v (replicate 32 15) k 0 0 0 (omega arith) l
      ∙ ap (bit_and (get_or v k 0)) (get_or-replicate 32 k 15 0 l) ∙ and_mask (get_or v k 0) 4

  pub may_be_looked_up : SwzOk w8 16 32 0 (zip2 bit_and v (replicate 32 15))
  may_be_looked_up =
      SwzOk-from_below w8 16 2 32 0 (zip2 bit_and v (replicate 32 15)) refl (omega (arith, length-halves))
      (Each1-from_get_or (λ j. j < 16) (zip2 bit_and v (replicate 32 15)) 0 (λ k l. omega (arith, half_at k (omega (arith, l, length-halves)))))

  look_up_at : (slots wide : List ℕ) → HasSlots slots wide → (k : ℕ) → k < 32
      → get_or (swz_l w8 16 wide 0 (zip2 bit_and v (replicate 32 15))) k 0 ≡ get_or slots (get_or v k 0 % 16) 0
  look_up_at slots wide twice k l =
      let half = half_at k l in
      let place : ℕ = 16 * (k / 16) + get_or v k 0 % 16 in
      let same : 0 + k ≡ k = omega arith in
      let back : place % 16 ≡ get_or v k 0 % 16 = omega arith in
      get_or-swz_l_below w8 16 wide 0 (zip2 bit_and v (replicate 32 15)) k (omega (arith, l, length-halves)) (omega (arith, half))
      ∙ ap (λ j. get_or wide (16 * ((0 + k) / 16) + j) 0) half
      ∙ ap (λ n. get_or wide (16 * (n / 16) + get_or v k 0 % 16) 0) same
      ∙ twice.each place (omega (arith, l)) ∙ ap (λ j. get_or slots j 0) back

  pub looked_up : (slots wide : List ℕ) → HasSlots slots wide
      → swz_l w8 16 wide 0 (zip2 bit_and v (replicate 32 15)) ≡ map (λ x. get_or slots (x % 16) 0) v
  looked_up slots wide twice =
      let same = length-swz_l w8 16 wide 0 (zip2 bit_and v (replicate 32 15)) ∙ length-halves in
      ext_get_or 0 (swz_l w8 16 wide 0 (zip2 bit_and v (replicate 32 15))) (map (λ x. get_or slots (x % 16) 0) v)
      (same ∙ sym (length-map v (λ x. get_or slots (x % 16) 0) ∙ long))
      (λ k l.
      look_up_at slots wide twice k (omega (arith, l, same))
      ∙ sym (get_or-map (λ x. get_or slots (x % 16) 0) v k 0 0 (omega (arith, l, same, long))))

compared : (slots v : List ℕ) → zip2 eqb (map (λ x. get_or slots (x % 16) 0) v) v ≡ map (is_slotted slots) v
compared slots [] = refl
compared slots (x ∷ v) = ap (λ r. eqb (get_or slots (x % 16) 0) x ∷ r) (compared slots v)

-- `to_bitmask` of the comparison of 32 bytes with what stands in their slots
pub mask_of_slotted : (slots v found : List ℕ) → length v ≡ 32 → found ≡ map (λ x. get_or slots (x % 16) 0) v
    → mask_l (map (top 7) (zip2 (λ a b. cond (eqb a b) 255 0) found v)) % 2 ^ 64 ≡ mask_l (map (is_slotted slots) v)
mask_of_slotted slots v found long is =
    ap (λ ms. mask_l ms % 2 ^ 64)
    (tops_compared w8 eqb found v ∙ ap (λ f. zip2 eqb f v) is ∙ compared slots v)
    ∙ mask_l-mod (map (is_slotted slots) v) 64 (omega (arith, length-map v (is_slotted slots), long))

-- a slot of no byte has a byte with another low half
pub no_slot : (b : ℕ) → is_slotted (1 ∷ replicate 15 0) b ≡ false
no_slot b = by_test (is_slotted (1 ∷ replicate 15 0) b) refl
  where
    other : (k : ℕ) → b % 16 ≡ k → get_or (1 ∷ replicate 15 0) (b % 16) 0 ≡ b → ⊥
    other zero e h =
        let there : 1 ≡ b = ap (λ j. get_or (1 ∷ replicate 15 0) j 0) (sym e) ∙ h in
        omega (arith, there, e)
    other (suc k) e h =
        let within : k < 15 = omega (arith, e) in
        let there : 0 ≡ b = sym (get_or-replicate 15 k 0 0 within) ∙ ap (λ j. get_or (1 ∷ replicate 15 0) j 0) (sym e) ∙ h in
        omega (arith, there, e)

    by_test : (y : Bool) → is_slotted (1 ∷ replicate 15 0) b ≡ y → y ≡ false
    by_test false e = refl
    by_test true e = absurd (other (b % 16) refl ((Decides-eqb (get_or (1 ∷ replicate 15 0) (b % 16) 0) b).0 e))

told_by_tests : (x y z : Bool) → max (cond x 1 0) (min (cond y 1 0) (cond z 1 0)) ≡ cond (x || (y && z)) 1 0
told_by_tests true true true = refl
told_by_tests true true false = refl
told_by_tests true false true = refl
told_by_tests true false false = refl
told_by_tests false true true = refl
told_by_tests false true false = refl
told_by_tests false false true = refl
told_by_tests false false false = refl

-- of the 32 bytes of the text from place i on a is the mask of those that tell alone, f of the firsts, and b of the seconds behind
module _ (alone firsts seconds text : List ℕ) (i a f b m : ℕ) (room : i + 32 < length text)
    (alones : a ≡ mask_l (map (is_slotted alone) (chunk i 32 text)))
    (here : f ≡ mask_l (map (is_slotted firsts) (chunk i 32 text)))
    (behind : b ≡ mask_l (map (is_slotted seconds) (chunk (i + 1) 32 text)))
    (marked : m ≡ bit_or a (bit_and f b)) where
  told_here : (k : ℕ) → k < 32 → bit_at m k ≡ cond (is_told alone firsts seconds (get_or text (i + k) 0) (get_or text (i + k + 1) 0)) 1 0
  told_here k l =
      let next : i + 1 + k ≡ i + k + 1 = omega arith in
      ap (λ n. bit_at n k) marked
      ∙ bit_at_or a (bit_and f b) k
      ∙ ap₂ (λ x y. max x y) (bit_in (is_slotted alone) 32 text i a (omega (arith, room)) alones k l)
      (bit_at_and f b k
      ∙ ap₂ (λ x y. min x y) (bit_in (is_slotted firsts) 32 text i f (omega (arith, room)) here k l)
      (bit_in (is_slotted seconds) 32 text (i + 1) b (omega (arith, room)) behind k l
      ∙ ap (λ j. cond (is_slotted seconds (get_or text j 0)) 1 0) next))
      ∙ told_by_tests (is_slotted alone (get_or text (i + k) 0)) (is_slotted firsts (get_or text (i + k) 0)) (is_slotted seconds (get_or text (i + k + 1) 0))

  told_past : (k : ℕ) → 32 ≤ k → bit_at m k ≡ 0
  told_past k past =
      let no_alone : bit_at a k ≡ 0 = bit_past (is_slotted alone) 32 text i a (omega (arith, room)) alones k past in
      let no_first : bit_at f k ≡ 0 = bit_past (is_slotted firsts) 32 text i f (omega (arith, room)) here k past in
      ap (λ n. bit_at n k) marked
      ∙ bit_at_or a (bit_and f b) k
      ∙ ap₂ (λ x y. max x y) no_alone (bit_at_and f b k ∙ ap (λ n. min n (bit_at b k)) no_first ∙ zero-min (bit_at b k))

  pub none_of_told : m ≡ 0 → (p : ℕ) → i ≤ p → p < i + 32 → is_told alone firsts seconds (get_or text p 0) (get_or text (p + 1) 0) ≡ false
  none_of_told = none_told_by_zero (λ q. is_told alone firsts seconds (get_or text q 0) (get_or text (q + 1) 0)) i m told_here told_past

  pub first_of_told : a < 2 ^ 64 → f < 2 ^ 64 → (m ≡ 0 → ⊥)
      → IsFirstIn (λ q. is_told alone firsts seconds (get_or text q 0) (get_or text (q + 1) 0)) i (trailing_zeros w64 m)
  first_of_told small fits some =
      let both = or_lt 64 a (bit_and f b) (omega (arith, small)) (omega (arith, fits, and_le_l f b)) in
      first_told (λ q. is_told alone firsts seconds (get_or text q 0) (get_or text (q + 1) 0)) i m told_here told_past some (omega (arith, marked, both))

either_by_tests : (x y : Bool) → max (cond x 1 0) (cond y 1 0) ≡ cond (x || y) 1 0
either_by_tests true true = refl
either_by_tests true false = refl
either_by_tests false true = refl
either_by_tests false false = refl

-- a and b are the masks of those of the 32 bytes of the text from place i on that stand in one of two slots
module _ (slots others text : List ℕ) (i a b m : ℕ) (room : i + 32 ≤ length text)
    (ones : a ≡ mask_l (map (is_slotted slots) (chunk i 32 text)))
    (twos : b ≡ mask_l (map (is_slotted others) (chunk i 32 text)))
    (marked : m ≡ bit_or a b) where
  either_here : (k : ℕ) → k < 32 → bit_at m k ≡ cond (in_slots slots others (get_or text (i + k) 0)) 1 0
  either_here k l =
      ap (λ n. bit_at n k) marked
      ∙ bit_at_or a b k
      ∙ ap₂ (λ x y. max x y) (bit_in (is_slotted slots) 32 text i a room ones k l) (bit_in (is_slotted others) 32 text i b room twos k l)
      ∙ either_by_tests (is_slotted slots (get_or text (i + k) 0)) (is_slotted others (get_or text (i + k) 0))

  either_past : (k : ℕ) → 32 ≤ k → bit_at m k ≡ 0
  either_past k past =
      ap (λ n. bit_at n k) marked
      ∙ bit_at_or a b k
      ∙ ap₂ (λ x y. max x y) (bit_past (is_slotted slots) 32 text i a room ones k past) (bit_past (is_slotted others) 32 text i b room twos k past)

  pub none_slotted_here : m ≡ 0 → (p : ℕ) → i ≤ p → p < i + 32 → in_slots slots others (get_or text p 0) ≡ false
  none_slotted_here = none_told_by_zero (λ q. in_slots slots others (get_or text q 0)) i m either_here either_past

  pub first_of_slotted : a < 2 ^ 64 → b < 2 ^ 64 → (m ≡ 0 → ⊥) → IsFirstIn (λ q. in_slots slots others (get_or text q 0)) i (trailing_zeros w64 m)
  first_of_slotted small fits some =
      let both = or_lt 64 a b (omega (arith, small)) (omega (arith, fits)) in
      first_told (λ q. in_slots slots others (get_or text q 0)) i m either_here either_past some (omega (arith, marked, both))

-- one of two slots keeps a byte where either does
either : (a b : Bool) → (a || b) ≡ true → (a ≡ true) ⊎ (b ≡ true)
either true b h = inl refl
either false b h = inr h

in_first : (a b : Bool) → a ≡ true → (a || b) ≡ true
in_first true b h = refl
in_first false b h = cc

in_second : (a b : Bool) → b ≡ true → (a || b) ≡ true
in_second true b h = refl
in_second false b h = h

pub in_both : (slots others new new_others : List ℕ) (x : ℕ) → (is_slotted slots x ≡ true → is_slotted new x ≡ true)
    → (is_slotted others x ≡ true → is_slotted new_others x ≡ true)
    → in_slots slots others x ≡ true → in_slots new new_others x ≡ true
in_both slots others new new_others x one two h = elim (either (is_slotted slots x) (is_slotted others x) h) [
  | inl there ↦ in_first (is_slotted new x) (is_slotted new_others x) (one there)
  | inr there ↦ in_second (is_slotted new x) (is_slotted new_others x) (two there)
]

pub put_first : (new others : List ℕ) (x : ℕ) → is_slotted new x ≡ true → in_slots new others x ≡ true
put_first new others x h = in_first (is_slotted new x) (is_slotted others x) h

pub put_second : (slots new : List ℕ) (x : ℕ) → is_slotted new x ≡ true → in_slots slots new x ≡ true
put_second slots new x h = in_second (is_slotted slots x) (is_slotted new x) h

either_bit : (x y : Bool) (m n : ℕ) → bit_or (cond x 1 0 + 2 * m) (cond y 1 0 + 2 * n) ≡ cond (x || y) 1 0 + 2 * bit_or m n
either_bit x y m n =
    or_step (cond x 1 0 + 2 * m) (cond y 1 0 + 2 * n)
    ∙ ap₂ (λ a b. a * 2 + b)
    (ap₂ bit_or (half x m) (half y n))
    (ap₂ max (low x m) (low y n) ∙ either_by_tests x y)
    ∙ omega arith
  where
    half : (x : Bool) (m : ℕ) → (cond x 1 0 + 2 * m) / 2 ≡ m
    half true m = omega arith
    half false m = omega arith

    low : (x : Bool) (m : ℕ) → (cond x 1 0 + 2 * m) % 2 ≡ cond x 1 0
    low true m = omega arith
    low false m = omega arith

-- of two masks of the same bytes either is the mask of those of which one of both holds
pub mask_of_either : (p q : ℕ → Bool) (v : List ℕ) → bit_or (mask_l (map p v)) (mask_l (map q v)) ≡ mask_l (map (λ x. p x || q x) v)
mask_of_either p q [] = refl
mask_of_either p q (x ∷ v) =
    either_bit (p x) (q x) (mask_l (map p v)) (mask_l (map q v)) ∙ ap (λ m. cond (p x || q x) 1 0 + 2 * m) (mask_of_either p q v)

-- the bytes that stand in the one table are all where the other one has none
pub mask_of_one : (slots others v : List ℕ) → ((x : ℕ) → is_slotted others x ≡ false) → mask_l (map (is_slotted slots) v) ≡ mask_l (map (in_slots slots others) v)
mask_of_one slots others [] none = refl
mask_of_one slots others (x ∷ v) none =
    ap₂ (λ b m. cond b 1 0 + 2 * m) (sym (ap (λ b. is_slotted slots x || b) (none x) ∙ or_false (is_slotted slots x))) (mask_of_one slots others v none)
  where
    or_false : (b : Bool) → (b || false) ≡ b
    or_false true = refl
    or_false false = refl

-- what holds by one of two tests held by one of two before, or is new, where it is so of each
pub either_or_new : (a b old_a old_b : Bool) {New : Type 0} → (a ≡ true → (old_a ≡ true) ⊎ New) → (b ≡ true → (old_b ≡ true) ⊎ New)
    → (a || b) ≡ true → ((old_a || old_b) ≡ true) ⊎ New
either_or_new a b true old_b first second h = inl refl
either_or_new true b false true first second h = inl refl
either_or_new false b false true first second h = inl refl
either_or_new true b false false first second h = first refl
either_or_new false b false false first second h = second h

-- beside the byte that is put into its slot only those stand in theirs that did before
pub only_put : (slots : List ℕ) (b x : ℕ) → length slots ≡ 16 → is_slotted (set slots (b % 16) b) x ≡ true → (is_slotted slots x ≡ true) ⊎ (x ≡ b)
only_put slots b x long h = by (x % 16 == b % 16) refl
  where
    by : (c : Bool) → (x % 16 == b % 16) ≡ c → (is_slotted slots x ≡ true) ⊎ (x ≡ b)
    by true q =
        let there : get_or (set slots (b % 16) b) (b % 16) 0 ≡ b = get_or-set_same slots (b % 16) b 0 (omega (arith, long)) in
        let stands : get_or (set slots (b % 16) b) (x % 16) 0 ≡ x = (Decides-eqb (get_or (set slots (b % 16) b) (x % 16) 0) x).0 h in
        inr (sym stands ∙ ap (λ j. get_or (set slots (b % 16) b) j 0) ((Decides-eqb (x % 16) (b % 16)).0 q) ∙ there)
    by false q =
        inl (ap (λ y. y == x) (sym (get_or-set_other slots (b % 16) (x % 16) b 0 (λ e. true≢false (sym ((Decides-eqb (x % 16) (b % 16)).1 e) ∙ q)))) ∙ h)
