-- The carry of a block. The numbers of its blanks and of its newlines are added as masks, and 1 where
-- the line that it begins in has no front yet. A blank passes on what is carried to it, a newline
-- carries always, and no other byte does. So what stands behind the block's bits says whether its
-- last line has no front yet, and of the bits of the sum at bytes that aren't blank those are set to
-- which was carried: the fronts.
use Rattle.std.proofs.Common.{◌≡◌, ℕ, zero, suc, ◌+◌, ◌-◌, ◌*◌, ◌/◌, ◌%◌, ◌^◌, ◌<◌, ◌≤◌, ◌==◌, ◌&&◌, ◌||◌, not, cond, min, Bool, true, false, List, [], ◌∷◌, map, length, bit_and, refl, sym, ap, ap₂, ◌∙◌, arith}
use Rattle.std.proofs.lemmas.Simd.{mask_l-lt, length-chunk}
use Rattle.std.proofs.lemmas.List.{length-map}
use Rattle.std.proofs.Math.Nat.{two-pow-succ}
use lib.Bits.{and_step, and_zero_r}
use Rattle.std.proofs.lemmas.Bool.Decides.{Decides-eqb}
use lib.Lanes.{chunk, mask_l}
use Rattle.tokei_bytes.specs.Lines.{newline, is_blank, flag, blank_behind, blank_after, fronts}

abbrev pub blanks : List ℕ → ℕ
blanks v = mask_l (map is_blank v)

abbrev pub newlines : List ℕ → ℕ
newlines v = mask_l (map (λ x. x == newline) v)

abbrev pub solids : List ℕ → ℕ
solids v = mask_l (map (λ x. not (is_blank x)) v)

-- a bit of the sum at a byte: whether it is a newline, and whether it is blank
abbrev digit : Bool → Bool → Bool → Bool
digit blank ends is = cond ends blank (cond is (not blank) blank)

-- the bits of the sum
abbrev pub digits : Bool → List ℕ → List Bool
digits blank [] = []
digits blank (b ∷ t) = digit blank (b == newline) (is_blank b) ∷ digits (blank_behind blank b) t

-- a newline is blank
ends_blank : (b : ℕ) → (b == newline) ≡ true → is_blank b ≡ true
ends_blank b h = ap is_blank ((Decides-eqb b newline).0 h)

never : false ≡ true → ⊥
never h = cc

-- one byte more
one_more : (blank ends is : Bool) → (ends ≡ true → is ≡ true) → (w n d m : ℕ) (behind : Bool) → behind ≡ (ends || (blank && is)) → w + n + flag behind ≡ d + m
    → cond is 1 0 + 2 * w + (cond ends 1 0 + 2 * n) + flag blank ≡ cond (digit blank ends is) 1 0 + 2 * d + 2 * m
one_more true true false e w n d m behind b h = absurd (never (e refl))
one_more false true false e w n d m behind b h = absurd (never (e refl))
one_more true true true e w n d m behind b h = omega (arith, h, ap flag b)
one_more true false true e w n d m behind b h = omega (arith, h, ap flag b)
one_more true false false e w n d m behind b h = omega (arith, h, ap flag b)
one_more false true true e w n d m behind b h = omega (arith, h, ap flag b)
one_more false false true e w n d m behind b h = omega (arith, h, ap flag b)
one_more false false false e w n d m behind b h = omega (arith, h, ap flag b)

-- what is carried out of so many bits
abbrev pub out : Bool → ℕ → ℕ
out carries k = cond carries (2 ^ k) 0

out_more : (carries : Bool) (k : ℕ) → out carries (suc k) ≡ 2 * out carries k
out_more true k = omega (arith, two-pow-succ k)
out_more false k = refl

-- the sum: its bits, and behind them what is carried out of the block
pub carry : (v : List ℕ) (blank : Bool) → blanks v + newlines v + flag blank ≡ mask_l (digits blank v) + out (blank_after blank v) (length v)
carry [] true = refl
carry [] false = refl
carry (b ∷ t) blank =
    let behind : Bool = blank_behind blank b in
    let after : Bool = blank_after behind t in
    one_more blank (b == newline) (is_blank b) (ends_blank b) (blanks t) (newlines t) (mask_l (digits behind t)) (out after (length t)) behind refl (carry t behind)
    ∙ ap (λ n. mask_l (digits blank (b ∷ t)) + n) (sym (out_more after (length t)))

-- the bytes that aren't blank
pub others : (v : List ℕ) → blanks v + solids v + 1 ≡ 2 ^ length v
others [] = refl
others (b ∷ t) = by_test (is_blank b) (others t) ∙ omega (arith, two-pow-succ (length t))
  where
    by_test : (x : Bool) → blanks t + solids t + 1 ≡ 2 ^ length t → cond x 1 0 + 2 * blanks t + (cond (not x) 1 0 + 2 * solids t) + 1 ≡ 2 * 2 ^ length t
    by_test true h = omega (arith, h)
    by_test false h = omega (arith, h)

-- one bit more of two masks
pub and_one : (x y : Bool) (a b : ℕ) → bit_and (cond x 1 0 + 2 * a) (cond y 1 0 + 2 * b) ≡ cond (x && y) 1 0 + 2 * bit_and a b
and_one x y a b =
    let ah : (cond x 1 0 + 2 * a) / 2 ≡ a = half x a in
    let bh : (cond y 1 0 + 2 * b) / 2 ≡ b = half y b in
    and_step (cond x 1 0 + 2 * a) (cond y 1 0 + 2 * b) ∙ ap₂ (λ u v. u * 2 + v) (ap₂ bit_and ah bh) (ap₂ min (odd x a) (odd y b)) ∙ last x y (bit_and a b)
  where
    half : (x : Bool) (a : ℕ) → (cond x 1 0 + 2 * a) / 2 ≡ a
    half true a = omega arith
    half false a = omega arith

    odd : (x : Bool) (a : ℕ) → (cond x 1 0 + 2 * a) % 2 ≡ cond x 1 0
    odd true a = omega arith
    odd false a = omega arith

    last : (x y : Bool) (n : ℕ) → n * 2 + min (cond x 1 0) (cond y 1 0) ≡ cond (x && y) 1 0 + 2 * n
    last true true n = omega arith
    last true false n = omega arith
    last false true n = omega arith
    last false false n = omega arith

front_bit : (blank ends is : Bool) → (ends ≡ true → is ≡ true) → flag (digit blank ends is && not is) ≡ flag (blank && not is)
front_bit blank true false e = absurd (never (e refl))
front_bit true true true e = refl
front_bit true false true e = refl
front_bit true false false e = refl
front_bit false true true e = refl
front_bit false false true e = refl
front_bit false false false e = refl

-- the bits of the sum at bytes that aren't blank, whatever stands behind the block's bits
pub fronts_carried : (v : List ℕ) (blank carries : Bool) → bit_and (mask_l (digits blank v) + out carries (length v)) (solids v) ≡ mask_l (fronts blank v)
fronts_carried [] blank carries = and_zero_r (0 + out carries 0)
fronts_carried (b ∷ t) blank carries =
    let bit : Bool = digit blank (b == newline) (is_blank b) in
    let behind : Bool = blank_behind blank b in
    let d : ℕ = mask_l (digits behind t) in
    let split : cond bit 1 0 + 2 * d + out carries (suc (length t)) ≡ cond bit 1 0 + 2 * (d + out carries (length t)) = omega (arith, out_more carries (length t)) in
    ap (λ n. bit_and n (solids (b ∷ t))) split
    ∙ and_one bit (not (is_blank b)) (d + out carries (length t)) (solids t)
    ∙ ap₂ (λ u w. u + 2 * w) (front_bit blank (b == newline) (is_blank b) (ends_blank b)) (fronts_carried t behind carries)

length-digits : (v : List ℕ) (blank : Bool) → length (digits blank v) ≡ length v
length-digits [] blank = refl
length-digits (b ∷ t) blank = ap suc (length-digits t (blank_behind blank b))

flag_is : (n : ℕ) → n < 2 → n ≡ flag (n == 1)
flag_is zero h = refl
flag_is (suc zero) h = refl
flag_is (suc (suc n)) h = absurd (omega (arith, h))

-- w and n are the masks of the blanks and the newlines of the 32 bytes of the text from `from` on
module _ (text : List ℕ) (from blank w n : ℕ) (room : from + 32 ≤ length text) (small : blank < 2)
    (ws : w ≡ blanks (chunk from 32 text)) (ns : n ≡ newlines (chunk from 32 text)) where
  abbrev v : List ℕ
  v = chunk from 32 text

  abbrev x : Bool
  x = blank == 1

  power : 2 ^ length v ≡ 4294967296
  power = ap (λ k. 2 ^ k) (length-chunk from 32 text room)

  below : (ms : List Bool) → length ms ≡ length v → mask_l ms < 4294967296
  below ms h = let e : 2 ^ length ms ≡ 4294967296 = ap (λ k. 2 ^ k) h ∙ power in omega (arith, mask_l-lt ms, e)

  pub blanks_low : w ≤ 4294967295
  blanks_low = omega (arith, ws, below (map is_blank v) (length-map v is_blank))

  pub newlines_low : n ≤ 4294967295
  newlines_low = omega (arith, ns, below (map (λ y. y == newline) v) (length-map v (λ y. y == newline)))

  sum_is : w + n + blank ≡ mask_l (digits x v) + out (blank_after x v) (length v)
  sum_is = ap₂ (λ a b. a + b) (ap₂ (λ a b. a + b) ws ns) (flag_is blank small) ∙ carry v x

  out_by : (d p : ℕ) (carries : Bool) → p ≡ 4294967296 → d < 4294967296 → (d + cond carries p 0) / 4294967296 ≡ flag carries
  out_by d p true e h = omega (arith, e, h)
  out_by d p false e h = omega (arith, h)

  pub carried_out : (w + n + blank) / 4294967296 ≡ flag (blank_after x v)
  carried_out =
      ap (λ s. s / 4294967296) sum_is
      ∙ out_by (mask_l (digits x v)) (2 ^ length v) (blank_after x v) power (below (digits x v) (length-digits v x))

  solids_are : 4294967295 - w ≡ solids v
  solids_are = omega (arith, others v, power, ws)

  pub fronts_are : bit_and (w + n + blank) (4294967295 - w) ≡ mask_l (fronts x v)
  fronts_are = ap₂ bit_and sum_is solids_are ∙ fronts_carried v x (blank_after x v)
