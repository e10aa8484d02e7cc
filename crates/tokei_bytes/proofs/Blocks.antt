-- What the lanes and the mask of a block say of its bytes.
use Rattle.std.proofs.Common.{◌≡◌, ◌≢◌, ℕ, ◌+◌, ◌%◌, ◌^◌, ◌<◌, ◌≤◌, ◌==◌, Bool, true, false, not, cond, eqb, List, [], ◌∷◌, map, length, get_or, replicate, bit_and, bit_or, refl, sym, ap, ap₂, ◌∙◌, arith, w64, inl, inr}
use Rattle.std.proofs.lemmas.Bool.{cases_lt}
use Rattle.std.proofs.lemmas.Bool.Decides.{Decides-eqb}
use Rattle.std.proofs.lemmas.Nat.Bits.{bit_at-trailing_zeros}
use Rattle.std.proofs.lemmas.Simd.{zip2_splat, zip2_of_maps, bit_mask_l, mask_l-mod, mask_l-lt, length-chunk, trailing_mask_l, run_in_chunk_fails, run_in_chunk_stops, none_from_empty_mask}
use Rattle.std.proofs.lemmas.List.{length-map, get_or_past}
use lib.Pow.{pow_mono}
use Rattle.std.specs.Int.{bit_at}
use Rattle.std.specs.List.{prefix_len}
use lib.Count.{count_trailing_zeros}
use lib.Lanes.{chunk, zip2, mask_l, top}
use Rattle.tokei_bytes.specs.OneOf.{is_one_of}
use Rattle.tokei_bytes.specs.FirstPlace.{IsFirstPlace}

-- one of a byte that is named four times
pub other_than : (x b : ℕ) → is_one_of (b ∷ b ∷ b ∷ b ∷ []) x ≡ false → (x == b) ≡ false
other_than x b h = by_test (x == b) h
  where
    by_test : (y : Bool) → cond y true (cond y true (cond y true (cond y true false))) ≡ false → y ≡ false
    by_test true h = cc
    by_test false h = refl

pub the_one : (x b : ℕ) → is_one_of (b ∷ b ∷ b ∷ b ∷ []) x ≡ true → x ≡ b
the_one x b h = (Decides-eqb x b).0 (by_test (x == b) h)
  where
    by_test : (y : Bool) → cond y true (cond y true (cond y true (cond y true false))) ≡ true → y ≡ true
    by_test true h = refl
    by_test false h = cc

-- a lane of a comparison with a splat
abbrev pub hit : ℕ → ℕ → ℕ
hit x y = cond (eqb x y) 255 0

-- a lane of the four comparisons
abbrev pub hit_of_four : ℕ → ℕ → ℕ → ℕ → ℕ → ℕ
hit_of_four a b c d x = bit_or (bit_or (hit x a) (hit x b)) (bit_or (hit x c) (hit x d))

one_set : (p q r s : Bool) → top 7 (bit_or (bit_or (cond p 255 0) (cond q 255 0)) (bit_or (cond r 255 0) (cond s 255 0))) ≡ cond p true (cond q true (cond r true (cond s true false)))
one_set true true true true = refl
one_set true true true false = refl
one_set true true false true = refl
one_set true true false false = refl
one_set true false true true = refl
one_set true false true false = refl
one_set true false false true = refl
one_set true false false false = refl
one_set false true true true = refl
one_set false true true false = refl
one_set false true false true = refl
one_set false true false false = refl
one_set false false true true = refl
one_set false false true false = refl
one_set false false false true = refl
one_set false false false false = refl

tops : (a b c d : ℕ) (v : List ℕ) → map (top 7) (map (hit_of_four a b c d) v) ≡ map (is_one_of (a ∷ b ∷ c ∷ d ∷ [])) v
tops a b c d [] = refl
tops a b c d (x ∷ v) = ap₂ (λ y r. y ∷ r) (one_set (eqb x a) (eqb x b) (eqb x c) (eqb x d)) (tops a b c d v)

splats : (a b c d : ℕ) (v : List ℕ) → length v ≡ 32
    → zip2 bit_or (zip2 bit_or (zip2 hit v (replicate 32 a)) (zip2 hit v (replicate 32 b))) (zip2 bit_or (zip2 hit v (replicate 32 c)) (zip2 hit v (replicate 32 d))) ≡ map (hit_of_four a b c d) v
splats a b c d v long =
    zip2_of_maps bit_or _ _ v
    (zip2_of_maps bit_or _ _ v (zip2_splat hit v 32 a long) (zip2_splat hit v 32 b long))
    (zip2_of_maps bit_or _ _ v (zip2_splat hit v 32 c long) (zip2_splat hit v 32 d long))

-- `to_bitmask` of the four comparisons
pub mask_of_four : (bs v : List ℕ) → length bs ≡ 4 → length v ≡ 32
    → mask_l (map (top 7) (zip2 bit_or
    (zip2 bit_or (zip2 hit v (replicate 32 (get_or bs 0 0)))
    (zip2 hit v (replicate 32 (get_or bs 1 0))))
    (zip2 bit_or (zip2 hit v (replicate 32 (get_or bs 2 0)))
    (zip2 hit v (replicate 32 (get_or bs 3 0))))))
    % 2 ^ 64
    ≡ mask_l (map (is_one_of bs) v)
mask_of_four (a ∷ b ∷ c ∷ d ∷ []) v four long =
    ap (λ l. mask_l (map (top 7) l) % 2 ^ 64) (splats a b c d v long)
    ∙ ap (λ l. mask_l l % 2 ^ 64) (tops a b c d v)
    ∙ mask_l-mod (map (is_one_of (a ∷ b ∷ c ∷ d ∷ [])) v) 64 (omega (arith, length-map v (is_one_of (a ∷ b ∷ c ∷ d ∷ []))))
mask_of_four [] v four long = absurd (omega arith)
mask_of_four (a ∷ []) v four long = absurd (omega arith)
mask_of_four (a ∷ b ∷ []) v four long = absurd (omega arith)
mask_of_four (a ∷ b ∷ c ∷ []) v four long = absurd (omega arith)
mask_of_four (a ∷ b ∷ c ∷ d ∷ e ∷ bs) v four long = absurd (omega arith)

-- `to_bitmask` of one comparison
one_top : (p : Bool) → top 7 (cond p 255 0) ≡ p
one_top true = refl
one_top false = refl

tops_of_one : (b : ℕ) (v : List ℕ) → map (top 7) (map (λ x. hit x b) v) ≡ map (λ x. x == b) v
tops_of_one b [] = refl
tops_of_one b (x ∷ v) = ap₂ (λ y r. y ∷ r) (one_top (eqb x b)) (tops_of_one b v)

pub mask_of_one : (b : ℕ) (v : List ℕ) → length v ≡ 32 → mask_l (map (top 7) (zip2 hit v (replicate 32 b))) % 2 ^ 64 ≡ mask_l (map (λ x. x == b) v)
mask_of_one b v long =
    ap (λ l. mask_l (map (top 7) l) % 2 ^ 64) (zip2_splat hit v 32 b long)
    ∙ ap (λ l. mask_l l % 2 ^ 64) (tops_of_one b v)
    ∙ mask_l-mod (map (λ x. x == b) v) 64 (omega (arith, length-map v (λ x. x == b)))

-- a lane of the four comparisons by which it is none of them
abbrev pub miss : ℕ → ℕ → ℕ
miss x y = cond (not (eqb x y)) 255 0

abbrev pub miss_of_four : ℕ → ℕ → ℕ → ℕ → ℕ → ℕ
miss_of_four a b c d x = bit_and (bit_and (miss x a) (miss x b)) (bit_and (miss x c) (miss x d))

none_set : (p q r s : Bool)
    → top 7 (bit_and (bit_and (cond (not p) 255 0) (cond (not q) 255 0))
    (bit_and (cond (not r) 255 0) (cond (not s) 255 0)))
    ≡ not (cond p true (cond q true (cond r true (cond s true false))))
none_set true true true true = refl
none_set true true true false = refl
none_set true true false true = refl
none_set true true false false = refl
none_set true false true true = refl
none_set true false true false = refl
none_set true false false true = refl
none_set true false false false = refl
none_set false true true true = refl
none_set false true true false = refl
none_set false true false true = refl
none_set false true false false = refl
none_set false false true true = refl
none_set false false true false = refl
none_set false false false true = refl
none_set false false false false = refl

missing_tops : (a b c d : ℕ) (v : List ℕ) → map (top 7) (map (miss_of_four a b c d) v) ≡ map (λ x. not (is_one_of (a ∷ b ∷ c ∷ d ∷ []) x)) v
missing_tops a b c d [] = refl
missing_tops a b c d (x ∷ v) = ap₂ (λ y r. y ∷ r) (none_set (eqb x a) (eqb x b) (eqb x c) (eqb x d)) (missing_tops a b c d v)

missing_splats : (a b c d : ℕ) (v : List ℕ) → length v ≡ 16
    → zip2 bit_and (zip2 bit_and (zip2 miss v (replicate 16 a)) (zip2 miss v (replicate 16 b)))
    (zip2 bit_and (zip2 miss v (replicate 16 c)) (zip2 miss v (replicate 16 d)))
    ≡ map (miss_of_four a b c d) v
missing_splats a b c d v long =
    zip2_of_maps bit_and _ _ v
    (zip2_of_maps bit_and _ _ v (zip2_splat miss v 16 a long) (zip2_splat miss v 16 b long))
    (zip2_of_maps bit_and _ _ v (zip2_splat miss v 16 c long) (zip2_splat miss v 16 d long))

-- the same of the four comparisons by which a lane is none of them
pub mask_of_others : (bs v : List ℕ) → length bs ≡ 4 → length v ≡ 16
    → mask_l (map (top 7) (zip2 bit_and
    (zip2 bit_and (zip2 miss v (replicate 16 (get_or bs 0 0)))
    (zip2 miss v (replicate 16 (get_or bs 1 0))))
    (zip2 bit_and (zip2 miss v (replicate 16 (get_or bs 2 0)))
    (zip2 miss v (replicate 16 (get_or bs 3 0))))))
    % 2 ^ 64
    ≡ mask_l (map (λ x. not (is_one_of bs x)) v)
mask_of_others (a ∷ b ∷ c ∷ d ∷ []) v four long =
    ap (λ l. mask_l (map (top 7) l) % 2 ^ 64) (missing_splats a b c d v long)
    ∙ ap (λ l. mask_l l % 2 ^ 64) (missing_tops a b c d v)
    ∙ mask_l-mod (map (λ x. not (is_one_of (a ∷ b ∷ c ∷ d ∷ []) x)) v) 64 (omega (arith, length-map v (λ x. not (is_one_of (a ∷ b ∷ c ∷ d ∷ []) x))))
mask_of_others [] v four long = absurd (omega arith)
mask_of_others (a ∷ []) v four long = absurd (omega arith)
mask_of_others (a ∷ b ∷ []) v four long = absurd (omega arith)
mask_of_others (a ∷ b ∷ c ∷ []) v four long = absurd (omega arith)
mask_of_others (a ∷ b ∷ c ∷ d ∷ e ∷ bs) v four long = absurd (omega arith)

-- m is the mask of those of the w bytes of t from place i on of which p holds
module _ (p : ℕ → Bool) (w : ℕ) (t : List ℕ) (i m : ℕ) (most : w ≤ 64) (room : i + w ≤ length t) (marked : m ≡ mask_l (map p (chunk i w t))) where
  lanes : length (map p (chunk i w t)) ≡ w
  lanes = length-map (chunk i w t) p ∙ length-chunk i w t room

  counted : m ≢ 0 → count_trailing_zeros 64 m ≡ prefix_len (λ x. not (p x)) (chunk i w t)
  counted some =
      let long = length-chunk i w t room in
      ap (count_trailing_zeros 64) marked ∙ trailing_mask_l p 64 (chunk i w t) (omega arith) (omega arith)

  small : m < 2 ^ 64
  small = omega (arith, mask_l-lt (map p (chunk i w t)), lanes, marked, pow_mono most, ap (λ n. 2 ^ n) lanes)

  pub in_block : m ≢ 0 → count_trailing_zeros 64 m < w
  in_block some =
      let set = bit_at-trailing_zeros w64 m (omega arith) small in
      elim (cases_lt (count_trailing_zeros 64 m) w) [
        | inl inside ↦ inside
        | inr past ↦
            let clear : bit_at m (count_trailing_zeros 64 m) ≡ 0 =
            ap (λ n. bit_at n (count_trailing_zeros 64 m)) marked
            ∙ bit_mask_l (map p (chunk i w t)) (count_trailing_zeros 64 m)
            ∙ ap (λ b. cond b 1 0) (get_or_past (map p (chunk i w t)) (count_trailing_zeros 64 m)
            false (omega (arith, lanes))) in
            absurd (omega (arith, clear, set.1))
      ]

  pub none_before_mark : m ≢ 0 → (k : ℕ) → i ≤ k → k < i + count_trailing_zeros 64 m → p (get_or t k 0) ≡ false
  none_before_mark some = run_in_chunk_fails p t i w (count_trailing_zeros 64 m) 0 room (counted some)

  pub one_at_mark : m ≢ 0 → p (get_or t (i + count_trailing_zeros 64 m) 0) ≡ true
  one_at_mark some = run_in_chunk_stops p t i w (count_trailing_zeros 64 m) 0 room (counted some) (in_block some)

  pub none_in_block : m ≡ 0 → (k : ℕ) → i ≤ k → k < i + w → p (get_or t k 0) ≡ false
  none_in_block none = none_from_empty_mask p t i w 0 room (sym marked ∙ none)

-- a search that has come to a block and looked at it: it goes on behind the block, or has found the place
module _ (p : ℕ → Bool) (t : List ℕ) (from at m : ℕ) (room : at + 32 ≤ length t) (marked : m ≡ mask_l (map p (chunk at 32 t)))
    (passed : (k : ℕ) → from ≤ k → k < at → p (get_or t k 0) ≡ false) where
  pub goes_on : m ≡ 0 → (k : ℕ) → from ≤ k → k < at + 32 → p (get_or t k 0) ≡ false
  goes_on none k a h = elim (cases_lt k at) [
    | inl b ↦ passed k a b
    | inr b ↦ none_in_block p 32 t at m (omega arith) room marked none k b h
  ]

  pub finds : (to r : ℕ) → m ≢ 0 → from ≤ at → at < to → r ≤ to → r ≤ at + count_trailing_zeros 64 m → (r < to → r ≡ at + count_trailing_zeros 64 m) → IsFirstPlace p t from to r
  finds to r some low inside high near is = record {
    low = by_cases;
    high = high;
    passed = λ k a h. elim (cases_lt k at) [
      | inl b ↦ passed k a b
      | inr b ↦ none_before_mark p 32 t at m (omega arith) room marked some k b (omega (arith, h, near))
    ];
    found = λ h. ap (λ n. p (get_or t n 0)) (is h) ∙ one_at_mark p 32 t at m (omega arith) room marked some;
  }
    where
      by_cases : from ≤ r
      by_cases = elim (cases_lt r to) [
        | inl b ↦ omega (arith, is b, low)
        | inr b ↦ omega (arith, b, low, inside)
      ]
