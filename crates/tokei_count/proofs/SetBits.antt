-- The set bits of a mask, one after another: which is the next from a place on.
use Rattle.std.proofs.Common.{◌≡◌, ◌≢◌, ℕ, ◌+◌, ◌-◌, ◌/◌, ◌%◌, ◌^◌, ◌<◌, ◌≤◌, sym, ap, subst, ◌∙◌, arith, w64, inl, inr}
use Rattle.std.proofs.lemmas.Bool.{cases_lt}
use Rattle.std.proofs.lemmas.Nat.{shr-shr, shr_le}
use Rattle.std.proofs.lemmas.Nat.Bits.{bit_at-zero, bit_at-trailing_zeros}
use Rattle.std.specs.Int.{bit_at}
use lib.Count.{count_trailing_zeros}
use lib.Pow.{pow_mono}
use native.Mathlib.Nat.{div-eq_of_lt, div-one}

-- a bit behind the g lowest ones
bit_behind : (m g k : ℕ) → g ≤ k → bit_at m k ≡ bit_at (m / 2 ^ g) (k - g)
bit_behind m g k low =
    let place : k ≡ g + (k - g) = omega (arith, low) in
    ap (bit_at m) place ∙ ap (λ x. x % 2) (sym (shr-shr m g (k - g)))

-- no bit behind those that there are
none_high : (m k : ℕ) → m < 2 ^ 32 → 32 ≤ k → bit_at m k ≡ 0
none_high m k small high = ap (λ x. x % 2) (div-eq_of_lt (omega (arith, small, pow_mono high)))

-- m has 32 bits, of which the g lowest are done
module _ (m g : ℕ) (small : m < 2 ^ 32) where
  pub none_left : m / 2 ^ g ≡ 0 → (k : ℕ) → g ≤ k → bit_at m k ≡ 0
  none_left none k low = bit_behind m g k low ∙ ap (λ x. bit_at x (k - g)) none ∙ bit_at-zero (k - g)

  abbrev next : ℕ
  next = g + count_trailing_zeros 64 (m / 2 ^ g)

  lowest : m / 2 ^ g ≢ 0 → (count_trailing_zeros 64 (m / 2 ^ g) < 64) × (bit_at (m / 2 ^ g) (count_trailing_zeros 64 (m / 2 ^ g)) ≡ 1)
      × ((i : ℕ) → i < count_trailing_zeros 64 (m / 2 ^ g) → bit_at (m / 2 ^ g) i ≡ 0)
  lowest some = bit_at-trailing_zeros w64 (m / 2 ^ g) (omega arith) (omega (arith, shr_le m g, small))

  pub next_set : m / 2 ^ g ≢ 0 → bit_at m next ≡ 1
  next_set some =
      let back : next - g ≡ count_trailing_zeros 64 (m / 2 ^ g) = omega arith in
      bit_behind m g next (omega arith) ∙ ap (bit_at (m / 2 ^ g)) back ∙ (lowest some).1

  pub unset_before : m / 2 ^ g ≢ 0 → (k : ℕ) → g ≤ k → k < next → bit_at m k ≡ 0
  unset_before some k low high = bit_behind m g k low ∙ (lowest some).2 (k - g) (omega (arith, low, high))

  pub next_within : m / 2 ^ g ≢ 0 → next < 32
  next_within some = elim (cases_lt next 32) [
    | inl within ↦ within
    | inr past ↦ absurd (omega (arith, next_set some, none_high m next small past))
  ]

-- what holds of each place whose bit isn't set, and of those that are done, holds of all up to the next
module _ (P : ℕ → Type 0) (m g : ℕ) (small : m < 2 ^ 32) (others : (k : ℕ) → k < 32 → bit_at m k ≡ 0 → P k) (done : (k : ℕ) → k < g → P k) where
  pub all_done : m / 2 ^ g ≡ 0 → (k : ℕ) → k < 32 → P k
  all_done none k low = elim (cases_lt k g) [
    | inl before ↦ done k before
    | inr behind ↦ others k low (none_left m g small none k behind)
  ]

  pub up_to_next : m / 2 ^ g ≢ 0 → (k : ℕ) → k < next m g small → P k
  up_to_next some k low = elim (cases_lt k g) [
    | inl before ↦ done k before
    | inr behind ↦ others k (omega (arith, low, next_within m g small some)) (unset_before m g small some k behind low)
  ]

  pub past_next : m / 2 ^ g ≢ 0 → P (next m g small) → (k : ℕ) → k < next m g small + 1 → P k
  past_next some here k low = elim (cases_lt k (next m g small)) [
    | inl before ↦ up_to_next some k before
    | inr behind ↦ subst P (omega (arith, behind, low)) here
  ]

-- the first set bit of all
module _ (m : ℕ) (small : m < 2 ^ 32) (some : m ≢ 0) where
  all_bits : m / 2 ^ 0 ≡ m
  all_bits = div-one m

  some_bits : m / 2 ^ 0 ≢ 0
  some_bits = λ e. some (sym all_bits ∙ e)

  pub first_within : count_trailing_zeros 64 m < 32
  first_within = omega (arith, next_within m 0 small some_bits, ap (count_trailing_zeros 64) all_bits)

  pub unset_first : (k : ℕ) → k < count_trailing_zeros 64 m → bit_at m k ≡ 0
  unset_first k low = unset_before m 0 small some_bits k (omega arith) (omega (arith, low, ap (count_trailing_zeros 64) all_bits))

  -- what holds of the places whose bit isn't set, and of the first one, holds of all up to that
  pub past_first : (P : ℕ → Type 0) → ((k : ℕ) → k < 32 → bit_at m k ≡ 0 → P k) → P (count_trailing_zeros 64 m) → (k : ℕ) → k < count_trailing_zeros 64 m + 1 → P k
  past_first P others here k low = elim (cases_lt k (count_trailing_zeros 64 m)) [
    | inl before ↦ others k (omega (arith, before, first_within)) (unset_first k before)
    | inr behind ↦ subst P (omega (arith, behind, low)) here
  ]
