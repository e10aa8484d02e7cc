-- A loop that counts: the count so far, and what is left.
use Rattle.std.proofs.Common.{◌≡◌, ℕ, ◌+◌, ◌<◌, ◌^◌, arith}

module _ (files left all len one rest : ℕ) (whole : files + left ≡ all) (step : left ≡ one + rest) (is : len ≡ one) where
  pub counted : (more : ℕ) → more ≡ files + len → more + rest ≡ all
  counted more e = omega arith

  pub past : (files + len < 2 ^ 64 → ⊥) → all < 2 ^ 64 → ⊥
  past n h = n (omega arith)
