-- What a well-formed table bounds the counts and the steps by.
use Rattle.std.proofs.Common.{◌≡◌, ℕ, suc, zero, ◌≤◌, ◌⊎◌, inl, inr, true, List, [], ◌∷◌, arith}
use Rattle.std.specs.List.{list_all}
use Rattle.tokei_table.specs.Row.{Row}
use Rattle.tokei_table.specs.Tokens.{has_tokens}
use Rattle.tokei_table.specs.WellFormed.{IsWellFormed}
use Rattle.tokei_count.specs.Steps.{capped}
use Rattle.tokei_count.specs.WeightLaws.{HaveTokens}
use Rattle.tokei_parts.proofs.Fits.{and_left, and_right}
use Rattle.tokei_count.proofs.StepReading.{capped-is}

pub have_tokens : (rows : List Row) → IsWellFormed rows → HaveTokens rows
have_tokens rows w = each rows w.tokens
  where
    each : (rs : List Row) → list_all has_tokens rs ≡ true → HaveTokens rs
    each [] h i l = absurd (omega (arith, l))
    each (r ∷ rs) h zero l = and_left (has_tokens r) (list_all has_tokens rs) h
    each (r ∷ rs) h (suc i) l = each rs (and_right (has_tokens r) (list_all has_tokens rs) h) i (omega (arith, l))

-- a capped number is no more than the number
pub capped-low : (n : ℕ) → capped n ≤ n
capped-low n = by_case (capped-is n)
  where
    by_case : ((n ≤ 340282366920938463463374607431768211455) × (capped n ≡ n)) ⊎ ((340282366920938463463374607431768211455 ≤ n) × (capped n ≡ 340282366920938463463374607431768211455)) → capped n ≤ n
    by_case (inl h) = omega (arith, h.1)
    by_case (inr h) = omega (arith, h.0, h.1)

pub capped-more : (a b : ℕ) → a ≤ b → capped a ≤ capped b
capped-more a b h = by_case (capped-is a) (capped-is b)
  where
    by_case : ((a ≤ 340282366920938463463374607431768211455) × (capped a ≡ a)) ⊎ ((340282366920938463463374607431768211455 ≤ a) × (capped a ≡ 340282366920938463463374607431768211455))
        → ((b ≤ 340282366920938463463374607431768211455) × (capped b ≡ b))
        ⊎ ((340282366920938463463374607431768211455 ≤ b)
        × (capped b ≡ 340282366920938463463374607431768211455))
        → capped a ≤ capped b
    by_case (inl f) (inl g) = omega (arith, f.1, g.1, h)
    by_case (inl f) (inr g) = omega (arith, f.0, f.1, g.1)
    by_case (inr f) (inl g) = omega (arith, f.0, f.1, g.0, g.1, h)
    by_case (inr f) (inr g) = omega (arith, f.1, g.1)
