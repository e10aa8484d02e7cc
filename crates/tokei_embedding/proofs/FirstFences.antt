-- The first fence opening of a part, by places of the text.
use Rattle.std.proofs.Common.{◌≡◌, ℕ, ◌+◌, ◌-◌, ◌<◌, ◌≤◌, false, List, take, drop, ◌⊎◌, inl, inr, ◌∙◌, ap, arith}
use Rattle.std.proofs.lemmas.Bool.{cases_lt}
use Rattle.tokei_table_row.specs.Bytes.{begins}
use Rattle.tokei_embedding.proofs.Backticks.{no_opening}
use Rattle.tokei_embedding.proofs.Places.{part_from}
use Rattle.tokei_embedding.specs.Fences.{fence, opens_fence}

part_at : (t : List ℕ) (from j to : ℕ) → from + j ≤ to
    → drop j (take (to - from) (drop from t)) ≡ take (to - (from + j)) (drop (from + j) t)
part_at t from j to l =
    let e : j ≡ (from + j) - from = omega arith in
    ap (λ k. drop k (take (to - from) (drop from t))) e ∙ part_from t from (from + j) to (omega arith) l

-- where none opens up to a place, nor from it to another, none opens up to that one
pub goes_on : (t : List ℕ) (from at next to : ℕ) → from ≤ at → next ≤ to
    → ((j : ℕ) → j < at - from → opens_fence (drop j (take (to - from) (drop from t))) ≡ false)
    → ((p : ℕ) → at ≤ p → p < next → opens_fence (take (to - p) (drop p t)) ≡ false)
    → (j : ℕ) → j < next - from → opens_fence (drop j (take (to - from) (drop from t))) ≡ false
goes_on t from at next to l m before behind j i = by (cases_lt j (at - from))
  where
    by : (j < at - from) ⊎ (at - from ≤ j) → opens_fence (drop j (take (to - from) (drop from t))) ≡ false
    by (inl h) = before j h
    by (inr h) = ap opens_fence (part_at t from j to (omega arith)) ∙ behind (from + j) (omega arith) (omega arith)

-- none opens at a fence that is no opening, nor behind it to the next fence
pub over_closed : (t : List ℕ) (at next to : ℕ) → opens_fence (take (to - at) (drop at t)) ≡ false
    → ((p : ℕ) → at + 1 ≤ p → p < next → begins fence (take (to - p) (drop p t)) ≡ false)
    → (p : ℕ) → at ≤ p → p < next → opens_fence (take (to - p) (drop p t)) ≡ false
over_closed t at next to closed behind p l m = by (cases_lt at p)
  where
    by : (at < p) ⊎ (p ≤ at) → opens_fence (take (to - p) (drop p t)) ≡ false
    by (inl h) = no_opening (take (to - p) (drop p t)) (behind p (omega arith) m)
    by (inr h) = let e : p ≡ at = omega arith in ap (λ k. opens_fence (take (to - k) (drop k t))) e ∙ closed
