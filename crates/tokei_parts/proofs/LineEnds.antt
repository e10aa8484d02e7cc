-- Where a line ends in its text.
use Rattle.std.proofs.Common.{◌≡◌, ◌∙◌, ap, ℕ, suc, zero, ◌+◌, ◌-◌, ◌<◌, ◌≤◌, ◌⊎◌, inl, inr, List, length, drop, arith, length-drop}
use Rattle.std.proofs.lemmas.List.{drop-drop}
use Rattle.tokei_embedding.specs.DocComments.{first_line}
use Rattle.tokei_table_row.specs.Bytes.{line_len}
use Rattle.tokei_parts.proofs.Leading.{line_len-drop}
use Rattle.tokei_parts.proofs.Lines.{length-whole, length-broken}
use Rattle.tokei_parts.proofs.PartFronts.{line_len_within}

pub below_or : (a b : ℕ) → (a < b) ⊎ (b ≤ a)
below_or a zero = inr (omega arith)
below_or zero (suc b) = inl (omega arith)
below_or (suc a) (suc b) = later (below_or a b)
  where
    later : (a < b) ⊎ (b ≤ a) → (suc a < suc b) ⊎ (suc b ≤ suc a)
    later (inl h) = inl (omega arith)
    later (inr h) = inr (omega arith)

pub end_within : (text : List ℕ) (at end : ℕ) → at ≤ length text → end ≡ at + line_len (drop at text) → end ≤ length text
end_within text at end h e = omega (arith, line_len_within (drop at text), length-drop at text)

pub end_is : (text : List ℕ) (at end to : ℕ) → at ≤ length text → end ≡ at + line_len (drop at text)
    → (end < length text → to ≡ end + 1) → (end ≡ length text → to ≡ end)
    → to ≡ at + length (first_line (drop at text))
end_is text at end to h e more last = by_case (below_or end (length text))
  where
    by_case : (end < length text) ⊎ (length text ≤ end) → to ≡ at + length (first_line (drop at text))
    by_case (inl b) = let t : to ≡ end + 1 = more b in omega (arith, t, e, length-broken (drop at text) (omega (arith, e, b, length-drop at text)))
    by_case (inr b) =
        let w : end ≤ length text = end_within text at end h e in
        let t : to ≡ end = last (omega (arith, b, w)) in
        omega (arith, t, e, length-whole (drop at text) (omega (arith, e, b, length-drop at text)))

pub end_behind : (text : List ℕ) (at end to : ℕ) → at ≤ length text → end ≡ at + line_len (drop at text) → at < end → (end < length text → to ≡ end + 1) → (end ≡ length text → to ≡ end) → at < to
end_behind text at end to h e some more last = by_case (below_or end (length text))
  where
    by_case : (end < length text) ⊎ (length text ≤ end) → at < to
    by_case (inl b) = let t : to ≡ end + 1 = more b in omega arith
    by_case (inr b) =
        let w : end ≤ length text = end_within text at end h e in
        let t : to ≡ end = last (omega (arith, b, w)) in
        omega arith

-- a line has its newline's byte more, or none
pub first_line-low : (u : List ℕ) → line_len u ≤ length (first_line u)
first_line-low u = by_case (below_or (line_len u) (length u))
  where
    by_case : (line_len u < length u) ⊎ (length u ≤ line_len u) → line_len u ≤ length (first_line u)
    by_case (inl h) = omega (arith, length-broken u h)
    by_case (inr h) = omega (arith, length-whole u h)

pub first_line-high : (u : List ℕ) → length (first_line u) ≤ line_len u + 1
first_line-high u = by_case (below_or (line_len u) (length u))
  where
    by_case : (line_len u < length u) ⊎ (length u ≤ line_len u) → length (first_line u) ≤ line_len u + 1
    by_case (inl h) = omega (arith, length-broken u h)
    by_case (inr h) = omega (arith, length-whole u h)

-- a later place of the line has the line's end
pub end_later : (text : List ℕ) (start next end : ℕ) → start ≤ next → end ≡ start + line_len (drop start text) → next ≤ end → end ≡ next + line_len (drop next text)
end_later text start next end low e high =
    let n : ℕ = next - start in
    let place : start + n ≡ next = omega (arith, low) in
    let there : drop n (drop start text) ≡ drop next text = drop-drop n start text ∙ ap (λ m. drop m text) place in
    omega (arith, e, low, high, line_len-drop n (drop start text) (omega (arith, e, low, high)), ap line_len there)

-- the first newline before the place `next`, or that place, and where a line that goes to it stops
module _ (text : List ℕ) (at newline next stop : ℕ) (some : at < next) (within : next ≤ length text) (high : newline ≤ next) (line : newline ≤ at + line_len (drop at text))
    (found : newline < next → newline ≡ at + line_len (drop at text)) (more : newline < length text → stop ≡ newline + 1) (last : newline ≡ length text → stop ≡ newline) where
  pub line_stops : stop ≤ next → stop ≡ at + length (first_line (drop at text))
  line_stops h = end_is text at newline stop (omega (arith, some, within)) (by_case (below_or newline next)) more last
    where
      at_end : newline ≡ next → (newline < length text) ⊎ (length text ≤ newline) → newline ≡ at + line_len (drop at text)
      at_end e (inl b) = let t : stop ≡ newline + 1 = more b in absurd (omega (arith, e, t, h))
      at_end e (inr b) = omega (arith, e, b, within, line, line_len_within (drop at text), length-drop at text, some)

      by_case : (newline < next) ⊎ (next ≤ newline) → newline ≡ at + line_len (drop at text)
      by_case (inl b) = found b
      by_case (inr b) = at_end (omega (arith, b, high)) (below_or newline (length text))
