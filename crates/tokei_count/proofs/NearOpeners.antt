-- The first opener of a text, which a look ahead came to: its place, and its line.
use Rattle.std.proofs.Common.{◌≡◌, ℕ, zero, suc, ◌+◌, ◌-◌, ◌<◌, ◌≤◌, ◌==◌, cond, Bool, true, false, List, [], ◌∷◌, ◌++◌, take, drop, length, unwrap_or, Some, ap, ◌∙◌, arith, length-drop}
use Rattle.std.proofs.lemmas.List.{drop-drop}
use Rattle.tokei_bytes.proofs.LineSums.{newlines_over}
use Rattle.tokei_bytes.specs.Lines.{flag, newline_count}
use Rattle.tokei_table.specs.Bytes.{begins_with_one, newline, line_len}
use Rattle.tokei_table.specs.FirstOpener.{first_opener}
use Rattle.tokei_table_search.proofs.FirstPlaces.{first_at}
use Rattle.tokei_table.specs.Slices.{between}
use Rattle.tokei_parts.specs.Glance.{opener_place}
use Rattle.tokei_embedding.specs.DocComments.{first_line}
use Rattle.tokei_count.proofs.BlockLooks.{between_more}
use Rattle.tokei_count.proofs.LookedAhead.{clear_on}
use Rattle.tokei_count.specs.LineLooks.{IsClear, IsLook, IsNext}
use Rattle.tokei_count.specs.declared.line_look.Look.{Look}

-- an opener before which none stands is the first
pub opener_found : (os : List (List ℕ)) (t : List ℕ) (stop at : ℕ) → stop ≤ at → at < length t → IsClear os t stop at → begins_with_one os (drop at t) ≡ true
    → at ≡ stop + opener_place os (drop stop t)
opener_found os t stop at low inside clear here =
    let n : ℕ = at - stop in
    let place : stop + n ≡ at = omega (arith, low) in
    let first : Some n ≡ first_opener os (drop stop t) =
    first_at os (drop stop t) n (omega (arith, length-drop stop t, inside, place))
    (λ k l. ap (begins_with_one os) (drop-drop k stop t) ∙ clear (stop + k) (omega arith) (omega (arith, l, place)))
    (ap (begins_with_one os) (drop-drop n stop t ∙ ap (λ m. drop m t) place) ∙ here) in
    omega (arith, place, ap (λ o. unwrap_or o (length (drop stop t))) first)

some_none : (n : ℕ) → 1 + n ≡ 0 → ⊥
some_none n h = absurd (omega (arith, h))

-- bytes without a newline are of one line
on_line : (u : List ℕ) (n : ℕ) → n ≤ length u → newline_count (take n u) ≡ 0 → n ≤ line_len u
on_line [] n within none = within
on_line (b ∷ t) zero within none = omega arith
on_line (b ∷ t) (suc n) within none = by_test (b == newline) none (on_line t n (omega (arith, within)))
  where
    by_test : (x : Bool) → flag x + newline_count (take n t) ≡ 0 → (newline_count (take n t) ≡ 0 → n ≤ line_len t) → suc n ≤ cond x 0 (suc (line_len t))
    by_test true h rest = absurd (some_none (newline_count (take n t)) h)
    by_test false h rest = let few : newline_count (take n t) ≡ 0 = omega (arith, h) in omega (arith, rest few)

pub in_line : (t : List ℕ) (stop at : ℕ) → stop ≤ at → at ≤ length t → newline_count (between t stop at) ≡ 0 → at ≤ stop + line_len (drop stop t)
in_line t stop at low inside none = omega (arith, low, on_line (drop stop t) (at - stop) (omega (arith, length-drop stop t, inside, low)) none)

-- a place up to the line's newline is one of the line
below_end : (u : List ℕ) (n : ℕ) → n < length u → n ≤ line_len u → n < length (first_line u)
below_end [] n inside low = absurd (omega (arith, inside))
below_end (b ∷ t) zero inside low = by_test (b == newline)
  where
    by_test : (x : Bool) → 0 < length (cond x (b ∷ []) (b ∷ first_line t))
    by_test true = omega arith
    by_test false = omega arith
below_end (b ∷ t) (suc n) inside low = by_test (b == newline) low (below_end t n (omega (arith, inside)))
  where
    by_test : (x : Bool) → suc n ≤ cond x 0 (suc (line_len t)) → (n ≤ line_len t → n < length (first_line t)) → suc n < length (cond x (b ∷ []) (b ∷ first_line t))
    by_test true h rest = absurd (omega (arith, h))
    by_test false h rest = omega (arith, rest (omega (arith, h)))

pub of_line : (t : List ℕ) (start to : ℕ) → start ≤ to → to < length t → to ≤ start + line_len (drop start t) → to < start + length (first_line (drop start t))
of_line t start to low inside line = omega (arith, low, below_end (drop start t) (to - start) (omega (arith, length-drop start t, inside, low)) (omega (arith, line, low)))

-- the opener that is next behind what a look showed
module _ (os : List (List ℕ)) (is_mark : ℕ → Bool) (t : List ℕ) (start to : ℕ) (look : Look) (is : IsLook is_mark t start look) (clear : IsClear os t start look.at) (inside : to < length t)
    (next : IsNext os t look.at to) where
  pub next_found : to ≡ look.stop + opener_place os (drop look.stop t)
  next_found =
      opener_found os t look.stop to (omega (arith, is.order, next.order)) inside
      (clear_on os t look.stop look.at to (λ p low high. clear p (omega (arith, low, is.low)) high) next.clear) next.opener

  pub next_in_line : to ≤ look.stop + line_len (drop look.stop t)
  next_in_line =
      let size : to ≡ look.at + (to - look.at) = omega (arith, next.order) in
      let all : between t look.stop to ≡ between t look.stop look.at ++ between t look.at to =
      ap (between t look.stop) size ∙ between_more t look.stop look.at (to - look.at) is.order in
      in_line t look.stop to (omega (arith, is.order, next.order)) (omega (arith, inside))
      (ap newline_count all ∙ newlines_over (between t look.stop look.at) (between t look.at to) ∙ omega (arith, is.on, next.on))
