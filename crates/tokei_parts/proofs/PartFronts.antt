-- The bytes of the part under way, as the reading goes on.
use Rattle.std.proofs.Common.{◌≡◌, ℕ, suc, zero, ◌+◌, ◌-◌, ◌<◌, ◌≤◌, ◌==◌, Bool, true, false, not, ◌&&◌, cond, List, [], ◌∷◌, ◌++◌, length, take, drop, refl, sym, ◌∙◌, ap, append_assoc, arith, take-add, length-drop, length-take}
use Rattle.std.proofs.lemmas.List.{append-nil, drop-drop, drop-append-le}
use Rattle.tokei_table.specs.Sound.{no_newline}
use Rattle.tokei_table_row.specs.Bytes.{line_len}
use Rattle.tokei_parts.specs.Parts.{behind_newline, part_front}
use Rattle.tokei_parts.specs.Progress.{IsPart}
use Rattle.tokei_parts.proofs.Cuts.{no_newline_first, no_newline_later}

behind_newline-append : (s xs ys : List ℕ) → behind_newline s (xs ++ ys) ≡ behind_newline (behind_newline s xs) ys
behind_newline-append s [] ys = refl
behind_newline-append s (b ∷ xs) ys = by_test (b == 10) (behind_newline-append [] xs ys) (behind_newline-append (s ++ b ∷ []) xs ys)
  where
    by_test : (x : Bool) → behind_newline [] (xs ++ ys) ≡ behind_newline (behind_newline [] xs) ys → behind_newline (s ++ b ∷ []) (xs ++ ys) ≡ behind_newline (behind_newline (s ++ b ∷ []) xs) ys
        → cond x (behind_newline [] (xs ++ ys)) (behind_newline (s ++ b ∷ []) (xs ++ ys)) ≡ behind_newline (cond x (behind_newline [] xs) (behind_newline (s ++ b ∷ []) xs)) ys
    by_test true h k = h
    by_test false h k = k

behind_newline-one_line : (s ys : List ℕ) → no_newline ys ≡ true → behind_newline s ys ≡ s ++ ys
behind_newline-one_line s [] h = sym (append-nil s)
behind_newline-one_line s (b ∷ ys) h =
    ap (λ x. cond x (behind_newline [] ys) (behind_newline (s ++ b ∷ []) ys)) (no_newline_first b ys h)
    ∙ behind_newline-one_line (s ++ b ∷ []) ys (no_newline_later b ys h)
    ∙ append_assoc s (b ∷ []) ys

-- some bytes of a line hold no newline
take_one_line : (n : ℕ) (u : List ℕ) → n ≤ line_len u → no_newline (take n u) ≡ true
take_one_line zero u h = refl
take_one_line (suc n) [] h = refl
take_one_line (suc n) (b ∷ u) h = by_test (b == 10) h (take_one_line n u)
  where
    by_test : (x : Bool) → suc n ≤ cond x 0 (suc (line_len u)) → (n ≤ line_len u → no_newline (take n u) ≡ true) → (not x && no_newline (take n u)) ≡ true
    by_test true h k = absurd (omega arith)
    by_test false h k = k (omega arith)

pub line_len_within : (u : List ℕ) → line_len u ≤ length u
line_len_within [] = omega arith
line_len_within (b ∷ u) = by_test (b == 10) (line_len_within u)
  where
    by_test : (x : Bool) → line_len u ≤ length u → cond x 0 (suc (line_len u)) ≤ suc (length u)
    by_test true h = omega arith
    by_test false h = omega arith

-- what is left at a place tells the place
length-front : (text : List ℕ) (at : ℕ) → at ≤ length text → length text - length (drop at text) ≡ at
length-front text at h = omega (arith, length-drop at text)

module _ (text : List ℕ) (l start : ℕ) where
  -- the part's bytes before a place behind others
  front_on : (at n : ℕ) → IsPart text l start at → at + n ≤ length text → part_front text l (drop (at + n) text) ≡ behind_newline (take (at - start) (drop start text)) (take n (drop at text))
  front_on at n p h =
      let k : ℕ = length text - l in
      let here : length text - length (drop at text) ≡ at = length-front text at p.high in
      let there : length text - length (drop (at + n) text) ≡ at + n = length-front text (at + n) h in
      let enough : k ≤ length (take at text) = omega (arith, length-take at text, p.behind, p.low, p.high) in
      ap (λ m. behind_newline [] (drop k (take m text))) there
      ∙ ap (λ w. behind_newline [] (drop k w)) (take-add at n text)
      ∙ ap (behind_newline []) (drop-append-le k (take at text) (take n (drop at text)) enough)
      ∙ behind_newline-append [] (drop k (take at text)) (take n (drop at text))
      ∙ ap (λ w. behind_newline w (take n (drop at text))) (ap (λ m. behind_newline [] (drop k (take m text))) (sym here) ∙ p.front)

  -- the part goes on through bytes of its line
  pub part_on : (at n : ℕ) → IsPart text l start at → n ≤ line_len (drop at text) → IsPart text l start (at + n)
  part_on at n p h =
      let left : length (drop at text) ≡ length text - at = length-drop at text in
      let within : line_len (drop at text) ≤ length (drop at text) = line_len_within (drop at text) in
      let high : at + n ≤ length text = omega (arith, h, left, within, p.high) in
      let m : ℕ = at - start in
      let at_is : at ≡ m + start = omega (arith, p.low) in
      let len_is : at + n - start ≡ m + n = omega (arith, p.low) in
      record {
        low = omega (arith, p.low);
        high = high;
        behind = p.behind;
        front = front_on at n p high
            ∙ behind_newline-one_line (take m (drop start text)) (take n (drop at text)) (take_one_line n (drop at text) h)
            ∙ ap (λ w. take m (drop start text) ++ take n w) (ap (λ w. drop w text) (omega (arith, at_is)) ∙ sym (drop-drop m start text))
            ∙ sym (take-add m n (drop start text))
            ∙ ap (λ w. take w (drop start text)) (sym len_is);
      }

-- a line's newline ends its part, and another begins
pub part_anew : (text : List ℕ) (l start at : ℕ) → IsPart text l start at → line_len (drop at text) ≡ 0 → at < length text → IsPart text l (at + 1) (at + 1)
part_anew text l start at p e h =
    let high : at + 1 ≤ length text = omega (arith, h) in
    record {
      low = omega arith;
      high = high;
      behind = omega (arith, p.behind, p.low);
      front =
          front_on text l start at 1 p high
          ∙ at_newline (drop at text) (take (at - start) (drop start text)) e
          (omega (arith, length-drop at text, h))
          ∙ ap (λ n. take n (drop (at + 1) text)) none;
    }
  where
    none : 0 ≡ at + 1 - (at + 1)
    none = omega arith

    newline_by : (x : Bool) (s : List ℕ) (k b : ℕ) → cond x 0 (suc k) ≡ 0 → cond x [] (s ++ b ∷ []) ≡ []
    newline_by true s k b e = refl
    newline_by false s k b e = absurd (omega arith)

    at_newline : (u s : List ℕ) → line_len u ≡ 0 → 0 < length u → behind_newline s (take 1 u) ≡ []
    at_newline [] s e h = absurd (omega arith)
    at_newline (b ∷ u) s e h = newline_by (b == 10) s (line_len u) b e

-- behind a child another part begins
pub part_behind : (text : List ℕ) (start : ℕ) → start ≤ length text → IsPart text (length text - start) start start
part_behind text start h =
    let k : length text - (length text - start) ≡ start = omega (arith, h) in
    let here : length text - length (drop start text) ≡ start = length-front text start h in
    let none : 0 ≡ start - start = omega arith in
    record {
      low = omega arith;
      high = h;
      behind = omega arith;
      front = ap (λ m. behind_newline [] (drop m (take (length text - length (drop start text)) text))) k
          ∙ ap (λ m. behind_newline [] (drop start (take m text))) here
          ∙ ap (behind_newline []) (drop_all (take start text) start (omega (arith, length-take start text)))
          ∙ ap (λ n. take n (drop start text)) none;
    }
  where
    drop_all : (xs : List ℕ) (n : ℕ) → length xs ≤ n → drop n xs ≡ []
    drop_all [] zero h = refl
    drop_all [] (suc n) h = refl
    drop_all (x ∷ xs) zero h = absurd (omega arith)
    drop_all (x ∷ xs) (suc n) h = drop_all xs n (omega arith)

-- the first part of a text
pub part_first : (text : List ℕ) → IsPart text (length text) 0 0
part_first text = let e : length text - 0 ≡ length text = omega arith in rw e at (part_behind text 0 (omega arith))
