-- A look at lines ends within one, of which it has seen the front or only blanks. What was counted
-- without that front is what the lines before it have.
use mir.Val.{bool_byte}
use Rattle.std.proofs.Common.{◌≡◌, ◌≢◌, ℕ, zero, suc, ◌+◌, ◌-◌, ◌<◌, ◌≤◌, ◌==◌, ◌&&◌, ◌||◌, not, Bool, true, false, List, [], ◌∷◌, ◌++◌, take, drop, length, get_or, refl, sym, ap, ◌∙◌, arith, length-drop}
use Rattle.std.proofs.lemmas.Bool.Decides.{Decides-eqb}
use Rattle.std.proofs.lemmas.List.{drop_more, get_or-drop, get_or-take, length-take-le}
use Rattle.tokei_bytes.proofs.LineSums.{fronts_over, newlines_over, fronts_in_lines}
use Rattle.tokei_bytes.specs.Lines.{blank_after, blank_behind, flag, front_count, goes_on, is_blank, newline, newline_count}
use Rattle.tokei_table.specs.Slices.{between}
use Rattle.tokei_count.proofs.BlockLooks.{marks_over, between_more}
use Rattle.tokei_count.proofs.LookedAhead.{blank_over}
use Rattle.tokei_count.specs.LineLooks.{mark_count}

never : false ≡ true → ⊥
never h = cc

one_not_none : (n : ℕ) → 1 + n ≡ 0 → ⊥
one_not_none n h = absurd (omega (arith, h))

-- bytes without a newline behind their line's front have no front
none_behind : (is_mark : ℕ → Bool) (u : List ℕ) → newline_count u ≡ 0 → (front_count false u ≡ 0) × (mark_count is_mark false u ≡ 0)
none_behind is_mark [] h = (refl, refl)
none_behind is_mark (b ∷ t) h = by_test (b == newline) h (none_behind is_mark t)
  where
    by_test : (x : Bool) → flag x + newline_count t ≡ 0 → (newline_count t ≡ 0 → (front_count false t ≡ 0) × (mark_count is_mark false t ≡ 0))
        → (flag (false && not (is_blank b)) + front_count (x || (false && is_blank b)) t ≡ 0)
        × (flag ((false && not (is_blank b)) && is_mark b) + mark_count is_mark (x || (false && is_blank b)) t ≡ 0)
    by_test true h rest = absurd (one_not_none (newline_count t) h)
    by_test false h rest = let none : newline_count t ≡ 0 = omega (arith, h) in let both = rest none in (omega (arith, both.0), omega (arith, both.1))

-- what bytes of one line have, from its beginning on, where all are blank
pub blank_line : (is_mark : ℕ → Bool) (u : List ℕ) → newline_count u ≡ 0 → ((k : ℕ) → k < length u → is_blank (get_or u k 0) ≡ true) → (front_count true u ≡ 0) × (mark_count is_mark true u ≡ 0)
blank_line is_mark [] none blanks = (refl, refl)
blank_line is_mark (b ∷ t) none blanks = by_test (b == newline) (is_blank b) none (blanks 0 (omega arith)) (λ l. blank_line is_mark t l (λ k m. blanks (suc k) (omega (arith, m))))
  where
    by_test : (x y : Bool) → flag x + newline_count t ≡ 0 → y ≡ true → (newline_count t ≡ 0 → (front_count true t ≡ 0) × (mark_count is_mark true t ≡ 0))
        → (flag (true && not y) + front_count (x || (true && y)) t ≡ 0) × (flag ((true && not y) && is_mark b) + mark_count is_mark (x || (true && y)) t ≡ 0)
    by_test true y h e rest = absurd (one_not_none (newline_count t) h)
    by_test false false h e rest = absurd (never e)
    by_test false true h e rest = let none : newline_count t ≡ 0 = omega (arith, h) in let both = rest none in (omega (arith, both.0), omega (arith, both.1))

-- and where the byte behind h blanks is none
pub solid_line : (is_mark : ℕ → Bool) (u : List ℕ) (h : ℕ) → newline_count u ≡ 0 → h < length u → ((k : ℕ) → k < h → is_blank (get_or u k 0) ≡ true) → is_blank (get_or u h 0) ≡ false
    → (front_count true u ≡ 1) × (mark_count is_mark true u ≡ flag (is_mark (get_or u h 0)))
solid_line is_mark [] h none low blanks solid = absurd (omega (arith, low))
solid_line is_mark (b ∷ t) zero none low blanks solid = by_test (b == newline) (is_blank b) none solid (none_behind is_mark t)
  where
    by_test : (x y : Bool) → flag x + newline_count t ≡ 0 → y ≡ false → (newline_count t ≡ 0 → (front_count false t ≡ 0) × (mark_count is_mark false t ≡ 0))
        → (flag (true && not y) + front_count (x || (true && y)) t ≡ 1)
        × (flag ((true && not y) && is_mark b) + mark_count is_mark (x || (true && y)) t ≡ flag (is_mark b))
    by_test true y h e rest = absurd (one_not_none (newline_count t) h)
    by_test false true h e rest = absurd (never (sym e))
    by_test false false h e rest = let none : newline_count t ≡ 0 = omega (arith, h) in let both = rest none in (omega (arith, both.0), omega (arith, both.1))
solid_line is_mark (b ∷ t) (suc h) none low blanks solid =
    by_test (b == newline) (is_blank b) none (blanks 0 (omega arith)) (λ l. solid_line is_mark t h l (omega (arith, low)) (λ k m. blanks (suc k) (omega (arith, m))) solid)
  where
    by_test : (x y : Bool) → flag x + newline_count t ≡ 0 → y ≡ true → (newline_count t ≡ 0 → (front_count true t ≡ 1) × (mark_count is_mark true t ≡ flag (is_mark (get_or t h 0))))
        → (flag (true && not y) + front_count (x || (true && y)) t ≡ 1)
        × (flag ((true && not y) && is_mark b) + mark_count is_mark (x || (true && y)) t ≡ flag (is_mark (get_or t h 0)))
    by_test true y h e rest = absurd (one_not_none (newline_count t) h)
    by_test false false h e rest = absurd (never e)
    by_test false true h e rest = let none : newline_count t ≡ 0 = omega (arith, h) in let both = rest none in (omega (arith, both.0), omega (arith, both.1))

-- bytes without a newline have a front, from their line's beginning on, where not all are blank
behind_front : (u : List ℕ) → newline_count u ≡ 0 → blank_after false u ≡ false
behind_front [] none = refl
behind_front (b ∷ t) none = by_test (b == newline) none (behind_front t)
  where
    by_test : (x : Bool) → flag x + newline_count t ≡ 0 → (newline_count t ≡ 0 → blank_after false t ≡ false) → blank_after (x || (false && is_blank b)) t ≡ false
    by_test true h rest = absurd (one_not_none (newline_count t) h)
    by_test false h rest = rest (omega (arith, h))

front_flag : (u : List ℕ) → newline_count u ≡ 0 → front_count true u ≡ flag (not (blank_after true u))
front_flag [] none = refl
front_flag (b ∷ t) none = by_test (b == newline) (is_blank b) none (front_flag t) (none_behind (λ x. false) t) (behind_front t)
  where
    by_test : (x y : Bool) → flag x + newline_count t ≡ 0 → (newline_count t ≡ 0 → front_count true t ≡ flag (not (blank_after true t)))
        → (newline_count t ≡ 0 → (front_count false t ≡ 0) × (mark_count (λ x. false) false t ≡ 0)) → (newline_count t ≡ 0 → blank_after false t ≡ false)
        → flag (true && not y) + front_count (x || (true && y)) t ≡ flag (not (blank_after (x || (true && y)) t))
    by_test true y h rest none behind = absurd (one_not_none (newline_count t) h)
    by_test false true h rest none behind = let few : newline_count t ≡ 0 = omega (arith, h) in omega (arith, rest few)
    by_test false false h rest none behind =
        let few : newline_count t ≡ 0 = omega (arith, h) in
        omega (arith, (none few).0, ap (λ x. flag (not x)) (behind few))

-- marked fronts are fronts
pub marks_few : (is_mark : ℕ → Bool) (u : List ℕ) (blank : Bool) → mark_count is_mark blank u ≤ front_count blank u
marks_few is_mark [] blank = omega arith
marks_few is_mark (b ∷ t) blank = by_test (blank && not (is_blank b)) (is_mark b) (marks_few is_mark t (blank_behind blank b))
  where
    by_test : (x y : Bool) → mark_count is_mark (blank_behind blank b) t ≤ front_count (blank_behind blank b) t
        → flag (x && y) + mark_count is_mark (blank_behind blank b) t ≤ flag x + front_count (blank_behind blank b) t
    by_test true true h = omega (arith, h)
    by_test true false h = omega (arith, h)
    by_test false y h = omega (arith, h)

-- Whole lines stand from `start` to before `stop`, and bytes of the next up to `at`.
module _ (is_mark : ℕ → Bool) (text : List ℕ) (start stop at : ℕ) (low : start < stop) (order : stop ≤ at) (high : at ≤ length text)
    (begun : get_or text (stop - 1) 0 ≡ newline) (on : newline_count (between text stop at) ≡ 0) where
  last_byte : between text start stop ≡ between text start (stop - 1) ++ newline ∷ []
  last_byte =
      let back : stop ≡ (stop - 1) + 1 = omega (arith, low) in
      let some : stop - 1 < length text = omega (arith, low, order, high) in
      ap (between text start) back ∙ between_more text start (stop - 1) 1 (omega (arith, low))
      ∙ ap (λ l. between text start (stop - 1) ++ take 1 l) (drop_more text (stop - 1) 0 some)
      ∙ ap (λ b. between text start (stop - 1) ++ b ∷ []) begun

  pub ends_line : blank_after true (between text start stop) ≡ true
  ends_line = ap (blank_after true) last_byte ∙ blank_over (between text start (stop - 1)) (newline ∷ []) true

  whole : between text start at ≡ between text start stop ++ between text stop at
  whole =
      let size : at ≡ stop + (at - stop) = omega (arith, order) in
      ap (between text start) size ∙ between_more text start stop (at - stop) (omega (arith, low))

  pub newlines_before : newline_count (between text start at) ≡ newline_count (between text start stop)
  newlines_before = ap newline_count whole ∙ newlines_over (between text start stop) (between text stop at) ∙ omega (arith, on)

  pub fronts_before : front_count true (between text start at) ≡ front_count true (between text start stop) + front_count true (between text stop at)
  fronts_before =
      ap (front_count true) whole ∙ fronts_over (between text start stop) (between text stop at) true
      ∙ ap (λ x. front_count true (between text start stop) + front_count x (between text stop at)) ends_line

  pub marks_before : mark_count is_mark true (between text start at) ≡ mark_count is_mark true (between text start stop) + mark_count is_mark true (between text stop at)
  marks_before =
      ap (mark_count is_mark true) whole ∙ marks_over is_mark (between text start stop) (between text stop at) true
      ∙ ap (λ x. mark_count is_mark true (between text start stop) + mark_count is_mark x (between text stop at)) ends_line

  size : length (between text stop at) ≡ at - stop
  size = length-take-le (at - stop) (drop stop text) (omega (arith, length-drop stop text, order, high))

  byte : (k : ℕ) → k < at - stop → get_or (between text stop at) k 0 ≡ get_or text (stop + k) 0
  byte k l = get_or-take (at - stop) (drop stop text) k 0 l ∙ get_or-drop stop text k 0

  -- each front has its newline
  pub fronts_few : front_count true (between text start stop) ≤ newline_count (between text start stop)
  fronts_few =
      omega (arith, fronts_in_lines (between text start stop), ap flag (ap goes_on last_byte ∙ ends (between text start (stop - 1))))
    where
      ends : (u : List ℕ) → goes_on (u ++ newline ∷ []) ≡ false
      ends [] = refl
      ends (a ∷ []) = refl
      ends (a ∷ b ∷ u) = ends (b ∷ u)

  -- what the last line has, where it has a front and where it has none
  blank_seen : blank_after true (between text start at) ≡ blank_after true (between text stop at)
  blank_seen =
      ap (blank_after true) whole ∙ blank_over (between text start stop) (between text stop at) true ∙ ap (λ x. blank_after x (between text stop at)) ends_line

  pub without_front : blank_after true (between text start at) ≡ true → (front_count true (between text start at) ≡ front_count true (between text start stop))
      × (mark_count is_mark true (between text start at) ≡ mark_count is_mark true (between text start stop))
  without_front blank =
      let none : front_count true (between text stop at) ≡ 0 = front_flag (between text stop at) on ∙ ap (λ x. flag (not x)) (sym blank_seen ∙ blank) in
      (omega (arith, fronts_before, none), omega (arith, marks_before, none, marks_few is_mark (between text stop at) true))

  pub with_front : blank_after true (between text start at) ≡ false → front_count true (between text start at) ≡ front_count true (between text start stop) + 1
  with_front solid =
      let one : front_count true (between text stop at) ≡ 1 = front_flag (between text stop at) on ∙ ap (λ x. flag (not x)) (sym blank_seen ∙ solid) in
      omega (arith, fronts_before, one)

  -- the blanks of the last line end at `head`
  module _ (head : ℕ) (from : stop ≤ head) (to : head ≤ at) (blanks : (p : ℕ) → stop ≤ p → p < head → is_blank (get_or text p 0) ≡ true)
      (found : head < at → is_blank (get_or text head 0) ≡ false) where
    first : (k : ℕ) → k < head - stop → is_blank (get_or (between text stop at) k 0) ≡ true
    first k l = ap is_blank (byte k (omega (arith, l, from, to))) ∙ blanks (stop + k) (omega arith) (omega (arith, l, from))

    pub none_behind_blanks : at ≤ head → mark_count is_mark true (between text stop at) ≡ 0
    none_behind_blanks over = (blank_line is_mark (between text stop at) on (λ k l. first k (omega (arith, l, size, over, from)))).1

    pub front_behind_blanks : head < at → mark_count is_mark true (between text stop at) ≡ flag (is_mark (get_or text head 0))
    front_behind_blanks inside =
        let there : stop + (head - stop) ≡ head = omega (arith, from) in
        let here : get_or (between text stop at) (head - stop) 0 ≡ get_or text head 0 = byte (head - stop) (omega (arith, inside, from)) ∙ ap (λ j. get_or text j 0) there in
        (solid_line is_mark (between text stop at) (head - stop) on (omega (arith, size, inside, from)) first (ap is_blank here ∙ found inside)).1 ∙ ap (λ b. flag (is_mark b)) here

-- a place that isn't the end is before it
pub seen_inside : (head at : ℕ) → head ≤ at → head ≢ at → head < at
seen_inside head at high other = omega arith

-- a flag that is 1 for true
pub told_blank : (blank : ℕ) (b : Bool) → (blank == 1) ≡ b → blank ≡ 1 → b ≡ true
told_blank blank b e is = sym e ∙ (Decides-eqb blank 1).1 is

pub told_front : (blank : ℕ) (b : Bool) → (blank == 1) ≡ b → blank ≢ 1 → b ≡ false
told_front blank true e other = absurd (other ((Decides-eqb blank 1).0 e))
told_front blank false e other = refl

-- the number that a test becomes
pub marked_byte : (x y : Bool) → x ≡ y → bool_byte x ≡ flag y
marked_byte true true e = refl
marked_byte true false e = cc
marked_byte false true e = cc
marked_byte false false e = refl
