-- The counts of lines add up from block to block, and each line has one front at most.
use Rattle.std.proofs.Common.{◌≡◌, ℕ, zero, suc, ◌+◌, ◌-◌, ◌<◌, ◌≤◌, ◌==◌, ◌&&◌, ◌||◌, not, Bool, true, false, List, [], ◌∷◌, ◌++◌, map, drop, length, get_or, count_ones, refl, ap, ◌∙◌, arith, length-drop, get_or-drop}
use Rattle.std.proofs.lemmas.Simd.{ones-mask_l_cons, chunk-drop}
use Rattle.std.proofs.lemmas.List.{drop_all}
use Rattle.std.proofs.lemmas.Bool.Decides.{Decides-eqb}
use mir.Val.{bool_byte}
use lib.Lanes.{chunk, mask_l}
use Rattle.tokei_bytes.specs.Lines.{newline, is_blank, flag, blank_behind, blank_after, fronts, front_count, newline_count, goes_on, line_count}

-- a flag is told by its number
pub told : (x : Bool) → (flag x == 1) ≡ x
told true = refl
told false = refl

-- a mask has as many bits as there are
pub ones_fronts : (v : List ℕ) (blank : Bool) → count_ones (mask_l (fronts blank v)) ≡ front_count blank v
unfolding lib.Count.ones
ones_fronts [] blank = refl
ones_fronts (b ∷ t) blank =
    ones-mask_l_cons (blank && not (is_blank b)) (fronts (blank_behind blank b) t)
    ∙ ap (λ n. flag (blank && not (is_blank b)) + n) (ones_fronts t (blank_behind blank b))

pub ones_newlines : (v : List ℕ) → count_ones (mask_l (map (λ x. x == newline) v)) ≡ newline_count v
unfolding lib.Count.ones
ones_newlines [] = refl
ones_newlines (b ∷ t) = ones-mask_l_cons (b == newline) (map (λ x. x == newline) t) ∙ ap (λ n. flag (b == newline) + n) (ones_newlines t)

-- of a text and what follows
pub fronts_over : (v u : List ℕ) (blank : Bool) → front_count blank (v ++ u) ≡ front_count blank v + front_count (blank_after blank v) u
fronts_over [] u blank = omega arith
fronts_over (b ∷ v) u blank = omega (arith, fronts_over v u (blank_behind blank b))

pub newlines_over : (v u : List ℕ) → newline_count (v ++ u) ≡ newline_count v + newline_count u
newlines_over [] u = omega arith
newlines_over (b ∷ v) u = omega (arith, newlines_over v u)

-- of a block and of what follows it
module _ (text : List ℕ) (at : ℕ) where
  pub block_fronts : (blank : Bool) → front_count blank (drop at text) ≡ front_count blank (chunk at 32 text) + front_count (blank_after blank (chunk at 32 text)) (drop (at + 32) text)
  block_fronts blank = ap (front_count blank) (chunk-drop at 32 text) ∙ fronts_over (chunk at 32 text) (drop (at + 32) text) blank

  pub block_newlines : newline_count (drop at text) ≡ newline_count (chunk at 32 text) + newline_count (drop (at + 32) text)
  block_newlines = ap newline_count (chunk-drop at 32 text) ∙ newlines_over (chunk at 32 text) (drop (at + 32) text)

-- there are no more of them than bytes
pub flag_small : (x : Bool) → flag x ≤ 1
flag_small true = omega arith
flag_small false = omega arith

pub fronts_within : (u : List ℕ) (blank : Bool) → front_count blank u ≤ length u
fronts_within [] blank = omega arith
fronts_within (b ∷ t) blank = omega (arith, flag_small (blank && not (is_blank b)), fronts_within t (blank_behind blank b))

pub newlines_within : (u : List ℕ) → newline_count u ≤ length u
newlines_within [] = omega arith
newlines_within (b ∷ t) = omega (arith, flag_small (b == newline), newlines_within t)

either : (x : Bool) → flag x + 0 + flag (not x) ≤ 1
either true = omega arith
either false = omega arith

pub lines_within : (u : List ℕ) → line_count u ≤ length u
lines_within [] = omega arith
lines_within (b ∷ []) = either (b == newline)
lines_within (b ∷ c ∷ t) = omega (arith, flag_small (b == newline), lines_within (c ∷ t))

-- whether the text goes on behind its last newline, its last byte says
pub last_tells : (u : List ℕ) (k : ℕ) → length u ≡ suc k → goes_on u ≡ not (get_or u k 0 == newline)
last_tells [] k h = absurd (omega (arith, h))
last_tells (b ∷ []) zero h = refl
last_tells (b ∷ []) (suc k) h = absurd (omega (arith, h))
last_tells (b ∷ c ∷ t) zero h = absurd (omega (arith, h))
last_tells (b ∷ c ∷ t) (suc k) h = last_tells (c ∷ t) k (omega (arith, h))

goes_later : (b : ℕ) (t : List ℕ) → flag (goes_on t) ≤ flag (goes_on (b ∷ t))
goes_later b [] = omega arith
goes_later b (c ∷ t) = omega arith

-- a newline is blank
ends_blank : (b : ℕ) → (b == newline) ≡ true → is_blank b ≡ true
ends_blank b h = ap is_blank ((Decides-eqb b newline).0 h)

never : false ≡ true → ⊥
never h = cc

-- the next byte, where each front behind it has a line
front_by : (ends is : Bool) → (ends ≡ true → is ≡ true) → (s : List ℕ) (n g more : ℕ) → front_count true s ≤ n + g → g ≤ more → (ends ≡ false → front_count false s + 1 ≤ n + more)
    → flag (true && not is) + front_count (ends || (true && is)) s ≤ flag ends + n + more
front_by true true e s n g more h k f = omega (arith, h, k)
front_by true false e s n g more h k f = absurd (never (e refl))
front_by false true e s n g more h k f = omega (arith, h, k)
front_by false false e s n g more h k f = omega (arith, f refl)

behind_by : (ends is : Bool) → (s : List ℕ) (n g more : ℕ) → front_count true s ≤ n + g → g ≤ more → (ends ≡ false → front_count false s + 1 ≤ n + more)
    → flag (false && not is) + front_count (ends || (false && is)) s + 1 ≤ flag ends + n + more
behind_by true is s n g more h k f = omega (arith, h, k)
behind_by false is s n g more h k f = omega (arith, f refl)

one_more : (x : Bool) → x ≡ false → 0 + 1 ≤ 0 + flag (not x)
one_more true h = cc
one_more false h = omega arith

-- each front has a line, and where the line that the text goes on in has its own, one more
fronts_fit : (u : List ℕ) → (front_count true u ≤ line_count u) × ((b : ℕ) → (b == newline) ≡ false → front_count false u + 1 ≤ newline_count u + flag (goes_on (b ∷ u)))
fronts_fit [] = (omega arith, λ b h. one_more (b == newline) h)
fronts_fit (c ∷ s) =
    let ih = fronts_fit s in (
      front_by (c == newline) (is_blank c) (ends_blank c) s (newline_count s) (flag (goes_on s)) (flag (goes_on (c ∷ s))) ih.0 (goes_later c s) (ih.1 c),
      λ b h. behind_by (c == newline) (is_blank c) s (newline_count s) (flag (goes_on s)) (flag (goes_on (c ∷ s))) ih.0 (goes_later c s) (ih.1 c),
    )

pub fronts_in_lines : (u : List ℕ) → front_count true u ≤ line_count u
fronts_in_lines u = (fronts_fit u).0

-- whether the text from a place on goes on behind its last newline, its last byte says
pub last_byte : (text : List ℕ) (from : ℕ) → from < length text → goes_on (drop from text) ≡ not (get_or text (length text - 1) 0 == newline)
last_byte text from some =
    let k : ℕ = length text - 1 - from in
    let long : length (drop from text) ≡ suc k = omega (arith, length-drop from text, some) in
    let place : from + k ≡ length text - 1 = omega (arith, some) in
    last_tells (drop from text) k long ∙ ap (λ y. not (y == newline)) (get_or-drop from text k 0 ∙ ap (λ j. get_or text j 0) place)

pub none_behind : (text : List ℕ) (from : ℕ) → length text ≤ from → goes_on (drop from text) ≡ false
none_behind text from over = ap goes_on (drop_all from text over)

-- a count that others were added to is no greater than the bytes
pub newlines_fit : (text : List ℕ) (from n left : ℕ) → n + left ≡ newline_count (drop from text) → n ≤ length text
newlines_fit text from n left e = omega (arith, e, newlines_within (drop from text), length-drop from text)

pub fronts_fit_in : (text : List ℕ) (from n left : ℕ) → n + left ≡ front_count true (drop from text) → n ≤ length text
fronts_fit_in text from n left e = omega (arith, e, fronts_within (drop from text) true, length-drop from text)

flag_byte : (x : Bool) → bool_byte x ≡ flag x
flag_byte true = refl
flag_byte false = refl

-- at the text's end all is counted but the last line, where that has no newline
module _ (text : List ℕ) (from at n f : ℕ) (blank last : Bool) (over : length text ≤ at) (newlines : n + newline_count (drop at text) ≡ newline_count (drop from text))
    (fronts : f + front_count blank (drop at text) ≡ front_count true (drop from text)) (last_is : last ≡ goes_on (drop from text)) where
  pub all_lines : n + bool_byte last ≡ line_count (drop from text)
  all_lines = omega (arith, newlines, ap newline_count (drop_all at text over), flag_byte last, ap flag last_is)

  pub all_fronts : f ≡ front_count true (drop from text)
  all_fronts = omega (arith, fronts, ap (front_count blank) (drop_all at text over))

  pub lines_enough : f ≤ n + bool_byte last
  lines_enough = omega (arith, all_lines, all_fronts, fronts_in_lines (drop from text))

  pub lines_few : n + bool_byte last ≤ length text
  lines_few = omega (arith, all_lines, lines_within (drop from text), length-drop from text)
