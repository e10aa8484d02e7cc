-- What the masks of a block say of its first bytes: how many newlines, fronts of lines and marked
-- fronts they have, and where the last newline of them stands. So a look goes on over these bytes.
use Rattle.std.proofs.Common.{◌≡◌, ◌≢◌, ℕ, zero, suc, ◌+◌, ◌-◌, ◌*◌, ◌%◌, ◌^◌, ◌<◌, ◌≤◌, ◌==◌, ◌&&◌, not, cond, Bool, true, false, List, [], ◌∷◌, ◌++◌, map, take, drop, length, get_or, bit_and, count_ones, refl, sym, subst, ap, ap₂, ◌∙◌, arith, length-drop, get_or-drop}
use Rattle.std.proofs.lemmas.Simd.{mask_l-lt, ones-mask_l_cons, length-chunk}
use Rattle.std.proofs.lemmas.List.{length-map, length-take-le, take-map, take-take, drop-drop, drop-take, get_or-take}
use Rattle.std.proofs.lemmas.Nat.{one_shl, pow_pos, leading_top}
use Rattle.std.proofs.Math.Nat.{pos_of_ne-zero, two-pow-succ}
use Rattle.std.proofs.Math.Seq.{take-add}
use Rattle.std.proofs.lemmas.Bool.Decides.{Decides-eqb}
use lib.Bits.{and_zero_l, and_zero_r}
use lib.Count.{count_leading_zeros}
use lib.Lanes.{chunk, mask_l}
use lib.Pow.{pow_mono}
use Rattle.tokei_bytes.specs.Lines.{newline, is_blank, flag, blank_behind, blank_after, fronts, front_count, newline_count}
use Rattle.tokei_bytes.proofs.Carries.{and_one}
use Rattle.tokei_bytes.proofs.LineSums.{flag_small, ones_fronts, ones_newlines, fronts_over, newlines_over, newlines_within, fronts_within}
use Rattle.tokei_bytes.specs.declared.lines.LineMasks.{LineMasks}
use Rattle.tokei_table.specs.Slices.{between}
use Rattle.tokei_count.specs.LineLooks.{IsLook, mark_count}
use Rattle.tokei_count.specs.declared.line_look.Look.{Look}

-- a mask cut to its n lowest bits is that of the first n lanes
cut : (ms : List Bool) (n : ℕ) → bit_and (mask_l ms) (2 ^ n - 1) ≡ mask_l (take n ms)
cut ms zero = and_zero_r (mask_l ms)
cut [] (suc n) = and_zero_l (2 ^ suc n - 1)
cut (m ∷ ms) (suc n) =
    ap (bit_and (mask_l (m ∷ ms))) more
    ∙ and_one m true (mask_l ms) (2 ^ n - 1)
    ∙ ap₂ (λ x k. cond x 1 0 + 2 * k) (always m) (cut ms n)
  where
    more : 2 ^ suc n - 1 ≡ cond true 1 0 + 2 * (2 ^ n - 1)
    more = omega (arith, two-pow-succ n, pow_pos n)

    always : (x : Bool) → (x && true) ≡ x
    always true = refl
    always false = refl

take_fronts : (v : List ℕ) (blank : Bool) (n : ℕ) → take n (fronts blank v) ≡ fronts blank (take n v)
take_fronts v blank zero = refl
take_fronts [] blank (suc n) = refl
take_fronts (b ∷ t) blank (suc n) = ap (λ r. (blank && not (is_blank b)) ∷ r) (take_fronts t (blank_behind blank b) n)

-- for each byte whether it is the front of its line and marked
abbrev marks : (ℕ → Bool) → Bool → List ℕ → List Bool
marks is_mark blank [] = []
marks is_mark blank (b ∷ t) = ((blank && not (is_blank b)) && is_mark b) ∷ marks is_mark (blank_behind blank b) t

marks_cut : (is_mark : ℕ → Bool) (v : List ℕ) (blank : Bool) (n : ℕ) → bit_and (mask_l (fronts blank (take n v))) (mask_l (map is_mark v)) ≡ mask_l (marks is_mark blank (take n v))
marks_cut is_mark v blank zero = and_zero_l (mask_l (map is_mark v))
marks_cut is_mark [] blank (suc n) = and_zero_l 0
marks_cut is_mark (b ∷ t) blank (suc n) =
    let front : Bool = blank && not (is_blank b) in
    let behind : Bool = blank_behind blank b in
    and_one front (is_mark b) (mask_l (fronts behind (take n t))) (mask_l (map is_mark t))
    ∙ ap (λ k. cond (front && is_mark b) 1 0 + 2 * k) (marks_cut is_mark t behind n)

ones_marks : (is_mark : ℕ → Bool) (v : List ℕ) (blank : Bool) → count_ones (mask_l (marks is_mark blank v)) ≡ mark_count is_mark blank v
unfolding lib.Count.ones
ones_marks is_mark [] blank = refl
ones_marks is_mark (b ∷ t) blank =
    ones-mask_l_cons ((blank && not (is_blank b)) && is_mark b) (marks is_mark (blank_behind blank b) t)
    ∙ ap (λ n. flag ((blank && not (is_blank b)) && is_mark b) + n) (ones_marks is_mark t (blank_behind blank b))

-- the marked fronts of a text and what follows
pub marks_over : (is_mark : ℕ → Bool) (v u : List ℕ) (blank : Bool) → mark_count is_mark blank (v ++ u) ≡ mark_count is_mark blank v + mark_count is_mark (blank_after blank v) u
marks_over is_mark [] u blank = omega arith
marks_over is_mark (b ∷ v) u blank = omega (arith, marks_over is_mark v u (blank_behind blank b))

-- no more fronts are marked than there are bytes
marks_within : (is_mark : ℕ → Bool) (u : List ℕ) (blank : Bool) → mark_count is_mark blank u ≤ length u
marks_within is_mark [] blank = omega arith
marks_within is_mark (b ∷ t) blank = omega (arith, flag_small ((blank && not (is_blank b)) && is_mark b), marks_within is_mark t (blank_behind blank b))

-- the highest bit of the newlines' mask is the last newline's
abbrev newlines : List ℕ → ℕ
newlines v = mask_l (map (λ x. x == newline) v)

no_newline : (v : List ℕ) → newlines v ≡ 0 → newline_count v ≡ 0
unfolding lib.Count.ones
no_newline v none = sym (ones_newlines v) ∙ ap count_ones none

last_newline : (v : List ℕ) (j : ℕ) → 2 ^ j ≤ newlines v → newlines v < 2 ^ suc j → (j < length v) × (get_or v j 0 ≡ newline) × (newline_count (drop (suc j) v) ≡ 0)
last_newline [] j low high = absurd (omega (arith, low, pow_pos j))
last_newline (b ∷ t) zero low high = (
  omega arith,
  (Decides-eqb b newline).0 (ends (b == newline) low high),
  no_newline t (none (b == newline) low high),
)
  where
    ends : (x : Bool) → 2 ^ 0 ≤ cond x 1 0 + 2 * newlines t → cond x 1 0 + 2 * newlines t < 2 ^ 1 → x ≡ true
    ends true low high = refl
    ends false low high = absurd (omega (arith, low, high))

    none : (x : Bool) → 2 ^ 0 ≤ cond x 1 0 + 2 * newlines t → cond x 1 0 + 2 * newlines t < 2 ^ 1 → newlines t ≡ 0
    none true low high = omega (arith, high)
    none false low high = absurd (omega (arith, low, high))
last_newline (b ∷ t) (suc j) low high =
    let behind = last_newline t j (above (b == newline) low) (below (b == newline) high) in
    (omega (arith, behind.0), behind.1, behind.2)
  where
    above : (x : Bool) → 2 ^ suc j ≤ cond x 1 0 + 2 * newlines t → 2 ^ j ≤ newlines t
    above true low = omega (arith, low, two-pow-succ j, pow_pos j)
    above false low = omega (arith, low, two-pow-succ j)

    below : (x : Bool) → cond x 1 0 + 2 * newlines t < 2 ^ suc (suc j) → newlines t < 2 ^ suc j
    below true high = omega (arith, high, two-pow-succ (suc j))
    below false high = omega (arith, high, two-pow-succ (suc j))

-- the bytes up to a place, and n more
pub between_more : (text : List ℕ) (from at n : ℕ) → from ≤ at → between text from (at + n) ≡ between text from at ++ take n (drop at text)
between_more text from at n le =
    let whole : at + n - from ≡ at - from + n = omega (arith, le) in
    let place : from + (at - from) ≡ at = omega (arith, le) in
    ap (λ k. take k (drop from text)) whole
    ∙ take-add (at - from) n (drop from text)
    ∙ ap (λ u. between text from at ++ take n u) (drop-drop (at - from) from text ∙ ap (λ k. drop k text) place)

length_stretch : (text : List ℕ) (from to : ℕ) → from ≤ to → to ≤ length text → length (between text from to) ≤ length text
length_stretch text from to le high =
    let room : to - from ≤ length (drop from text) = omega (arith, length-drop from text, le, high) in
    omega (arith, length-take-le (to - from) (drop from text) room, le, high)

-- The look goes on over the first gap of the 32 bytes behind it, whose masks these are; x says whether the line that
-- it ended in has no front yet.
module _ (is_mark : ℕ → Bool) (text : List ℕ) (start : ℕ) (look : Look) (x : Bool) (lines : LineMasks) (marked gap : ℕ)
    (is : IsLook is_mark text start look) (room : look.at + 32 ≤ length text) (few : gap ≤ 32)
    (blank : x ≡ blank_after true (between text start look.at))
    (ns : lines.newlines ≡ mask_l (map (λ b. b == newline) (chunk look.at 32 text)))
    (fs : lines.fronts ≡ mask_l (fronts x (chunk look.at 32 text)))
    (ms : marked ≡ mask_l (map is_mark (chunk look.at 32 text))) where
  abbrev at : ℕ
  at = look.at

  abbrev v : List ℕ
  v = chunk at 32 text

  abbrev part : List ℕ
  part = take gap v

  from : start ≤ at
  from = omega (arith, is.low, is.order)

  -- the mask by which the code cuts
  abbrev within : ℕ
  within = 1 * 2 ^ gap % 18446744073709551616 - 1

  within_is : within ≡ 2 ^ gap - 1
  within_is = ap (λ k. k - 1) (one_shl gap 64 (omega (arith, few)))

  part_is : part ≡ take gap (drop at text)
  part_is = take-take gap 32 (drop at text) few

  length-part : length part ≡ gap
  length-part = length-take-le gap v (omega (arith, few, length-chunk at 32 text room))

  more : (low : ℕ) → low ≤ at → between text low (at + gap) ≡ between text low at ++ part
  more low le = between_more text low at gap le ∙ ap (λ u. between text low at ++ u) (sym part_is)

  abbrev ended : ℕ
  ended = bit_and lines.newlines within

  ended_is : ended ≡ newlines part
  ended_is = ap₂ bit_and ns within_is ∙ cut (map (λ b. b == newline) v) gap ∙ ap mask_l (take-map (λ b. b == newline) gap v)

  fronts_cut : bit_and lines.fronts within ≡ mask_l (fronts x part)
  fronts_cut = ap₂ bit_and fs within_is ∙ cut (fronts x v) gap ∙ ap mask_l (take_fronts v x gap)

  abbrev all : List ℕ
  all = between text start (at + gap)

  newlines_are : look.newlines + count_ones ended ≡ newline_count all
  newlines_are =
      ap₂ (λ a b. a + b) is.newlines (ap count_ones ended_is ∙ ones_newlines part)
      ∙ sym (newlines_over (between text start at) part)
      ∙ ap newline_count (sym (more start from))

  fronts_are : look.fronts + count_ones (bit_and lines.fronts within) ≡ front_count true all
  fronts_are =
      ap₂ (λ a b. a + b) is.fronts (ap count_ones fronts_cut ∙ ones_fronts part x ∙ ap (λ y. front_count y part) blank)
      ∙ sym (fronts_over (between text start at) part true)
      ∙ ap (front_count true) (sym (more start from))

  comments_are : look.comments + count_ones (bit_and (bit_and lines.fronts within) marked) ≡ mark_count is_mark true all
  comments_are =
      let those = ap₂ bit_and fronts_cut ms ∙ marks_cut is_mark v x gap in
      ap₂ (λ a b. a + b) is.comments (ap count_ones those ∙ ones_marks is_mark part x ∙ ap (λ y. mark_count is_mark y part) blank)
      ∙ sym (marks_over is_mark (between text start at) part true)
      ∙ ap (mark_count is_mark true) (sym (more start from))

  -- the sums are no greater than the text
  long : length all ≤ length text
  long = length_stretch text start (at + gap) (omega (arith, from)) (omega (arith, room, few))

  pub newlines_fit : look.newlines + count_ones ended ≤ length text
  newlines_fit = omega (arith, newlines_are, newlines_within all, long)

  pub fronts_fit : look.fronts + count_ones (bit_and lines.fronts within) ≤ length text
  fronts_fit = omega (arith, fronts_are, fronts_within all true, long)

  pub comments_fit : look.comments + count_ones (bit_and (bit_and lines.fronts within) marked) ≤ length text
  comments_fit = omega (arith, comments_are, marks_within is_mark all true, long)

  -- a line begins at the stop, which is before the new place, and goes on there
  record Stands (stop : ℕ) : Type 0 where
    pub low : start ≤ stop
    pub order : stop ≤ at + gap
    pub begun : start < stop → get_or text (stop - 1) 0 ≡ newline
    pub on : newline_count (between text stop (at + gap)) ≡ 0

  -- where no newline stands in the part, the line goes on
  stays : ended ≡ 0 → Stands look.stop
  stays none = record {
    low = is.low;
    order = omega (arith, is.order);
    begun = is.begun;
    on =
        ap newline_count (more look.stop is.order)
        ∙ newlines_over (between text look.stop at) part
        ∙ ap₂ (λ a b. a + b) is.on (no_newline part (sym ended_is ∙ none));
  }

  -- else the line begins behind the last of them
  begins : 0 < ended → Stands (at + (64 - count_leading_zeros 64 ended))
  begins some =
      let lt : newlines part < 2 ^ gap = omega (arith, mask_l-lt (map (λ b. b == newline) part), ap (λ k. 2 ^ k) (length-map part (λ b. b == newline) ∙ length-part)) in
      let most : 2 ^ gap ≤ 2 ^ 64 = pow_mono {i = gap} {j = 64} (omega (arith, few)) in
      let top = leading_top 64 ended some (omega (arith, ended_is, lt, most)) in
      behind top.0 (omega (arith, top.1)) (omega (arith, ended_is, top.2)) (omega (arith, ended_is, top.3))
    where
      behind : (j : ℕ) → 64 - count_leading_zeros 64 ended ≡ suc j → 2 ^ j ≤ newlines part → newlines part < 2 ^ suc j → Stands (at + (64 - count_leading_zeros 64 ended))
      behind j e low high =
          let last = last_newline part j low high in
          let inside : j < gap = omega (arith, last.0, length-part) in
          let width : gap ≡ suc j + (gap - suc j) = omega (arith, inside) in
          let left : gap - suc j ≡ at + gap - (at + suc j) = omega (arith, inside) in
          let rest : drop (suc j) part ≡ between text (at + suc j) (at + gap) =
          ap (drop (suc j)) part_is
          ∙ ap (λ k. drop (suc j) (take k (drop at text))) width
          ∙ drop-take (suc j) (gap - suc j) (drop at text)
          ∙ ap (take (gap - suc j)) (drop-drop (suc j) at text)
          ∙ ap (λ k. take k (drop (at + suc j) text)) left in
          let place : at + (64 - count_leading_zeros 64 ended) - 1 ≡ at + j = omega (arith, e) in
          record {
            low = omega (arith, from);
            order = omega (arith, e, inside);
            begun = λ h. ap (λ k. get_or text k 0) place ∙ sym (get_or-drop at text j 0) ∙ sym (get_or-take gap (drop at text) j 0 inside) ∙ ap (λ u. get_or u j 0) (sym part_is) ∙ last.1;
            on = ap (λ k. newline_count (between text (at + k) (at + gap))) e ∙ ap newline_count (sym rest) ∙ last.2;
          }

  -- what the look shows behind them, with such a stop
  abbrev pub over : ℕ → Look
  over stop = record {
    at = look.at + gap;
    stop = stop;
    newlines = look.newlines + count_ones ended;
    fronts = look.fronts + count_ones (bit_and lines.fronts within);
    comments = look.comments + count_ones (bit_and (bit_and lines.fronts within) marked);
  }

  shows : (stop : ℕ) → Stands stop → IsLook is_mark text start (over stop)
  shows stop s = record {
    low = s.low;
    order = s.order;
    high = omega (arith, room, few);
    newlines = newlines_are;
    fronts = fronts_are;
    comments = comments_are;
    begun = s.begun;
    on = s.on;
  }

  pub shows_on : (stop : ℕ) → ended ≡ 0 → stop ≡ look.stop → IsLook is_mark text start (over stop)
  shows_on stop none e = shows stop (subst Stands (sym e) (stays none))

  pub shows_begun : (stop : ℕ) → ended ≢ 0 → stop ≡ at + (64 - count_leading_zeros 64 ended) → IsLook is_mark text start (over stop)
  shows_begun stop some e = shows stop (subst Stands (sym e) (begins (pos_of_ne-zero some)))
