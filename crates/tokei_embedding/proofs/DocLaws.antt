-- How far a block of doc comments reaches.
use Rattle.std.proofs.Common.{◌≡◌, ℕ, suc, zero, ◌+◌, ◌<◌, ◌≤◌, Bool, true, false, ◌==◌, cond, List, [], ◌∷◌, length, take, drop, Option, None, Some, option_map, codes, refl, sym, ap, subst, arith, length-drop, length-take, length-append}
use Rattle.tokei_table_row.specs.Bytes.{is_blank, trim_start, begins}
use Rattle.tokei_embedding.proofs.BlockLaws.{begins-fits}
use Rattle.tokei_embedding.proofs.Lines.{marked-goes, doc_text-goes}
use Rattle.tokei_embedding.specs.BlockLaws.{Reaches}
use Rattle.tokei_embedding.specs.DocComments.{DocBlock, doc_block, doc_of, doc_text, unmarked, mark_of, first_line, lines_of, marked_len, in_front}

total : List (List ℕ) → ℕ
total [] = 0
total (line ∷ lines) = length line + total lines

in_front_total : (b : ℕ) (lines : List (List ℕ)) → total (in_front b lines) ≡ suc (total lines)
unfolding total
in_front_total b [] = omega arith
in_front_total b (line ∷ lines) = omega arith

total_step : (x : Bool) (b : ℕ) (t : List ℕ) → total (lines_of t) ≡ length t → total (cond x ((b ∷ []) ∷ lines_of t) (in_front b (lines_of t))) ≡ suc (length t)
unfolding total
total_step true b t h = omega (arith, h)
total_step false b t h = omega (arith, h, in_front_total b (lines_of t))

lines_total : (t : List ℕ) → total (lines_of t) ≡ length t
unfolding total
lines_total [] = refl
lines_total (b ∷ t) = total_step (b == 10) b t (lines_total t)

marked_step : (x : Bool) (n m k : ℕ) → m ≤ k → cond x (n + m) 0 ≤ n + k
marked_step true n m k h = omega arith
marked_step false n m k h = omega arith

marked_below : (mark : List ℕ) (lines : List (List ℕ)) → marked_len mark lines ≤ total lines
unfolding total
marked_below mark [] = omega arith
marked_below mark (line ∷ lines) = marked_step (begins mark (trim_start line)) (length line) (marked_len mark lines) (total lines) (marked_below mark lines)

trim_step : (x : Bool) (b : ℕ) (t : List ℕ) → length (trim_start t) ≤ length t → length (cond x (trim_start t) (b ∷ t)) ≤ suc (length t)
trim_step true b t h = omega arith
trim_step false b t h = omega arith

trim_below : (t : List ℕ) → length (trim_start t) ≤ length t
trim_below [] = omega arith
trim_below (b ∷ t) = trim_step (is_blank b) b t (trim_below t)

unmarked_below : (lines : List (List ℕ)) → length (unmarked lines) ≤ total lines
unfolding total
unmarked_below [] = omega arith
unmarked_below (line ∷ lines) =
    omega (arith, unmarked_below lines, length-append (drop 3 (trim_start line)) (unmarked lines), length-drop 3 (trim_start line), trim_below line)

line_step : (x : Bool) (b : ℕ) (t : List ℕ) → length (first_line t) ≤ length t → length (cond x (b ∷ []) (b ∷ first_line t)) ≤ suc (length t)
line_step true b t h = omega arith
line_step false b t h = omega arith

pub line_below : (t : List ℕ) → length (first_line t) ≤ length t
line_below [] = omega arith
line_below (b ∷ t) = line_step (b == 10) b t (line_below t)

pub first_line_some : (b : ℕ) (t : List ℕ) → 0 < length (first_line (b ∷ t))
first_line_some b t = by (b == 10)
  where
    by : (x : Bool) → 0 < length (cond x (b ∷ []) (b ∷ first_line t))
    by true = omega arith
    by false = omega arith

-- a mark is found where it stands, and has three bytes
Stands : List ℕ → Option (List ℕ) → Type 0
Stands s None = Unit {0}
Stands s (Some mark) = (begins mark s ≡ true) × (length mark ≡ 3)

mark_stands : (line : List ℕ) → Stands (trim_start line) (mark_of line)
unfolding Stands
mark_stands line = by (begins (codes "///") (trim_start line)) (begins (codes "//!") (trim_start line)) refl refl
  where
    by : (x y : Bool) → begins (codes "///") (trim_start line) ≡ x
        → begins (codes "//!") (trim_start line) ≡ y
        → Stands (trim_start line) (cond x (Some (codes "///")) (cond y (Some (codes "//!")) None))
    by true y e f = (e, refl)
    by false true e f = (f, refl)
    by false false e f = tt

-- the mark of a line stands behind its blanks
pub stands_behind : (line mark : List ℕ) → mark_of line ≡ Some mark → begins mark (trim_start line) ≡ true
unfolding Stands
stands_behind line mark e = (subst (Stands (trim_start line)) e (mark_stands line)).0

-- the first line stays whole in a text that is cut behind it
cut_step : (x : Bool) (n b : ℕ) (t : List ℕ)
    → (length (first_line t) ≤ n → first_line (take n t) ≡ first_line t)
    → length (cond x (b ∷ []) (b ∷ first_line t)) ≤ suc n
    → cond x (b ∷ []) (b ∷ first_line (take n t)) ≡ cond x (b ∷ []) (b ∷ first_line t)
cut_step true n b t behind l = refl
cut_step false n b t behind l = ap (λ w. b ∷ w) (behind (omega arith))

cut_line : (n : ℕ) (t : List ℕ) → length (first_line t) ≤ n → first_line (take n t) ≡ first_line t
cut_line zero [] l = refl
cut_line (suc n) [] l = refl
cut_line zero (b ∷ t) l = absurd (omega (arith, l, first_line_some b t))
cut_line (suc n) (b ∷ t) l = cut_step (b == 10) n b t (cut_line n t) l

-- a block whose first line has so many bytes behind its front blanks says three bytes less at least
said_below : (block line : List ℕ) → 0 < length block → line ≡ first_line block → 3 ≤ length (trim_start line) → length (doc_text block) + 3 ≤ length block
said_below block line l e h =
    let behind = drop (length line) block in
    omega (
      arith,
      ap length (doc_text-goes block line l e),
      length-append (drop 3 (trim_start line)) (doc_text behind),
      length-drop 3 (trim_start line),
      h,
      trim_below line,
      unmarked_below (lines_of behind),
      lines_total behind,
      length-drop (length line) block,
      ap length e,
      line_below block,
    )

marked_reaches : (c : ℕ) (t mark : List ℕ) → begins mark (trim_start (first_line (c ∷ t))) ≡ true
    → length mark ≡ 3
    → Reaches (marked_len mark (lines_of (c ∷ t)))
    (doc_text (take (marked_len mark (lines_of (c ∷ t))) (c ∷ t))) (c ∷ t)
marked_reaches c t mark h three =
    let rest = c ∷ t in
    let line = first_line rest in
    let n = marked_len mark (lines_of rest) in
    let goes : n ≡ length line + marked_len mark (lines_of (drop (length line) rest)) = marked-goes mark rest line (omega arith) refl h in
    let some : 0 < n = omega (arith, goes, first_line_some c t) in
    let within : n ≤ length rest = omega (arith, marked_below mark (lines_of rest), lines_total rest) in
    let long : 3 ≤ length (trim_start line) = omega (arith, three, begins-fits mark (trim_start line) h) in
    let said : length (doc_text (take n rest)) + 3 ≤ length (take n rest) =
    said_below (take n rest) line (omega (arith, some, within, length-take n rest))
    (sym (cut_line n rest (omega (arith, goes)))) long in
    record { some = some; within = within; holds = omega (arith, said, length-take n rest) }

doc_step : (c : ℕ) (t : List ℕ) (b : DocBlock) (o : Option (List ℕ))
    → Stands (trim_start (first_line (c ∷ t))) o
    → option_map (λ mark. doc_of (c ∷ t) (marked_len mark (lines_of (c ∷ t)))) o ≡ Some b
    → Reaches b.size b.contents (c ∷ t)
unfolding Stands
doc_step c t b None h e = absurd (cc)
doc_step c t b (Some mark) h e = subst Within e (marked_reaches c t mark h.0 h.1)
  where
    Within : Option DocBlock → Type 0
    Within None = Unit {0}
    Within (Some f) = Reaches f.size f.contents (c ∷ t)

no_block : (b : DocBlock) → None ≡ Some b → ⊥
no_block b e = cc

pub doc_reach : (rest : List ℕ) (b : DocBlock) → doc_block rest ≡ Some b → Reaches b.size b.contents rest
doc_reach [] b e = absurd (no_block b e)
doc_reach (c ∷ t) b e = doc_step c t b (mark_of (first_line (c ∷ t))) (mark_stands (first_line (c ∷ t))) e
