-- Cutting marks whose bytes stand in one line.
use Rattle.std.proofs.Common.{◌≡◌, ℕ, suc, ◌+◌, ◌<◌, ◌==◌, Bool, true, false, not, ◌&&◌, cond, List, [], ◌∷◌, ◌++◌, length, drop, refl, sym, ◌∙◌, ap, append_assoc, arith}
use Rattle.std.proofs.lemmas.List.{append-nil, drop-drop}
use Rattle.tokei_table.specs.Sound.{no_newline}
use Rattle.tokei_parts.specs.Items.{Mode}
use Rattle.tokei_parts.specs.Modes.{Chain, innermost, Mark, inside, of_choice, closing_from, closing}
use Rattle.tokei_parts.specs.Modes.Mark.{byte_at}
use Rattle.tokei_parts.specs.Parts.{cut}
use Rattle.tokei_parts.specs.Running.{running}
use Rattle.tokei_parts.specs.Stretches.{one_if}

-- the first byte is no newline, and neither are the others
pub no_newline_first : (b : ℕ) (t : List ℕ) → no_newline (b ∷ t) ≡ true → (b == 10) ≡ false
no_newline_first b t h = by_test (b == 10) h
  where
    by_test : (x : Bool) → (not x && no_newline t) ≡ true → x ≡ false
    by_test true h = cc
    by_test false h = refl

pub no_newline_later : (b : ℕ) (t : List ℕ) → no_newline (b ∷ t) ≡ true → no_newline t ≡ true
no_newline_later b t h = by_test (b == 10) h
  where
    by_test : (x : Bool) → (not x && no_newline t) ≡ true → no_newline t ≡ true
    by_test true h = cc
    by_test false h = h

cut_one : (m : Mode) (s : List ℕ) (e : Mode) (b : ℕ) (x : Bool) (c : Chain) (ms : List Mark) → (b == 10) ≡ false → cut m s e (byte_at b x c ∷ ms) ≡ cut m (s ++ b ∷ []) (innermost c) ms
unfolding cut
cut_one m s e b x c ms h = ap (λ y. cond y (record { begun = m; bytes = s ++ b ∷ []; ended = innermost c } ∷ cut (innermost c) [] (innermost c) ms) (cut m (s ++ b ∷ []) (innermost c) ms)) h

-- a newline ends the part, whether or not a choice begins at it
pub cut_newline : (m : Mode) (s : List ℕ) (e : Mode) (x : Bool) (c : Chain) (ms : List Mark)
    → cut m s e (byte_at 10 x c ∷ ms)
    ≡ record { begun = m; bytes = s ++ 10 ∷ []; ended = innermost c }
    ∷ cut (innermost c) [] (innermost c) ms
unfolding cut
cut_newline m s e x c ms = refl

-- bytes inside a choice that stand in one line
pub cut_inside : (m : Mode) (s : List ℕ) (c : Chain) (p : List ℕ) (ms : List Mark) → no_newline p ≡ true → cut m s (innermost c) (inside c p ++ ms) ≡ cut m (s ++ p) (innermost c) ms
cut_inside m s c [] ms h = ap (λ w. cut m w (innermost c) ms) (sym (append-nil s))
cut_inside m s c (b ∷ t) ms h =
    cut_one m s (innermost c) b false c (inside c t ++ ms) (no_newline_first b t h)
    ∙ cut_inside m (s ++ b ∷ []) c t ms (no_newline_later b t h)
    ∙ ap (λ w. cut m w (innermost c) ms) (append_assoc s (b ∷ []) t)

-- a choice that stands in one line
pub cut_choice : (m : Mode) (s : List ℕ) (e : Mode) (c : Chain) (p : List ℕ) (ms : List Mark) → 0 < length p → no_newline p ≡ true → cut m s e (of_choice c p ++ ms) ≡ cut m (s ++ p) (innermost c) ms
cut_choice m s e c [] ms l h = absurd (omega arith)
cut_choice m s e c (b ∷ t) ms l h =
    cut_one m s e b true c (inside c t ++ ms) (no_newline_first b t h)
    ∙ cut_inside m (s ++ b ∷ []) c t ms (no_newline_later b t h)
    ∙ ap (λ w. cut m w (innermost c) ms) (append_assoc s (b ∷ []) t)

cut_closing_from : (x : Bool) (m : Mode) (s : List ℕ) (e : Mode) (c d : Chain) (p : List ℕ)
    (ms : List Mark)
    → 0 < length p → no_newline p ≡ true
    → cut m s e (closing_from x c d p ++ ms) ≡ cut m (s ++ p) (innermost d) ms
cut_closing_from x m s e c d [] ms l h = absurd (omega arith)
cut_closing_from x m s e c d (b ∷ []) ms l h = cut_one m s e b x d ms (no_newline_first b [] h)
cut_closing_from x m s e c d (b ∷ b' ∷ t) ms l h =
    cut_one m s e b x c (closing_from false c d (b' ∷ t) ++ ms) (no_newline_first b (b' ∷ t) h)
    ∙ cut_closing_from false m (s ++ b ∷ []) (innermost c) c d (b' ∷ t) ms (omega arith) (no_newline_later b (b' ∷ t) h)
    ∙ ap (λ w. cut m w (innermost d) ms) (append_assoc s (b ∷ []) (b' ∷ t))

-- a closer that stands in one line
pub cut_closing : (m : Mode) (s : List ℕ) (e : Mode) (c d : Chain) (p : List ℕ) (ms : List Mark)
    → 0 < length p → no_newline p ≡ true
    → cut m s e (closing c d p ++ ms) ≡ cut m (s ++ p) (innermost d) ms
cut_closing m s e c d p ms l h = cut_closing_from true m s e c d p ms l h

-- The same of stretches. A newline that a choice of its own takes adds one choice.
running_one : (m : Mode) (s : List ℕ) (n : ℕ) (t : List ℕ) (b : ℕ) (x : Bool) (c : Chain)
    (ms : List Mark)
    → (b == 10) ≡ false
    → running m s n t (byte_at b x c ∷ ms) ≡ running m (s ++ b ∷ []) (n + one_if x) (drop 1 t) ms
unfolding running
running_one m s n t b x c ms h =
    ap
    (λ y. cond y
    (record {
      begun = m;
      reach = s ++ b ∷ [];
      size = length (s ++ b ∷ []);
      choices = n + one_if x;
    }
    ∷ running (innermost c) [] 0 (drop 1 t) ms)
    (running m (s ++ b ∷ []) (n + one_if x) (drop 1 t) ms))
    h

pub running_newline : (m : Mode) (s : List ℕ) (n : ℕ) (t : List ℕ) (x : Bool) (c : Chain)
    (ms : List Mark)
    → running m s n t (byte_at 10 x c ∷ ms)
    ≡ record {
      begun = m;
      reach = s ++ 10 ∷ [];
      size = length (s ++ 10 ∷ []);
      choices = n + one_if x;
    }
    ∷ running (innermost c) [] 0 (drop 1 t) ms
unfolding running
running_newline m s n t x c ms = refl

drop_more : (n : ℕ) (t : List ℕ) → drop n (drop 1 t) ≡ drop (suc n) t
drop_more n t = let one : 1 + n ≡ suc n = omega arith in drop-drop n 1 t ∙ ap (λ k. drop k t) one

running_inside : (m : Mode) (s : List ℕ) (n : ℕ) (t : List ℕ) (c : Chain) (p : List ℕ)
    (ms : List Mark)
    → no_newline p ≡ true
    → running m s n t (inside c p ++ ms) ≡ running m (s ++ p) n (drop (length p) t) ms
running_inside m s n t c [] ms h = ap (λ w. running m w n t ms) (sym (append-nil s))
running_inside m s n t c (b ∷ p) ms h =
    let same : n + 0 ≡ n = omega arith in
    running_one m s n t b false c (inside c p ++ ms) (no_newline_first b p h)
    ∙ ap (λ k. running m (s ++ b ∷ []) k (drop 1 t) (inside c p ++ ms)) same
    ∙ running_inside m (s ++ b ∷ []) n (drop 1 t) c p ms (no_newline_later b p h)
    ∙ ap (λ w. running m w n (drop (length p) (drop 1 t)) ms) (append_assoc s (b ∷ []) p)
    ∙ ap (λ w. running m (s ++ b ∷ p) n w ms) (drop_more (length p) t)

pub running_choice : (m : Mode) (s : List ℕ) (n : ℕ) (t : List ℕ) (c : Chain) (p : List ℕ)
    (ms : List Mark)
    → 0 < length p → no_newline p ≡ true
    → running m s n t (of_choice c p ++ ms) ≡ running m (s ++ p) (n + 1) (drop (length p) t) ms
running_choice m s n t c [] ms l h = absurd (omega arith)
running_choice m s n t c (b ∷ p) ms l h =
    running_one m s n t b true c (inside c p ++ ms) (no_newline_first b p h)
    ∙ running_inside m (s ++ b ∷ []) (n + 1) (drop 1 t) c p ms (no_newline_later b p h)
    ∙ ap (λ w. running m w (n + 1) (drop (length p) (drop 1 t)) ms) (append_assoc s (b ∷ []) p)
    ∙ ap (λ w. running m (s ++ b ∷ p) (n + 1) w ms) (drop_more (length p) t)

running_closing_from : (x : Bool) (m : Mode) (s : List ℕ) (n : ℕ) (t : List ℕ) (c d : Chain)
    (p : List ℕ) (ms : List Mark)
    → 0 < length p → no_newline p ≡ true
    → running m s n t (closing_from x c d p ++ ms)
    ≡ running m (s ++ p) (n + one_if x) (drop (length p) t) ms
running_closing_from x m s n t c d [] ms l h = absurd (omega arith)
running_closing_from x m s n t c d (b ∷ []) ms l h = running_one m s n t b x d ms (no_newline_first b [] h)
running_closing_from x m s n t c d (b ∷ b' ∷ p) ms l h =
    let same : n + one_if x + 0 ≡ n + one_if x = omega arith in
    running_one m s n t b x c (closing_from false c d (b' ∷ p) ++ ms) (no_newline_first b (b' ∷ p) h)
    ∙ running_closing_from false m (s ++ b ∷ []) (n + one_if x) (drop 1 t) c d (b' ∷ p) ms (omega arith) (no_newline_later b (b' ∷ p) h)
    ∙ ap (λ k. running m ((s ++ b ∷ []) ++ b' ∷ p) k (drop (length (b' ∷ p)) (drop 1 t)) ms) same
    ∙ ap (λ w. running m w (n + one_if x) (drop (length (b' ∷ p)) (drop 1 t)) ms) (append_assoc s (b ∷ []) (b' ∷ p))
    ∙ ap (λ w. running m (s ++ b ∷ b' ∷ p) (n + one_if x) w ms) (drop_more (length (b' ∷ p)) t)

pub running_closing : (m : Mode) (s : List ℕ) (n : ℕ) (t : List ℕ) (c d : Chain) (p : List ℕ)
    (ms : List Mark)
    → 0 < length p → no_newline p ≡ true
    → running m s n t (closing c d p ++ ms) ≡ running m (s ++ p) (n + 1) (drop (length p) t) ms
running_closing m s n t c d p ms l h = running_closing_from true m s n t c d p ms l h
