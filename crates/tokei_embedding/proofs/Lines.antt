-- The first line of a text, and the lines behind it.
use Rattle.std.proofs.Common.{◌≡◌, ℕ, suc, zero, ◌+◌, ◌-◌, ◌<◌, min, append_assoc, Bool, true, false, ◌==◌, cond, List, [], ◌∷◌, ◌++◌, length, take, drop, get_or, refl, sym, ◌∙◌, ap, arith}
use Rattle.std.proofs.lemmas.List.{take_rest, drop_min}
use Rattle.tokei_table_row.specs.Bytes.{trim_start, begins}
use Rattle.tokei_embedding.specs.DocComments.{in_front, lines_of, first_line, marked_len, doc_text, unmarked}

pub first_line-at : (t : List ℕ) (k : ℕ) → k < length t → (get_or t k 0 == 10) ≡ true → ((j : ℕ) → j < k → (get_or t j 0 == 10) ≡ false) → take (suc k) t ≡ first_line t
first_line-at [] k l h before = absurd (omega arith)
first_line-at (b ∷ t) zero l h before = sym (ap (λ x. cond x (b ∷ []) (b ∷ first_line t)) h)
first_line-at (b ∷ t) (suc k) l h before =
    let rest : take (suc k) t ≡ first_line t = first_line-at t k (omega arith) h (λ j i. before (suc j) (omega arith)) in
    let here : (b == 10) ≡ false = before 0 (omega arith) in
    ap (λ w. b ∷ w) rest ∙ sym (ap (λ x. cond x (b ∷ []) (b ∷ first_line t)) here)

pub first_line-all : (t : List ℕ) → ((j : ℕ) → j < length t → (get_or t j 0 == 10) ≡ false) → t ≡ first_line t
first_line-all [] nowhere = refl
first_line-all (b ∷ t) nowhere =
    let rest : t ≡ first_line t = first_line-all t (λ j i. nowhere (suc j) (omega arith)) in
    let here : (b == 10) ≡ false = nowhere 0 (omega arith) in
    ap (λ w. b ∷ w) rest ∙ sym (ap (λ x. cond x (b ∷ []) (b ∷ first_line t)) here)

split_step : (x : Bool) (b : ℕ) (t : List ℕ)
    → in_front b (lines_of t) ≡ (b ∷ first_line t) ∷ lines_of (drop (length (first_line t)) t)
    → cond x ((b ∷ []) ∷ lines_of t) (in_front b (lines_of t))
    ≡ cond x (b ∷ []) (b ∷ first_line t)
    ∷ lines_of (drop (length (cond x (b ∷ []) (b ∷ first_line t))) (b ∷ t))
split_step true b t h = refl
split_step false b t h = h

lines_split : (b : ℕ) (t : List ℕ) → lines_of (b ∷ t) ≡ first_line (b ∷ t) ∷ lines_of (drop (length (first_line (b ∷ t))) (b ∷ t))
lines_split b [] = split_step (b == 10) b [] refl
lines_split b (c ∷ t) = split_step (b == 10) b (c ∷ t) (ap (in_front b) (lines_split c t))

-- a text that isn't empty is its first line and the lines behind it
pub lines_first : (t line : List ℕ) → 0 < length t → line ≡ first_line t → lines_of t ≡ line ∷ lines_of (drop (length line) t)
lines_first [] line l e = absurd (omega arith)
lines_first (b ∷ t) line l e = lines_split b t ∙ ap (λ w. w ∷ lines_of (drop (length w) (b ∷ t))) (sym e)

pub marked-stops : (mark t line : List ℕ) → 0 < length t → line ≡ first_line t → begins mark (trim_start line) ≡ false → marked_len mark (lines_of t) ≡ 0
marked-stops mark t line l e h = ap (marked_len mark) (lines_first t line l e) ∙ ap (λ x. cond x (length line + marked_len mark (lines_of (drop (length line) t))) 0) h

pub marked-goes : (mark t line : List ℕ) → 0 < length t → line ≡ first_line t
    → begins mark (trim_start line) ≡ true
    → marked_len mark (lines_of t) ≡ length line + marked_len mark (lines_of (drop (length line) t))
marked-goes mark t line l e h = ap (marked_len mark) (lines_first t line l e) ∙ ap (λ x. cond x (length line + marked_len mark (lines_of (drop (length line) t))) 0) h

pub doc_text-goes : (t line : List ℕ) → 0 < length t → line ≡ first_line t → doc_text t ≡ drop 3 (trim_start line) ++ doc_text (drop (length line) t)
doc_text-goes t line l e = ap unmarked (lines_first t line l e)

-- one more line of a block is read
pub doc_text-step : (block said said' rest line solid : List ℕ) (m : ℕ)
    → doc_text block ≡ said ++ doc_text rest → 0 < length rest → line ≡ first_line rest
    → solid ≡ trim_start line → m ≡ min (length solid) 3
    → said' ≡ said ++ take (length solid - m) (drop m solid)
    → doc_text block
    ≡ said' ++ doc_text (take (length rest - length line) (drop (length line) rest))
doc_text-step block said said' rest line solid m inv l e s n i =
    let swap : min (length solid) 3 ≡ min 3 (length solid) = omega arith in
    let word : take (length solid - m) (drop m solid) ≡ drop 3 (trim_start line) = take_rest solid m ∙ ap (λ k. drop k solid) (n ∙ swap) ∙ drop_min 3 solid ∙ ap (drop 3) s in
    inv ∙ ap (λ w. said ++ w) (doc_text-goes rest line l e) ∙ sym (append_assoc said (drop 3 (trim_start line)) (doc_text (drop (length line) rest)))
    ∙ ap (λ w. w ++ doc_text (drop (length line) rest)) (ap (λ w. said ++ w) (sym word) ∙ sym i)
    ∙ ap (λ w. said' ++ doc_text w) (sym (take_rest rest (length line)))
