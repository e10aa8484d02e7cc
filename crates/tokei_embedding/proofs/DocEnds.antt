-- Where a block of doc comments ends, seen from a place inside it.
use Rattle.std.proofs.Common.{◌≡◌, ℕ, suc, zero, ◌+◌, ◌-◌, ◌<◌, ◌≤◌, ◌⊎◌, inl, inr, Bool, true, false, List, [], ◌∷◌, length, drop, refl, ◌∙◌, ap, arith, length-drop}
use Rattle.std.proofs.lemmas.Bool.{cases_lt}
use Rattle.std.proofs.lemmas.List.{drop-drop}
use Rattle.tokei_table_row.specs.Bytes.{trim_start, begins}
use Rattle.tokei_embedding.proofs.DocLaws.{first_line_some, line_below, stands_behind}
use Rattle.tokei_embedding.proofs.Lines.{marked-stops, marked-goes}
use Rattle.tokei_embedding.proofs.NextDocs.{drop_first}
use Rattle.tokei_embedding.specs.DocComments.{first_line, marked_len, lines_of}
use Rattle.tokei_embedding.specs.Remembered.{Sought, IsDocEnd}

-- the length of the block at the front of a text
block_len : List ℕ → List ℕ → ℕ
block_len mark t = marked_len mark (lines_of t)

-- the block from a place in its first line takes the rest of that line and the same lines behind it
in_first : (mark : List ℕ) (b : ℕ) (t : List ℕ) (k : ℕ) → k < length (first_line (b ∷ t)) → k ≤ length t
    → begins mark (trim_start (first_line (b ∷ t))) ≡ true → begins mark (trim_start (first_line (drop k (b ∷ t)))) ≡ true
    → k + block_len mark (drop k (b ∷ t)) ≡ block_len mark (b ∷ t)
unfolding block_len
in_first mark b t k inside within first here =
    let text = b ∷ t in
    let line = first_line text in
    let rest = drop k text in
    let some : 0 < length rest = omega (arith, within, length-drop k text) in
    let rest_len : length (first_line rest) ≡ length line - k = ap length (drop_first k text inside) ∙ length-drop k line in
    let whole : block_len mark text ≡ length line + block_len mark (drop (length line) text) = marked-goes mark text line (omega arith) refl first in
    let part : block_len mark rest ≡ length (first_line rest) + block_len mark (drop (length (first_line rest)) rest) = marked-goes mark rest (first_line rest) some refl here in
    let at : k + length (first_line rest) ≡ length line = omega (arith, rest_len, inside) in
    let behind : drop (length (first_line rest)) rest ≡ drop (length line) text = drop-drop (length (first_line rest)) k text ∙ ap (λ n. drop n text) at in
    omega (arith, whole, part, at, ap (block_len mark) behind)

-- the block from a place behind its first line
behind_first : (mark : List ℕ) (b : ℕ) (t : List ℕ) (k : ℕ) → length (first_line (b ∷ t)) ≤ k
    → begins mark (trim_start (first_line (b ∷ t))) ≡ true
    → (k - length (first_line (b ∷ t)) + block_len mark (drop k (b ∷ t)) ≡ block_len mark (drop (length (first_line (b ∷ t))) (b ∷ t)))
    → k + block_len mark (drop k (b ∷ t)) ≡ block_len mark (b ∷ t)
unfolding block_len
behind_first mark b t k low first ends =
    omega (arith, ends, low, marked-goes mark (b ∷ t) (first_line (b ∷ t)) (omega arith) refl first)

-- the induction: what holds of the lines behind the first one holds of all
IsInside : List ℕ → List ℕ → Type 0
IsInside mark t = (k : ℕ) → k < block_len mark t → begins mark (trim_start (first_line (drop k t))) ≡ true
    → k + block_len mark (drop k t) ≡ block_len mark t

inside_step : (mark : List ℕ) (b : ℕ) (t : List ℕ) → IsInside mark (drop (length (first_line (b ∷ t))) (b ∷ t)) → IsInside mark (b ∷ t)
unfolding block_len IsInside
inside_step mark b t ih k inside here = by (begins mark (trim_start (first_line (b ∷ t)))) refl
  where
    place : begins mark (trim_start (first_line (b ∷ t))) ≡ true → (k < length (first_line (b ∷ t))) ⊎ (length (first_line (b ∷ t)) ≤ k)
        → k + block_len mark (drop k (b ∷ t)) ≡ block_len mark (b ∷ t)
    place first (inl low) = in_first mark b t k low (omega (arith, low, line_below (b ∷ t))) first here
    place first (inr high) =
        let size = length (first_line (b ∷ t)) in
        let at : size + (k - size) ≡ k = omega (arith, high) in
        let same : drop (k - size) (drop size (b ∷ t)) ≡ drop k (b ∷ t) = drop-drop (k - size) size (b ∷ t) ∙ ap (λ m. drop m (b ∷ t)) at in
        let there : begins mark (trim_start (first_line (drop (k - size) (drop size (b ∷ t))))) ≡ true = ap (λ w. begins mark (trim_start (first_line w))) same ∙ here in
        let goes : block_len mark (b ∷ t) ≡ size + block_len mark (drop size (b ∷ t)) = marked-goes mark (b ∷ t) (first_line (b ∷ t)) (omega arith) refl first in
        let ends : k - size + block_len mark (drop (k - size) (drop size (b ∷ t))) ≡ block_len mark (drop size (b ∷ t)) = ih (k - size) (omega (arith, inside, goes, high)) there in
        behind_first mark b t k high first (omega (arith, ends, ap (block_len mark) same))

    by : (x : Bool) → begins mark (trim_start (first_line (b ∷ t))) ≡ x → k + block_len mark (drop k (b ∷ t)) ≡ block_len mark (b ∷ t)
    by true first = place first (cases_lt k (length (first_line (b ∷ t))))
    by false none = absurd (omega (arith, inside, marked-stops mark (b ∷ t) (first_line (b ∷ t)) (omega arith) refl none))

within_block : (mark : List ℕ) (n : ℕ) (t : List ℕ) → length t ≤ n → IsInside mark t
unfolding block_len IsInside
within_block mark n [] fits = λ k inside here. absurd (omega (arith, inside))
within_block mark zero (b ∷ t) fits = absurd (omega (arith, fits))
within_block mark (suc n) (b ∷ t) fits =
    inside_step mark b t (within_block mark n (drop (length (first_line (b ∷ t))) (b ∷ t)) (omega (arith, length-drop (length (first_line (b ∷ t))) (b ∷ t), first_line_some b t, fits)))

-- the block that opens at a place ends where each that opens inside it does
pub doc_end : (s : Sought) (p : ℕ) → IsDocEnd s p (p + marked_len s.token (lines_of (drop p s.text)))
unfolding block_len IsInside
doc_end s p k low high is =
    let rest = drop p s.text in
    let at : p + (k - p) ≡ k = omega (arith, low) in
    let same : drop (k - p) rest ≡ drop k s.text = drop-drop (k - p) p s.text ∙ ap (λ m. drop m s.text) at in
    let here : begins s.token (trim_start (first_line (drop (k - p) rest))) ≡ true =
    ap (λ w. begins s.token (trim_start (first_line w))) same
    ∙ stands_behind (first_line (drop k s.text)) s.token is in
    let ends : k - p + block_len s.token (drop (k - p) rest) ≡ block_len s.token rest = within_block s.token (length rest) rest (omega arith) (k - p) (omega (arith, low, high)) here in
    omega (arith, ends, low, ap (block_len s.token) same)
