-- A blank before a doc comment.
use Rattle.std.proofs.Common.{◌≡◌, ℕ, suc, ◌+◌, ◌<◌, ◌≤◌, ◌⊎◌, inl, inr, true, false, ◌==◌, cond, List, [], ◌∷◌, length, drop, get_or, Option, None, Some, option_map, is_some, refl, sym, ◌∙◌, ap, arith}
use Rattle.std.proofs.Math.Seq.{drop-cons}
use Rattle.std.proofs.lemmas.Bool.{cases_lt}
use Rattle.tokei_table_row.specs.Bytes.{is_blank, trim_start}
use Rattle.tokei_embedding.specs.DocComments.{DocBlock, doc_block, doc_of, lines_of, first_line, front_mark, mark_of, marked_len}

mark_behind : (b : ℕ) (t : List ℕ) → is_blank b ≡ true → (b == 10) ≡ false → mark_of (first_line (b ∷ t)) ≡ mark_of (first_line t)
mark_behind b t h n =
    ap (λ x. mark_of (cond x (b ∷ []) (b ∷ first_line t))) n ∙ ap (λ x. front_mark (cond x (trim_start (first_line t)) (b ∷ first_line t))) h

some_of : (f : List ℕ → DocBlock) (o : Option (List ℕ)) → is_some (option_map f o) ≡ is_some o
some_of f None = refl
some_of f (Some m) = refl

opens_by_mark : (t : List ℕ) → is_some (doc_block t) ≡ is_some (mark_of (first_line t))
opens_by_mark t = some_of (λ mark. doc_of t (marked_len mark (lines_of t))) (mark_of (first_line t))

pub blank_opens : (b : ℕ) (t : List ℕ) → is_blank b ≡ true → (b == 10) ≡ false → is_some (doc_block (b ∷ t)) ≡ is_some (doc_block t)
blank_opens b t h n = opens_by_mark (b ∷ t) ∙ ap is_some (mark_behind b t h n) ∙ sym (opens_by_mark t)

-- where the mark stays the same to a blank, it does so to the byte behind it
pub mark_over : (t : List ℕ) (from i : ℕ) → i < length t → ¬ (get_or t i 0 ≡ 10) → is_blank (get_or t i 0) ≡ true
    → ((k : ℕ) → from ≤ k → k ≤ i → mark_of (first_line (drop k t)) ≡ mark_of (first_line (drop i t)))
    → (k : ℕ) → from ≤ k → k ≤ i + 1 → mark_of (first_line (drop k t)) ≡ mark_of (first_line (drop (i + 1) t))
mark_over t from i l n h same k low high = by (cases_lt i k)
  where
    apart : (b : ℕ) → ¬ (b ≡ 10) → (b == 10) ≡ false
    apart b h = grind arith

    next : mark_of (first_line (drop i t)) ≡ mark_of (first_line (drop (i + 1) t))
    next =
        let e : suc i ≡ i + 1 = omega arith in
        ap (λ w. mark_of (first_line w)) (drop-cons t i 0 l) ∙ mark_behind (get_or t i 0) (drop (suc i) t) h (apart (get_or t i 0) n) ∙ ap (λ j. mark_of (first_line (drop j t))) e

    by : (i < k) ⊎ (k ≤ i) → mark_of (first_line (drop k t)) ≡ mark_of (first_line (drop (i + 1) t))
    by (inl m) = let e : k ≡ i + 1 = omega arith in ap (λ j. mark_of (first_line (drop j t))) e
    by (inr m) = same k low m ∙ next
