-- A list that is cut at an element: what stands before it, and what is cut behind it.
use Rattle.std.proofs.Common.{◌≡◌, ℕ, ◌+◌, ◌-◌, ◌<◌, ◌==◌, List, [], ◌∷◌, ◌++◌, length, take, drop, get_or, false, All, sym, ap, ◌∙◌, eq-eqb, subst, ◌≤◌}
use Rattle.std.specs.List.{slice_split}
use Rattle.std.proofs.lemmas.List.{take-append-drop, drop_more, take_rest, take_all}
use Rattle.std.proofs.lemmas.List.Splits.{slice_split_at, slice_split_none}

pub cut_here : (at : ℕ) (xs : List ℕ) (i c : ℕ) → i < length xs → c ≡ get_or xs i c → c ≡ at
    → All (λ x. (x == at) ≡ false) (take i xs)
    → slice_split (λ x. x == at) xs
    ≡ take i xs ∷ slice_split (λ x. x == at) (take (length xs - (i + 1)) (drop (i + 1) xs))
cut_here at xs i c h is e before =
    let whole : xs ≡ take i xs ++ c ∷ drop (i + 1) xs = sym (take-append-drop i xs) ∙ ap (λ (r : List ℕ). take i xs ++ r) (drop_more xs i c h ∙ ap (λ (y : ℕ). y ∷ drop (i + 1) xs) (sym is)) in
    let rest : drop (i + 1) xs ≡ take (length xs - (i + 1)) (drop (i + 1) xs) = sym (take_rest xs (i + 1)) in
    ap (slice_split (λ x. x == at)) whole ∙ slice_split_at (λ x. x == at) (take i xs) c (drop (i + 1) xs) before (eq-eqb c at e) ∙ ap (λ (r : List ℕ). take i xs ∷ slice_split (λ x. x == at) r) rest

pub cut_nowhere : (at : ℕ) (xs : List ℕ) (i : ℕ) → length xs ≤ i → All (λ x. (x == at) ≡ false) (take i xs) → slice_split (λ x. x == at) xs ≡ xs ∷ []
cut_nowhere at xs i h before = slice_split_none (λ x. x == at) xs (let P : List ℕ → Type 0 = λ ys. All (λ x. (x == at) ≡ false) ys in subst P (take_all i xs h) before)
