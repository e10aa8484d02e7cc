-- The first newline of a text, as the searches find it.
use Rattle.std.proofs.Common.{◌≡◌, ℕ, suc, zero, ◌+◌, ◌-◌, ◌<◌, ◌≤◌, ◌==◌, Bool, true, false, List, [], ◌∷◌, drop, length, get_or, refl, ap, sym, ◌∙◌, arith, length-drop}
use Rattle.std.proofs.lemmas.List.{drop-drop, get_or-drop}
use Rattle.tokei_bytes.proofs.Blocks.{other_than}
use Rattle.tokei_bytes.specs.OneOf.{is_one_of}
use Rattle.tokei_table_row.specs.Bytes.{line_len}

-- each byte before the place is no newline
pub line_len-at : (t : List ℕ) (n : ℕ) → n < length t → (get_or t n 0 == 10) ≡ true → ((k : ℕ) → k < n → (get_or t k 0 == 10) ≡ false) → n ≡ line_len t
line_len-at [] n l h f = absurd (omega arith)
line_len-at (b ∷ t) zero l h f = rw h refl
line_len-at (b ∷ t) (suc n) l h f = rw (f zero (omega arith)) (ap suc (line_len-at t n (omega arith) h (λ k i. f (suc k) (omega arith))))

pub not_true : (x : Bool) → (x ≡ true → ⊥) → x ≡ false
not_true true h = absurd (h refl)
not_true false h = refl

-- no newline stands at the first n places
pub line_len-behind : (t : List ℕ) (n : ℕ) → n ≤ length t → ((k : ℕ) → k < n → (get_or t k 0 == 10) ≡ false) → n + line_len (drop n t) ≡ line_len t
line_len-behind t zero l f = omega arith
line_len-behind [] (suc n) l f = absurd (omega arith)
line_len-behind (b ∷ t) (suc n) l f = rw (f zero (omega arith)) (omega (arith, line_len-behind t n (omega arith) (λ k i. f (suc k) (omega arith))))

-- the first newline from a place on, and what stands behind bytes that are none
pub newline_at : (text : List ℕ) (at end : ℕ) → at ≤ end → end < length text
    → (get_or text end 0 == 10) ≡ true
    → ((k : ℕ) → at ≤ k → k < end → (get_or text k 0 == 10) ≡ false)
    → end ≡ at + line_len (drop at text)
newline_at text at end low high here before =
    let n : ℕ = end - at in
    let place : at + n ≡ end = omega (arith, low) in
    let there : get_or (drop at text) n 0 ≡ get_or text end 0 = get_or-drop at text n 0 ∙ ap (λ k. get_or text k 0) place in
    let long : n < length (drop at text) = omega (arith, length-drop at text, low, high) in
    let is : n ≡ line_len (drop at text) =
    line_len-at (drop at text) n long (ap (λ b. b == 10) there ∙ here)
    (λ k i. ap (λ b. b == 10) (get_or-drop at text k 0) ∙ before (at + k) (omega arith) (omega (arith, i, low))) in
    omega (arith, is, low)

pub newline_behind : (text : List ℕ) (at end : ℕ) → at ≤ end → end ≤ length text
    → ((k : ℕ) → at ≤ k → k < end → (get_or text k 0 == 10) ≡ false)
    → end + line_len (drop end text) ≡ at + line_len (drop at text)
newline_behind text at end low high before =
    let n : ℕ = end - at in
    let place : at + n ≡ end = omega (arith, low) in
    let there : drop n (drop at text) ≡ drop end text = drop-drop n at text ∙ ap (λ m. drop m text) place in
    let is : n + line_len (drop n (drop at text)) ≡ line_len (drop at text) =
    line_len-behind (drop at text) n (omega (arith, length-drop at text, low, high))
    (λ k i. ap (λ b. b == 10) (get_or-drop at text k 0) ∙ before (at + k) (omega arith) (omega (arith, i, low))) in
    omega (arith, is, ap line_len there, low)

pub drop_none : {A : Type 0} (xs : List A) → drop 0 xs ≡ xs
drop_none [] = refl
drop_none (x ∷ xs) = refl

-- no newline stands before the place to which the block was searched
pub sought : (text : List ℕ) (at near : ℕ) → at ≤ near → near ≤ length text → ((p : ℕ) → at ≤ p → p < near → is_one_of (10 ∷ 10 ∷ 10 ∷ 10 ∷ []) (get_or text p 0) ≡ false)
    → near + line_len (drop near text) ≡ at + line_len (drop at text)
sought text at near low within passed = newline_behind text at near low within (λ k i j. other_than _ 10 (passed k i j))

-- so where none stands in it, the line ends as it does from the block's end on
pub ended : (text : List ℕ) (at near end : ℕ) → near ≡ end → near + line_len (drop near text) ≡ at + line_len (drop at text) → end + line_len (drop end text) ≡ at + line_len (drop at text)
ended text at near end is behind = ap (λ m. m + line_len (drop m text)) (sym is) ∙ behind
