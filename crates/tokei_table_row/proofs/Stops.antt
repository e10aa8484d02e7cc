-- The last stop of a text, by its last byte.
use Rattle.std.proofs.Common.{◌≡◌, ℕ, suc, ◌-◌, ◌+◌, ◌<◌, ◌≤◌, Bool, true, false, cond, List, [], ◌∷◌, ◌++◌, length}
use Rattle.std.proofs.Common.{take, get_or, Some, refl, sym, ◌∙◌, ap, arith}
use Rattle.std.proofs.lemmas.List.{take_more, take_all}
use Rattle.tokei_table_row.specs.OuterLines.{is_stop, last_stop, later_or}

push_stop : (b x : ℕ) (t : List ℕ) → last_stop (t ++ x ∷ []) ≡ cond (is_stop x) (Some (length t)) (last_stop t)
    → later_or (is_stop b) (last_stop (t ++ x ∷ []))
    ≡ cond (is_stop x) (Some (suc (length t))) (later_or (is_stop b) (last_stop t))
push_stop b x t h = ap (later_or (is_stop b)) h ∙ by (is_stop x)
  where
    by : (s : Bool) → later_or (is_stop b) (cond s (Some (length t)) (last_stop t))
        ≡ cond s (Some (suc (length t))) (later_or (is_stop b) (last_stop t))
    by true = refl
    by false = refl

last_stop-push : (x : ℕ) (t : List ℕ) → last_stop (t ++ x ∷ []) ≡ cond (is_stop x) (Some (length t)) (last_stop t)
last_stop-push x [] = refl
last_stop-push x (b ∷ t) = push_stop b x t (last_stop-push x t)

split_last : (t : List ℕ) → 0 < length t → t ≡ take (length t - 1) t ++ get_or t (length t - 1) 0 ∷ []
split_last t h =
    let n : length t - 1 + 1 ≡ length t = omega arith in
    let l : length t ≤ length t - 1 + 1 = omega arith in
    let m : length t - 1 < length t = omega arith in
    sym (take_all (length t - 1 + 1) t l) ∙ take_more t (length t - 1) 0 m

pub last_stop-found : (t : List ℕ) → 0 < length t → is_stop (get_or t (length t - 1) 0) ≡ true
    → last_stop t ≡ Some (length (take (length t - 1) t))
last_stop-found t l h =
    ap last_stop (split_last t l) ∙ last_stop-push (get_or t (length t - 1) 0) (take (length t - 1) t)
    ∙ ap (λ s. cond s (Some (length (take (length t - 1) t))) (last_stop (take (length t - 1) t))) h

pub last_stop-before : (t : List ℕ) → 0 < length t → is_stop (get_or t (length t - 1) 0) ≡ false
    → last_stop (take (length t - 1) t) ≡ last_stop t
last_stop-before t l h =
    sym (ap last_stop (split_last t l) ∙ last_stop-push (get_or t (length t - 1) 0) (take (length t - 1) t)
    ∙ ap (λ s. cond s (Some (length (take (length t - 1) t))) (last_stop (take (length t - 1) t))) h)
