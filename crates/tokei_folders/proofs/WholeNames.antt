-- The names of a place that is one whole name.
use Rattle.std.proofs.Common.{◌≡◌, ℕ, ◌||◌, List, [], ◌∷◌, Bool, true, false, not, cond, filter, refl, ap, ◌∙◌}
use Rattle.std.specs.List.{list_any, slice_split, onto_first}
use Rattle.tokei_folders.specs.Tree.{Names, names_of, is_name, is_slash, is_whole_name}
use Rattle.tokei_folders.proofs.NameOrder.{left_of_and, right_of_and}

-- no slash is in it
abbrev pub clean : List ℕ → Bool
clean n = not (list_any is_slash n)

uncut_by : (b : Bool) (x : ℕ) (parts : Names) (xs : List ℕ) → (b || list_any is_slash xs) ≡ false
    → (list_any is_slash xs ≡ false → parts ≡ xs ∷ [])
    → cond b ([] ∷ parts) (onto_first x parts) ≡ (x ∷ xs) ∷ []
uncut_by true x parts xs h ih = absurd (cc)
uncut_by false x parts xs h ih = ap (onto_first x) (ih h)

uncut : (n : List ℕ) → list_any is_slash n ≡ false → slice_split is_slash n ≡ n ∷ []
uncut [] h = refl
uncut (x ∷ xs) h = uncut_by (is_slash x) x (slice_split is_slash xs) xs h (uncut xs)

unslashed : (b : Bool) → not b ≡ true → b ≡ false
unslashed true e = absurd (cc)
unslashed false e = refl

-- a whole name is a place's one name
pub one_name : (n : List ℕ) → is_whole_name n ≡ true → names_of n ≡ n ∷ []
unfolding names_of
one_name n h =
    ap (filter is_name) (uncut n (unslashed (list_any is_slash n) (right_of_and (is_name n) (clean n) h))) ∙ ap (λ (b : Bool). cond b (n ∷ []) []) (left_of_and (is_name n) (clean n) h)
