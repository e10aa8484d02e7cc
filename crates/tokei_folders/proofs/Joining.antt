-- The names of a place that is joined.
use Rattle.std.proofs.Common.{◌≡◌, ℕ, List, [], ◌∷◌, ◌++◌, Bool, true, false, cond, filter, refl, sym, ap, ◌∙◌, append-nil, append_assoc, arith}
use Rattle.std.proofs.lemmas.Bool.Decides.{nat_tests}
use Rattle.std.specs.List.{slice_split, onto_first}
use Rattle.tokei_folders.specs.Ends.{ends_in, without_last}
use Rattle.tokei_folders.specs.Places.{joined}
use Rattle.tokei_folders.specs.Tree.{Names, is_name, is_slash, names_of}

-- some part comes first
record HasFirst (parts : List (List ℕ)) : Type 0 where
  one : List ℕ
  others : List (List ℕ)
  is : parts ≡ one ∷ others

first_of_onto : (x : ℕ) (parts : List (List ℕ)) → HasFirst (onto_first x parts)
first_of_onto x [] = record { one = x ∷ []; others = []; is = refl }
first_of_onto x (p ∷ ps) = record { one = x ∷ p; others = ps; is = refl }

first_of_cond : (b : Bool) (x : ℕ) (parts : List (List ℕ)) → HasFirst (cond b ([] ∷ parts) (onto_first x parts))
first_of_cond true x parts = record { one = []; others = parts; is = refl }
first_of_cond false x parts = first_of_onto x parts

split_some : (xs : List ℕ) → HasFirst (slice_split is_slash xs)
split_some [] = record { one = []; others = []; is = refl }
split_some (x ∷ xs) = first_of_cond (is_slash x) x (slice_split is_slash xs)

onto_append : (x : ℕ) (parts more : List (List ℕ)) → HasFirst parts → onto_first x (parts ++ more) ≡ onto_first x parts ++ more
onto_append x [] more h = absurd (let e = h.is in cc)
onto_append x (p ∷ ps) more h = refl

seam_step : (b : Bool) (x : ℕ) (parts more : List (List ℕ)) → HasFirst parts → cond b ([] ∷ (parts ++ more)) (onto_first x (parts ++ more)) ≡ cond b ([] ∷ parts) (onto_first x parts) ++ more
seam_step true x parts more h = refl
seam_step false x parts more h = onto_append x parts more h

pub split_seam : (xs ys : List ℕ) → slice_split is_slash (xs ++ 47 ∷ ys) ≡ slice_split is_slash xs ++ slice_split is_slash ys
split_seam [] ys = refl
split_seam (x ∷ xs) ys =
    ap (λ (q : List (List ℕ)). cond (is_slash x) ([] ∷ q) (onto_first x q)) (split_seam xs ys) ∙ seam_step (is_slash x) x (slice_split is_slash xs) (slice_split is_slash ys) (split_some xs)

filter_step : (b : Bool) (x : List ℕ) (xs ys : List (List ℕ)) → cond b (x ∷ (xs ++ ys)) (xs ++ ys) ≡ cond b (x ∷ xs) xs ++ ys
filter_step true x xs ys = refl
filter_step false x xs ys = refl

pub names-append : (xs ys : List (List ℕ)) → filter is_name (xs ++ ys) ≡ filter is_name xs ++ filter is_name ys
names-append [] ys = refl
names-append (x ∷ xs) ys = ap (λ (q : List (List ℕ)). cond (is_name x) (x ∷ q) q) (names-append xs ys) ∙ filter_step (is_name x) x (filter is_name xs) (filter is_name ys)

pub names_of_seam : (xs ys : List ℕ) → names_of (xs ++ 47 ∷ ys) ≡ names_of xs ++ names_of ys
unfolding names_of
names_of_seam xs ys = ap (filter is_name) (split_seam xs ys) ∙ names-append (slice_split is_slash xs) (slice_split is_slash ys)

last_slash : (xs : List ℕ) → ends_in 47 xs ≡ true → xs ≡ without_last xs ++ 47 ∷ []
last_slash [] e = absurd (cc)
last_slash (x ∷ []) e = let is : x ≡ 47 = grind (arith, nat_tests) in ap (λ (y : ℕ). y ∷ []) is
last_slash (x ∷ y ∷ xs) e = ap (λ (q : List ℕ). x ∷ q) (last_slash (y ∷ xs) e)

names_of_nothing : names_of [] ≡ []
unfolding names_of
names_of_nothing = refl

joined_by : (b : Bool) (p n : List ℕ) → ends_in 47 p ≡ b → names_of (cond b (p ++ n) (p ++ 47 ∷ n)) ≡ names_of p ++ names_of n
joined_by false p n e = names_of_seam p n
joined_by true p n e =
    let q = without_last p in let is = last_slash p e in
    let inner : names_of p ≡ names_of q = ap names_of is ∙ names_of_seam q [] ∙ ap (λ (r : Names). names_of q ++ r) names_of_nothing ∙ append-nil (names_of q) in
    ap (λ (r : List ℕ). names_of (r ++ n)) is ∙ ap names_of (append_assoc q (47 ∷ []) n) ∙ names_of_seam q n ∙ ap (λ (r : Names). r ++ names_of n) (sym inner)

-- the names of a joined place are those of the folder and then those of the name
pub names_of-joined : (p n : List ℕ) → names_of (joined p n) ≡ names_of p ++ names_of n
unfolding joined
names_of-joined p n = joined_by (ends_in 47 p) p n refl
