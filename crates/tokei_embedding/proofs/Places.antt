-- The first and the last place where a test holds, by what holds at each place.
use Rattle.std.proofs.Common.{◌≡◌, ℕ, suc, zero, ◌+◌, ◌-◌, ◌<◌, ◌≤◌, Bool, true, false, cond, List, [], ◌∷◌, length, take, drop, get_or, Option, None, Some, option_map, refl, sym, ◌∙◌, ap, arith, length-drop, get_or-drop}
use Rattle.std.proofs.Math.Dec.{eqb-suc-zero, eqb-zero-suc, eqb-suc-suc}
use Rattle.std.proofs.lemmas.List.{drop-take, drop-drop}
use Rattle.memchr.specs.Find.{OccursAt, FindsNeedle, FindsLastNeedle}
use Rattle.tokei_table_row.proofs.Finds.{begins-occurs, occurs-begins}
use Rattle.tokei_table_row.specs.Bytes.{begins}
use Rattle.tokei_table_row.specs.OuterLines.{later_or}
use Rattle.tokei_embedding.specs.Searches.{first_where, last_where, first_of, last_of, is_at}

pub first_where-found : (test : List ℕ → Bool) (t : List ℕ) (k : ℕ) → k < length t → test (drop k t) ≡ true → ((j : ℕ) → j < k → test (drop j t) ≡ false) → first_where test t ≡ Some k
first_where-found test [] k l h before = absurd (omega arith)
first_where-found test (b ∷ t) zero l h before = ap (λ x. cond x (Some 0) (option_map suc (first_where test t))) h
first_where-found test (b ∷ t) (suc k) l h before =
    let rest : first_where test t ≡ Some k = first_where-found test t k (omega arith) h (λ j i. before (suc j) (omega arith)) in
    let here : test (b ∷ t) ≡ false = before 0 (omega arith) in
    ap (λ x. cond x (Some 0) (option_map suc (first_where test t))) here ∙ ap (option_map suc) rest

pub first_where-none : (test : List ℕ → Bool) (t : List ℕ) → ((j : ℕ) → j < length t → test (drop j t) ≡ false) → first_where test t ≡ None
first_where-none test [] nowhere = refl
first_where-none test (b ∷ t) nowhere =
    let rest : first_where test t ≡ None = first_where-none test t (λ j i. nowhere (suc j) (omega arith)) in
    let here : test (b ∷ t) ≡ false = nowhere 0 (omega arith) in
    ap (λ x. cond x (Some 0) (option_map suc (first_where test t))) here ∙ ap (option_map suc) rest

last_where-none : (test : List ℕ → Bool) (t : List ℕ) → ((j : ℕ) → j < length t → test (drop j t) ≡ false) → last_where test t ≡ None
last_where-none test [] nowhere = refl
last_where-none test (b ∷ t) nowhere =
    let rest : last_where test t ≡ None = last_where-none test t (λ j i. nowhere (suc j) (omega arith)) in
    let here : test (b ∷ t) ≡ false = nowhere 0 (omega arith) in
    ap (λ x. later_or x (last_where test t)) here ∙ ap (later_or false) rest

last_where-found : (test : List ℕ → Bool) (t : List ℕ) (k : ℕ) → k < length t → test (drop k t) ≡ true → ((j : ℕ) → k < j → j < length t → test (drop j t) ≡ false) → last_where test t ≡ Some k
last_where-found test [] k l h after = absurd (omega arith)
last_where-found test (b ∷ t) zero l h after =
    let rest : last_where test t ≡ None = last_where-none test t (λ j i. after (suc j) (omega arith) (omega arith)) in
    ap (λ x. later_or x (last_where test t)) h ∙ ap (later_or true) rest
last_where-found test (b ∷ t) (suc k) l h after =
    let rest : last_where test t ≡ Some k = last_where-found test t k (omega arith) h (λ j i m. after (suc j) (omega arith) (omega arith)) in
    ap (later_or (test (b ∷ t))) rest

pub begins-at : (token t : List ℕ) (k : ℕ) → 0 < length token → begins token (drop k t) ≡ true → OccursAt t token k
begins-at token t k l h =
    let o = begins-occurs token (drop k t) h in
    record { fits = omega (arith, o.fits, length-drop k t, l); reads = λ j i. sym (get_or-drop k t j 0) ∙ ap (λ n. get_or (drop k t) n 0) (from_zero j) ∙ o.reads j i }
  where
    from_zero : (j : ℕ) → j ≡ 0 + j
    from_zero j = omega arith

at-begins : (token t : List ℕ) (k : ℕ) → 0 < length token → OccursAt t token k → begins token (drop k t) ≡ true
at-begins token t k l o =
    occurs-begins token (drop k t) (record { fits = omega (arith, o.fits, length-drop k t); reads = λ j i. ap (λ n. get_or (drop k t) n 0) (from_zero j) ∙ get_or-drop k t j 0 ∙ o.reads j i })
  where
    from_zero : (j : ℕ) → 0 + j ≡ j
    from_zero j = omega arith

pub not_true : (x : Bool) → (x ≡ true → ⊥) → x ≡ false
not_true true un = absurd (un refl)
not_true false un = refl

pub first_of-is : (t token : List ℕ) (r : Option ℕ) → FindsNeedle t token 0 r → 0 < length token → r ≡ first_of token t
first_of-is t token None f l =
    sym (first_where-none (begins token) t (λ j i. not_true (begins token (drop j t)) (λ h. f j (omega arith) (omega arith) (begins-at token t j l h))))
first_of-is t token (Some k) f l =
    sym (first_where-found (begins token) t k (omega (arith, f.1.fits, l)) (at-begins token t k l f.1)
    (λ j i. not_true (begins token (drop j t)) (λ h. f.0.before j (omega arith) i (begins-at token t j l h))))

pub last_of-is : (t token : List ℕ) (r : Option ℕ) → FindsLastNeedle t token r → 0 < length token → r ≡ last_of token t
last_of-is t token None f l =
    sym (last_where-none (begins token) t (λ j i. not_true (begins token (drop j t)) (λ h. f j (omega arith) (omega arith) (begins-at token t j l h))))
last_of-is t token (Some k) f l =
    sym (last_where-found (begins token) t k (omega (arith, f.1.fits, l)) (at-begins token t k l f.1)
    (λ j i m. not_true (begins token (drop j t)) (λ h. f.0.after j (omega arith) (omega arith) (begins-at token t j l h))))

is_at-suc : (k : ℕ) (o : Option ℕ) → is_at (suc k) (option_map suc o) ≡ is_at k o
is_at-suc k None = refl
is_at-suc k (Some i) = eqb-suc-suc i k

not_at-zero : (o : Option ℕ) → is_at 0 (option_map suc o) ≡ false
not_at-zero None = refl
not_at-zero (Some i) = eqb-suc-zero i

-- a place where the test fails isn't the first one
pub not_first : (test : List ℕ → Bool) (t : List ℕ) (k : ℕ) → test (drop k t) ≡ false → is_at k (first_where test t) ≡ false
not_first test [] k h = refl
not_first test (b ∷ t) zero h = ap (λ x. is_at 0 (cond x (Some 0) (option_map suc (first_where test t)))) h ∙ not_at-zero (first_where test t)
not_first test (b ∷ t) (suc k) h = by (test (b ∷ t)) (is_at-suc k (first_where test t) ∙ not_first test t k h)
  where
    by : (x : Bool) → is_at (suc k) (option_map suc (first_where test t)) ≡ false → is_at (suc k) (cond x (Some 0) (option_map suc (first_where test t))) ≡ false
    by true e = eqb-zero-suc k
    by false e = e

-- the bytes of a part from a place of the text on
pub part_from : (t : List ℕ) (from place to : ℕ) → from ≤ place → place ≤ to → drop (place - from) (take (to - from) (drop from t)) ≡ take (to - place) (drop place t)
part_from t from place to l m =
    let n : to - from ≡ (place - from) + (to - place) = omega arith in
    let p : from + (place - from) ≡ place = omega arith in
    ap (λ k. drop (place - from) (take k (drop from t))) n ∙ drop-take (place - from) (to - place) (drop from t)
    ∙ ap (take (to - place)) (drop-drop (place - from) from t ∙ ap (λ k. drop k t) p)
