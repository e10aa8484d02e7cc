-- The places of a text's group lead to the first row that has the text.
use Rattle.std.proofs.Common.{◌≡◌, ℕ, zero, suc, ◌+◌, ◌<◌, ◌≤◌, ◌==◌, ◌||◌, Bool, true, false, cond, List, [], ◌∷◌}
use Rattle.std.proofs.Common.{◌++◌, length, get_or, Option, None, Some, option_map, refl, sym, ap, ◌∙◌, arith}
use Rattle.std.proofs.Common.{true≢false, bytes_eq}
use Rattle.std.specs.Str.{str_to_ascii_lowercase}
use Rattle.std.proofs.lemmas.Bool.Decides.{Decides-eqb}
use Rattle.std.proofs.lemmas.Slice.Eq.{bytes_eq-Decides}
use Rattle.tokei_table_row.specs.Row.{Row}
use Rattle.tokei_table_rules.specs.Lookups.{first_where, holds, row_at, has_name, has_name_in_any_case}
use Rattle.tokei_table_rules.specs.TextIndex.{group_of, entries_of, entries_from, in_group, first_among}
use Rattle.tokei_table_rules.specs.TextIndex.{names, lowered_name}

not_true : (b : Bool) → (b ≡ true → ⊥) → b ≡ false
not_true true un = absurd (un refl)
not_true false un = refl

rest_true : (a b : Bool) → (a || b) ≡ true → a ≡ false → b ≡ true
rest_true true b h f = absurd (true≢false f)
rest_true false b h f = h

-- texts of two groups are two texts
apart : (u t : List ℕ) → (group_of u == group_of t) ≡ false → bytes_eq u t ≡ false
apart u t q =
    not_true (bytes_eq u t) (λ e. true≢false (sym
    ((Decides-eqb (group_of u) (group_of t)).1 (ap group_of ((bytes_eq-Decides u t).0 e))) ∙ q))

-- a search among the places of a group, with the entries of one row before further ones
module _ (test : Row → Bool) (t : List ℕ) (all : List Row) where
  hit_step : (u : List ℕ) (ts : List (List ℕ)) (n : ℕ) (rest : List (ℕ × ℕ)) → test (row_at all n) ≡ true
      → holds (u ∷ ts) t ≡ true
      → (holds ts t ≡ true → first_among test all (in_group (group_of t) (entries_of n ts ++ rest)) ≡ Some n)
      → (b : Bool) → (group_of u == group_of t) ≡ b
      → first_among test all (in_group (group_of t) (entries_of n (u ∷ ts) ++ rest)) ≡ Some n
  hit_step u ts n rest e h later true q =
      let more = in_group (group_of t) (entries_of n ts ++ rest) in
      ap (λ b. first_among test all (cond b (n ∷ more) more)) q
      ∙ ap (λ b. cond b (Some n) (first_among test all more)) e
  hit_step u ts n rest e h later false q =
      let more = in_group (group_of t) (entries_of n ts ++ rest) in
      ap (λ b. first_among test all (cond b (n ∷ more) more)) q
      ∙ later (rest_true (bytes_eq u t) (holds ts t) h (apart u t q))

  hit : (ts : List (List ℕ)) (n : ℕ) (rest : List (ℕ × ℕ)) → test (row_at all n) ≡ true → holds ts t ≡ true
      → first_among test all (in_group (group_of t) (entries_of n ts ++ rest)) ≡ Some n
  hit [] n rest e h = absurd (true≢false (sym h))
  hit (u ∷ ts) n rest e h = hit_step u ts n rest e h (hit ts n rest e) (group_of u == group_of t) refl

  miss_step : (u : List ℕ) (ts : List (List ℕ)) (n : ℕ) (rest : List (ℕ × ℕ)) → test (row_at all n) ≡ false
      → first_among test all (in_group (group_of t) (entries_of n ts ++ rest))
      ≡ first_among test all (in_group (group_of t) rest)
      → (b : Bool) → (group_of u == group_of t) ≡ b
      → first_among test all (in_group (group_of t) (entries_of n (u ∷ ts) ++ rest))
      ≡ first_among test all (in_group (group_of t) rest)
  miss_step u ts n rest e later true q =
      let more = in_group (group_of t) (entries_of n ts ++ rest) in
      ap (λ b. first_among test all (cond b (n ∷ more) more)) q
      ∙ ap (λ b. cond b (Some n) (first_among test all more)) e
      ∙ later
  miss_step u ts n rest e later false q =
      let more = in_group (group_of t) (entries_of n ts ++ rest) in
      ap (λ b. first_among test all (cond b (n ∷ more) more)) q
      ∙ later

  miss : (ts : List (List ℕ)) (n : ℕ) (rest : List (ℕ × ℕ)) → test (row_at all n) ≡ false
      → first_among test all (in_group (group_of t) (entries_of n ts ++ rest))
      ≡ first_among test all (in_group (group_of t) rest)
  miss [] n rest e = refl
  miss (u ∷ ts) n rest e = miss_step u ts n rest e (miss ts n rest e) (group_of u == group_of t) refl

shift : (n : ℕ) (o : Option ℕ) → option_map (λ k. n + 1 + k) o ≡ option_map (λ k. n + k) (option_map suc o)
shift n None = refl
shift n (Some k) = let e : n + 1 + k ≡ n + suc k = omega arith in ap Some e

unmoved : (o : Option ℕ) → option_map (λ k. 0 + k) o ≡ o
unmoved None = refl
unmoved (Some k) = let e : 0 + k ≡ k = omega arith in ap Some e

-- each row that passes the test has the text
abbrev pub Leads : (Row → Bool) → (Row → List (List ℕ)) → List ℕ → List Row → Type 0
Leads test texts t [] = Unit {0}
Leads test texts t (r ∷ rs) = (test r ≡ true → holds (texts r) t ≡ true) × Leads test texts t rs

module _ (test : Row → Bool) (texts : Row → List (List ℕ)) (t : List ℕ) (all : List Row) where
  step : (r : Row) (rs : List Row) (n : ℕ) → row_at all n ≡ r → (test r ≡ true → holds (texts r) t ≡ true)
      → first_among test all (in_group (group_of t) (entries_from texts (n + 1) rs))
      ≡ option_map (λ k. n + 1 + k) (first_where test rs)
      → (b : Bool) → test r ≡ b → first_among test all (in_group (group_of t) (entries_from texts n (r ∷ rs)))
      ≡ option_map (λ k. n + k) (first_where test (r ∷ rs))
  step r rs n here has later true q =
      let e : n ≡ n + 0 = omega arith in
      hit test t all (texts r) n (entries_from texts (n + 1) rs) (ap test here ∙ q) (has q)
      ∙ ap Some e
      ∙ ap (λ b. option_map (λ k. n + k) (cond b (Some 0) (option_map suc (first_where test rs)))) (sym q)
  step r rs n here has later false q =
      miss test t all (texts r) n (entries_from texts (n + 1) rs) (ap test here ∙ q)
      ∙ later
      ∙ shift n (first_where test rs)
      ∙ ap (λ b. option_map (λ k. n + k) (cond b (Some 0) (option_map suc (first_where test rs)))) (sym q)

  leads : (rs : List Row) → Leads test texts t rs → (n : ℕ) → ((k : ℕ) → row_at all (n + k) ≡ row_at rs k)
      → first_among test all (in_group (group_of t) (entries_from texts n rs))
      ≡ option_map (λ k. n + k) (first_where test rs)
  leads [] have n at = refl
  leads (r ∷ rs) have n at =
      let e : n ≡ n + 0 = omega arith in
      step r rs n (ap (row_at all) e ∙ at 0) have.0 (leads rs have.1 (n + 1)
      (λ k. let f : n + 1 + k ≡ n + suc k = omega arith in ap (row_at all) f ∙ at (suc k))) (test r) refl

-- the rows that pass the test have the text, though others may have it too
pub first_that_has : (test : Row → Bool) (texts : Row → List (List ℕ)) (t : List ℕ) (rows : List Row)
    → Leads test texts t rows
    → first_among test rows (in_group (group_of t) (entries_from texts 0 rows)) ≡ first_where test rows
first_that_has test texts t rows have =
    leads test texts t rows rows have 0 (λ k. let e : 0 + k ≡ k = omega arith in ap (row_at rows) e)
    ∙ unmoved (first_where test rows)

pub first_of_group : (test : Row → Bool) (texts : Row → List (List ℕ)) (t : List ℕ)
    → ((r : Row) → test r ≡ holds (texts r) t) → (rows : List Row)
    → first_among test rows (in_group (group_of t) (entries_from texts 0 rows)) ≡ first_where test rows
first_of_group test texts t same rows = first_that_has test texts t rows (all_lead rows)
  where
    all_lead : (rs : List Row) → Leads test texts t rs
    all_lead [] = tt
    all_lead (r ∷ rs) = (λ q. sym (same r) ∙ q, all_lead rs)

or_none : (b : Bool) → b ≡ (b || false)
or_none true = refl
or_none false = refl

-- the texts that name a row are its key and its name
pub is_name : (word : List ℕ) (r : Row) → has_name word r ≡ holds (names r) word
is_name word r = ap (λ b. bytes_eq r.key word || b) (or_none (bytes_eq r.name word))

pub is_lowered_name : (word : List ℕ) (r : Row)
    → has_name_in_any_case word r ≡ holds (lowered_name r) (str_to_ascii_lowercase word)
is_lowered_name word r = or_none (bytes_eq (str_to_ascii_lowercase r.name) (str_to_ascii_lowercase word))

-- each place of a group is one of the table
abbrev pub Below : ℕ → List ℕ → Type 0
Below m ps = (k : ℕ) → k < length ps → get_or ps k 0 < m

below_more : (m p : ℕ) (ps : List ℕ) → p < m → Below m ps → Below m (p ∷ ps)
below_more m p ps l b zero h = l
below_more m p ps l b (suc k) h = b k (omega (arith, h))

below_chosen : (m n : ℕ) (ps : List ℕ) → n < m → Below m ps → (c : Bool) → Below m (cond c (n ∷ ps) ps)
below_chosen m n ps l b true = below_more m n ps l b
below_chosen m n ps l b false = b

below_entries : (g m : ℕ) (ts : List (List ℕ)) (n : ℕ) (rest : List (ℕ × ℕ)) → n < m → Below m (in_group g rest)
    → Below m (in_group g (entries_of n ts ++ rest))
below_entries g m [] n rest l b = b
below_entries g m (u ∷ ts) n rest l b =
    below_chosen m n (in_group g (entries_of n ts ++ rest)) l (below_entries g m ts n rest l b) (group_of u == g)

pub places_below : (texts : Row → List (List ℕ)) (g m : ℕ) (rs : List Row) (n : ℕ) → n + length rs ≤ m
    → Below m (in_group g (entries_from texts n rs))
places_below texts g m [] n l = λ k h. absurd (omega (arith, h))
places_below texts g m (r ∷ rs) n l =
    below_entries g m (texts r) n (entries_from texts (n + 1) rs) (omega (arith, l))
    (places_below texts g m rs (n + 1) (omega (arith, l)))
