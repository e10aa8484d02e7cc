-- A text that names two rows, and one that stands twice in the sorted list of all keys and names.
use Rattle.std.proofs.Common.{◌≡◌, ℕ, Bool, true, false, not, ◌||◌, cond, List, [], ◌∷◌, ◌++◌, get_or, ◌+◌, refl, sym, ap, ◌∙◌, Bor, bytes_eq, arith}
use Rattle.std.proofs.Math.Bool.{or_assoc, true≢false}
use Rattle.std.proofs.lemmas.List.Sorted.{IsPermutation-refl, IsPermutation-cons, IsPermutation-trans, IsPermutation-sym, IsPermutation-middle, IsPermutation-map}
use Rattle.std.proofs.lemmas.Map.Keys.{IsDistinct-IsPermutation, IsDistinct-from_sorted, sorted_from_all_adjacent, apart_from_distinct}
use Rattle.std.proofs.lemmas.Map.Text.{is_eq-slice_cmp}
use Rattle.std.proofs.lemmas.Slice.Eq.{bytes_eq-Decides}
use Rattle.std.specs.Cmp.{IsTotalOrder}
use Rattle.std.specs.Cmp.Lexicographic.{slice_cmp, nat_list_eq_equiv, on_texts}
use Rattle.std.specs.List.{list_any, AllByRecursion, IsDistinct, IsAllAdjacentAnswer}
use Rattle.std.specs.List.Sorted.{IsPermutation, IsSorted}
use Rattle.std.specs.Ordering.{eq_by_cmp, is_eq, is_lt, nat_cmp, ordering_reverse}
use Rattle.std.specs.declared.cmp.Ordering.{Ordering}
use Rattle.std.specs.declared.cmp.Ordering.TheVariants.{Less, Equal, Greater}
use Rattle.tokei_table_row.specs.Row.{Row}
use Rattle.tokei_table_rules.specs.MetNames.{words_of}
use Rattle.tokei_table_rules.specs.RowNames.{shares_name, names_twice, keys_of, other_names_of}

parted : (a b : Bool) → (a || b) ≡ false → (a ≡ false) × (b ≡ false)
parted false b e = (refl, e)
parted true b e = absurd (true≢false e)

same : (a b : Bool) → (a ≡ false → b ≡ false) → (b ≡ false → a ≡ false) → a ≡ b
same false b f g = sym (f refl)
same true false f g = g refl
same true true f g = refl

-- ---- a list in which a text stands twice

module _ {K : Type 0} (e : K → K → Bool) where
  abbrev repeats : List K → Bool
  repeats [] = false
  repeats (x ∷ xs) = list_any (e x) xs || repeats xs

  none : (x : K) (xs : List K) → list_any (e x) xs ≡ false → AllByRecursion (λ y. e x y ≡ false) xs
  none x [] p = tt
  none x (y ∷ ys) p = let q = parted (e x y) (list_any (e x) ys) p in (q.0, none x ys q.1)

  unmet : (x : K) (xs : List K) → AllByRecursion (λ y. e x y ≡ false) xs → list_any (e x) xs ≡ false
  unmet x [] p = refl
  unmet x (y ∷ ys) p = ap (λ b. b || list_any (e x) ys) p.0 ∙ unmet x ys p.1

  distinct : (xs : List K) → repeats xs ≡ false → IsDistinct e xs
  unfolding IsDistinct
  distinct [] p = tt
  distinct (x ∷ xs) p = let q = parted (list_any (e x) xs) (repeats xs) p in (none x xs q.0, distinct xs q.1)

  unrepeated : (xs : List K) → IsDistinct e xs → repeats xs ≡ false
  unfolding IsDistinct
  unrepeated [] p = refl
  unrepeated (x ∷ xs) p = ap (λ b. b || repeats xs) (unmet x xs p.0) ∙ unrepeated xs p.1

  module _ (flips : (x y : K) → e x y ≡ e y x) where
    repeats_moved : (xs ys : List K) → IsPermutation xs ys → repeats xs ≡ repeats ys
    repeats_moved xs ys moved =
        same (repeats xs) (repeats ys)
        (λ p. unrepeated ys (IsDistinct-IsPermutation e flips xs ys moved (distinct xs p)))
        (λ p. unrepeated xs (IsDistinct-IsPermutation e flips ys xs (IsPermutation-sym xs ys moved) (distinct ys p)))

pub text_flips : (x y : List ℕ) → bytes_eq x y ≡ bytes_eq y x
text_flips x y = nat_list_eq_equiv.symm x y

-- ---- the keys and names of rows

-- of each row the key, and the name where that isn't the key
abbrev all_names : List Row → List (List ℕ)
all_names [] = []
all_names (r ∷ rs) = r.key ∷ cond (bytes_eq r.name r.key) (all_names rs) (r.name ∷ all_names rs)

abbrev pub has : List ℕ → Row → Bool
has x s = bytes_eq x s.key || bytes_eq x s.name

pub swap : (x y u v : Bool) → ((x || y) || (u || v)) ≡ ((x || u) || (y || v))
swap true y u v = refl
swap false true true v = refl
swap false true false v = refl
swap false false u v = refl

twice : (a : Bool) → (a || a) ≡ a
twice true = refl
twice false = refl

module _ (x : List ℕ) where
  named : (r : Row) (rest : List (List ℕ)) (later b : Bool) → bytes_eq r.name r.key ≡ b → list_any (bytes_eq x) rest ≡ later
      → (bytes_eq x r.key || list_any (bytes_eq x) (cond b rest (r.name ∷ rest))) ≡ (has x r || later)
  named r rest later true e p =
      ap (λ b. bytes_eq x r.key || b) p
      ∙ ap (λ b. b || later) (sym (twice (bytes_eq x r.key)) ∙ ap (λ n. bytes_eq x r.key || bytes_eq x n) (sym ((bytes_eq-Decides r.name r.key).0 e)))
  named r rest later false e p =
      ap (λ b. bytes_eq x r.key || (bytes_eq x r.name || b)) p ∙ sym (or_assoc (bytes_eq x r.key) (bytes_eq x r.name) later)

  any_named : (rs : List Row) → list_any (bytes_eq x) (all_names rs) ≡ list_any (has x) rs
  any_named [] = refl
  any_named (r ∷ rs) = named r (all_names rs) (list_any (has x) rs) (bytes_eq r.name r.key) refl (any_named rs)

-- a row shares its key or its name
pub shared : (r : Row) (rs : List Row) → list_any (shares_name r) rs ≡ (list_any (has r.key) rs || list_any (has r.name) rs)
shared r [] = refl
shared r (s ∷ rs) =
    ap (λ b. b || list_any (shares_name r) rs) (or_assoc (has r.key s) (bytes_eq r.name s.key) (bytes_eq r.name s.name))
    ∙ ap (λ b. (has r.key s || has r.name s) || b) (shared r rs)
    ∙ swap (has r.key s) (has r.name s) (list_any (has r.key) rs) (list_any (has r.name) rs)

repeated : (r : Row) (rs : List Row) (b : Bool) → bytes_eq r.name r.key ≡ b → repeats bytes_eq (all_names rs) ≡ names_twice rs
    → repeats bytes_eq (r.key ∷ cond b (all_names rs) (r.name ∷ all_names rs)) ≡ names_twice (r ∷ rs)
repeated r rs true e p =
    ap (λ b. list_any (bytes_eq r.key) (all_names rs) || b) p
    ∙ ap (λ b. b || names_twice rs) (any_named r.key rs ∙ sym (twice (list_any (has r.key) rs))
    ∙ ap (λ n. list_any (has r.key) rs || list_any (has n) rs) (sym ((bytes_eq-Decides r.name r.key).0 e)) ∙ sym (shared r rs))
repeated r rs false e p =
    ap (λ b. (b || list_any (bytes_eq r.key) (all_names rs)) || (list_any (bytes_eq r.name) (all_names rs) || repeats bytes_eq (all_names rs)))
    (text_flips r.key r.name ∙ e)
    ∙ ap (λ b. b || (list_any (bytes_eq r.name) (all_names rs) || repeats bytes_eq (all_names rs))) (any_named r.key rs)
    ∙ ap (λ b. list_any (has r.key) rs || (b || repeats bytes_eq (all_names rs))) (any_named r.name rs)
    ∙ ap (λ b. list_any (has r.key) rs || (list_any (has r.name) rs || b)) p
    ∙ sym (or_assoc (list_any (has r.key) rs) (list_any (has r.name) rs) (names_twice rs))
    ∙ ap (λ b. b || names_twice rs) (sym (shared r rs))

repeats_named : (rs : List Row) → repeats bytes_eq (all_names rs) ≡ names_twice rs
repeats_named [] = refl
repeats_named (r ∷ rs) = repeated r rs (bytes_eq r.name r.key) refl (repeats_named rs)

parts : (r : Row) (ks all others : List (List ℕ)) (b : Bool) → IsPermutation all (ks ++ others)
    → IsPermutation (cond b all (r.name ∷ all)) (ks ++ cond b others (r.name ∷ others))
parts r ks all others true p = p
parts r ks all others false p =
    IsPermutation-trans _ _ _ (IsPermutation-cons r.name all (ks ++ others) p)
    (IsPermutation-sym _ _ (IsPermutation-middle ks r.name others))

keys_first : (rs : List Row) → IsPermutation (all_names rs) (keys_of rs ++ other_names_of rs)
keys_first [] = IsPermutation-refl []
keys_first (r ∷ rs) =
    IsPermutation-cons r.key _ _ (parts r (keys_of rs) (all_names rs) (other_names_of rs) (bytes_eq r.name r.key) (keys_first rs))

-- ---- borrowed texts in order

abbrev text_cmp : Bor (List ℕ) → Bor (List ℕ) → Ordering
text_cmp x y = slice_cmp nat_cmp x.now y.now

total : IsTotalOrder text_cmp
total = on_texts {K = Bor (List ℕ)} (λ t. t.now)

alike : (xs : List (Bor (List ℕ))) → repeats (eq_by_cmp text_cmp) xs ≡ repeats bytes_eq (words_of xs)
alike [] = refl
alike (x ∷ xs) = ap (λ b. b || repeats (eq_by_cmp text_cmp) xs) (any xs) ∙ ap (λ b. list_any (bytes_eq x.now) (words_of xs) || b) (alike xs)
  where
    any : (ys : List (Bor (List ℕ))) → list_any (eq_by_cmp text_cmp x) ys ≡ list_any (bytes_eq x.now) (words_of ys)
    any [] = refl
    any (y ∷ ys) = ap (λ b. b || list_any (eq_by_cmp text_cmp x) ys) (is_eq-slice_cmp x.now y.now) ∙ ap (λ b. bytes_eq x.now y.now || b) (any ys)

less : (o : Ordering) → true ≡ is_lt o → o ≡ Less
less Less e = refl
less Equal e = absurd (true≢false e)
less Greater e = absurd (true≢false e)

equal : (o p : Ordering) → false ≡ is_lt o → p ≡ ordering_reverse o → is_lt p ≡ false → is_eq o ≡ true
equal Less p e f g = absurd (true≢false (sym e))
equal Equal p e f g = refl
equal Greater p e f g = absurd (true≢false (sym (ap is_lt f) ∙ g))

by_refuting : (b : Bool) → (b ≡ false → ⊥) → true ≡ b
by_refuting true f = refl
by_refuting false f = absurd (f refl)

-- in a list in order a text stands twice unless each is below the next
in_order : (xs : List (Bor (List ℕ))) (up : Bool) → IsSorted text_cmp xs
    → IsAllAdjacentAnswer (λ x y b. b ≡ is_lt (slice_cmp nat_cmp x.now y.now)) xs up → not up ≡ repeats (eq_by_cmp text_cmp) xs
in_order [] true s a = refl
in_order [] false s a = grind (arith, a.1)
in_order (x ∷ xs) true s a =
    sym (unrepeated (eq_by_cmp text_cmp) (x ∷ xs) (IsDistinct-from_sorted text_cmp (x ∷ xs)
    (sorted_from_all_adjacent total (x ∷ xs) x (λ k below. less _ (a k x below)))))
in_order (x ∷ xs) false s a =
    let y = get_or (x ∷ xs) a.0 x in
    let z = get_or (x ∷ xs) (a.0 + 1) x in
    by_refuting (repeats (eq_by_cmp text_cmp) (x ∷ xs)) (λ p. true≢false
    (sym (equal (text_cmp y z) (text_cmp z y) (a.2 x) (total.antisymm z y) (s a.0 x (omega arith) a.1))
    ∙ apart_from_distinct (eq_by_cmp text_cmp) (x ∷ xs) a.0 (a.0 + 1) x (distinct (eq_by_cmp text_cmp) (x ∷ xs) p) (omega arith) a.1))

pub found_in_order : (rs : List Row) (names sorted : List (Bor (List ℕ))) (up : Bool)
    → words_of names ≡ keys_of rs ++ other_names_of rs → IsPermutation names sorted → IsSorted text_cmp sorted
    → IsAllAdjacentAnswer (λ x y b. b ≡ is_lt (slice_cmp nat_cmp x.now y.now)) sorted up → not up ≡ names_twice rs
found_in_order rs names sorted up are moved ordered answer =
    in_order sorted up ordered answer ∙ alike sorted
    ∙ sym (repeats_moved bytes_eq text_flips _ _ (IsPermutation-map (λ t. t.now) names sorted moved))
    ∙ ap (repeats bytes_eq) are ∙ sym (repeats_moved bytes_eq text_flips _ _ (keys_first rs)) ∙ repeats_named rs
