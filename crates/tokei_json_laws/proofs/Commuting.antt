-- Insertions at two keys come to the same in either order.
use Rattle.std.proofs.Common.{◌≡◌, ℕ, ◌<◌, List, [], ◌∷◌, refl, sym, ap, ◌∙◌, arith, nat_cmp, Ordering, Less, Equal, Greater}
use Rattle.std.proofs.lemmas.Cmp.{ranked}
use Rattle.std.proofs.lemmas.Bool.Decides.{nat_tests}
use Rattle.std.specs.Ordering.{match_ordering, MatchOrdering}
use Rattle.std.specs.BTreeMap.{insert_entry}

less : (x y : ℕ) → x < y → nat_cmp x y ≡ Less
less x y h = grind (arith, nat_tests)

equal : (x y : ℕ) → x ≡ y → nat_cmp x y ≡ Equal
equal x y h = grind (arith, nat_tests)

greater : (x y : ℕ) → y < x → nat_cmp x y ≡ Greater
greater x y h = grind (arith, nat_tests)

module _ {S : Type 0} where
  pub inserted_before : (e : ℕ × S) (es : List (ℕ × S)) (k : ℕ) (v : S) → k < e.0 → insert_entry nat_cmp (e ∷ es) k v ≡ (k, v) ∷ e ∷ es
  inserted_before e es k v h = ap (λ o. match_ordering o ((k, v) ∷ e ∷ es) ((e.0, v) ∷ es) (e ∷ insert_entry nat_cmp es k v)) (less k e.0 h)

  inserted_at : (e : ℕ × S) (es : List (ℕ × S)) (k : ℕ) (v : S) → k ≡ e.0 → insert_entry nat_cmp (e ∷ es) k v ≡ (e.0, v) ∷ es
  inserted_at e es k v h = ap (λ o. match_ordering o ((k, v) ∷ e ∷ es) ((e.0, v) ∷ es) (e ∷ insert_entry nat_cmp es k v)) (equal k e.0 h)

  inserted_behind : (e : ℕ × S) (es : List (ℕ × S)) (k : ℕ) (v : S) → e.0 < k → insert_entry nat_cmp (e ∷ es) k v ≡ e ∷ insert_entry nat_cmp es k v
  inserted_behind e es k v h = ap (λ o. match_ordering o ((k, v) ∷ e ∷ es) ((e.0, v) ∷ es) (e ∷ insert_entry nat_cmp es k v)) (greater k e.0 h)

  abbrev put : ℕ → S → List (ℕ × S) → List (ℕ × S)
  put k v es = insert_entry nat_cmp es k v

  -- where both stand before what is there
  both_before : (o : Ordering) (j k : ℕ) (x y : S) (t : List (ℕ × S)) → MatchOrdering o (j < k) (j ≡ k) (k < j) → (j ≡ k → ⊥)
      → put j x t ≡ (j, x) ∷ t → put k y t ≡ (k, y) ∷ t → put k y ((j, x) ∷ t) ≡ put j x ((k, y) ∷ t)
  both_before Less j k x y t h other first second =
      inserted_behind (j, x) t k y h ∙ ap (λ l. (j, x) ∷ l) second ∙ sym (inserted_before (k, y) t j x h)
  both_before Equal j k x y t h other first second = absurd (other h)
  both_before Greater j k x y t h other first second =
      inserted_before (j, x) t k y h ∙ sym (inserted_behind (k, y) t j x h ∙ ap (λ l. (k, y) ∷ l) first)

  commute_by : (a b : Ordering) (j k : ℕ) (x y : S) (e : ℕ × S) (es : List (ℕ × S)) → MatchOrdering a (j < e.0) (j ≡ e.0) (e.0 < j) → MatchOrdering b (k < e.0) (k ≡ e.0) (e.0 < k)
      → (j ≡ k → ⊥) → put k y (put j x es) ≡ put j x (put k y es) → put k y (put j x (e ∷ es)) ≡ put j x (put k y (e ∷ es))
  commute_by Less Less j k x y e es h i other later =
      ap (put k y) (inserted_before e es j x h)
      ∙ both_before _ j k x y (e ∷ es) (ranked j k (nat_cmp j k) refl) other (inserted_before e es j x h) (inserted_before e es k y i)
      ∙ ap (put j x) (sym (inserted_before e es k y i))
  commute_by Less Equal j k x y e es h i other later =
      let above : j < k = omega arith in
      ap (put k y) (inserted_before e es j x h) ∙ inserted_behind (j, x) (e ∷ es) k y above ∙ ap (λ l. (j, x) ∷ l) (inserted_at e es k y i)
      ∙ sym (ap (put j x) (inserted_at e es k y i) ∙ inserted_before (e.0, y) es j x h)
  commute_by Less Greater j k x y e es h i other later =
      let above : j < k = omega arith in
      ap (put k y) (inserted_before e es j x h) ∙ inserted_behind (j, x) (e ∷ es) k y above ∙ ap (λ l. (j, x) ∷ l) (inserted_behind e es k y i)
      ∙ sym (ap (put j x) (inserted_behind e es k y i) ∙ inserted_before e (put k y es) j x h)
  commute_by Equal Less j k x y e es h i other later =
      let above : k < j = omega arith in
      ap (put k y) (inserted_at e es j x h) ∙ inserted_before (e.0, x) es k y i
      ∙ sym (ap (put j x) (inserted_before e es k y i) ∙ inserted_behind (k, y) (e ∷ es) j x above ∙ ap (λ l. (k, y) ∷ l) (inserted_at e es j x h))
  commute_by Equal Equal j k x y e es h i other later = absurd (other (h ∙ sym i))
  commute_by Equal Greater j k x y e es h i other later =
      ap (put k y) (inserted_at e es j x h) ∙ inserted_behind (e.0, x) es k y i
      ∙ sym (ap (put j x) (inserted_behind e es k y i) ∙ inserted_at e (put k y es) j x h)
  commute_by Greater Less j k x y e es h i other later =
      let above : k < j = omega arith in
      ap (put k y) (inserted_behind e es j x h) ∙ inserted_before e (put j x es) k y i
      ∙ sym (ap (put j x) (inserted_before e es k y i) ∙ inserted_behind (k, y) (e ∷ es) j x above ∙ ap (λ l. (k, y) ∷ l) (inserted_behind e es j x h))
  commute_by Greater Equal j k x y e es h i other later =
      ap (put k y) (inserted_behind e es j x h) ∙ inserted_at e (put j x es) k y i
      ∙ sym (ap (put j x) (inserted_at e es k y i) ∙ inserted_behind (e.0, y) es j x h)
  commute_by Greater Greater j k x y e es h i other later =
      ap (put k y) (inserted_behind e es j x h) ∙ inserted_behind e (put j x es) k y i ∙ ap (λ l. e ∷ l) later
      ∙ sym (ap (put j x) (inserted_behind e es k y i) ∙ inserted_behind e (put k y es) j x h)

  pub insert_commutes : (es : List (ℕ × S)) (j k : ℕ) (x y : S) → (j ≡ k → ⊥)
      → insert_entry nat_cmp (insert_entry nat_cmp es j x) k y ≡ insert_entry nat_cmp (insert_entry nat_cmp es k y) j x
  insert_commutes [] j k x y other = both_before _ j k x y [] (ranked j k (nat_cmp j k) refl) other refl refl
  insert_commutes (e ∷ es) j k x y other =
      commute_by _ _ j k x y e es (ranked j e.0 (nat_cmp j e.0) refl) (ranked k e.0 (nat_cmp k e.0) refl) other (insert_commutes es j k x y other)
