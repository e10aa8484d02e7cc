-- A row that shares a name with one before it.
use Rattle.std.proofs.Common.{◌≡◌, ℕ, ◌+◌, ◌<◌, Bool, true, false, ◌||◌, List, [], ◌∷◌, ◌++◌, length, get_or, map, take, drop, refl, sym, ap, ◌∙◌, bytes_eq, arith}
use Rattle.std.proofs.Math.Bool.{or-false, or-true, or_assoc, true≢false}
use Rattle.std.proofs.lemmas.List.{take_more, take-append-drop, length-map, get_or-map}
use Rattle.std.proofs.lemmas.List.Folds.{list_any-append, list_any_more}
use Rattle.std.proofs.lemmas.Slice.Eq.{bytes_eq-Decides}
use Rattle.std.specs.List.{list_any}
use Rattle.tokei_table_row.specs.NewRow.{new_row}
use Rattle.tokei_table_row.specs.Row.{Row}
use Rattle.tokei_table_rules.specs.Lookups.{has_name, row_at}
use Rattle.tokei_table_rules.specs.MetNames.{was_met}
use Rattle.tokei_table_rules.specs.RowNames.{shares_name, names_twice, shares_earlier}
use Rattle.tokei_table_rules.proofs.SortedNames.{has, shared, swap, text_flips}

any_has : (x : List ℕ) (rs : List Row) → list_any (has_name x) rs ≡ list_any (has x) rs
any_has x [] = refl
any_has x (r ∷ rs) =
    ap (λ b. (b || bytes_eq r.name x) || list_any (has_name x) rs) (text_flips r.key x)
    ∙ ap (λ b. (bytes_eq x r.key || b) || list_any (has_name x) rs) (text_flips r.name x)
    ∙ ap (λ b. has x r || b) (any_has x rs)

-- a row shares its key or its name with one of those whose names were met
met_shares : (met : List ℕ → Bool) (r : Row) (rs : List Row) → ((q : List ℕ) → met q ≡ list_any (has_name q) rs)
    → was_met met r ≡ list_any (shares_name r) rs
met_shares met r rs are =
    ap (λ b. b || met r.name) (are r.key ∙ any_has r.key rs)
    ∙ ap (λ b. list_any (has r.key) rs || b) (are r.name ∙ any_has r.name rs)
    ∙ sym (shared r rs)

swapped : (a b c d : Bool) → (((a || b) || c) || d) ≡ (((a || c) || b) || d)
swapped true b c d = refl
swapped false true true d = refl
swapped false true false d = refl
swapped false false true d = refl
swapped false false false d = refl

turned : (r s : Row) → shares_name r s
    ≡ (((bytes_eq s.key r.key || bytes_eq s.name r.key) || bytes_eq s.key r.name) || bytes_eq s.name r.name)
turned r s =
    ap (λ b. ((b || bytes_eq r.key s.name) || bytes_eq r.name s.key) || bytes_eq r.name s.name) (text_flips r.key s.key)
    ∙ ap (λ b. ((bytes_eq s.key r.key || b) || bytes_eq r.name s.key) || bytes_eq r.name s.name) (text_flips r.key s.name)
    ∙ ap (λ b. ((bytes_eq s.key r.key || bytes_eq s.name r.key) || b) || bytes_eq r.name s.name) (text_flips r.name s.key)
    ∙ ap (λ b. ((bytes_eq s.key r.key || bytes_eq s.name r.key) || bytes_eq s.key r.name) || b) (text_flips r.name s.name)

flips : (r s : Row) → shares_name r s ≡ shares_name s r
flips r s =
    turned r s ∙ swapped (bytes_eq s.key r.key) (bytes_eq s.name r.key) (bytes_eq s.key r.name) (bytes_eq s.name r.name)

-- a row shares a name with one whose name its key or its name is
pub sharing : (r s : Row) → (has_name r.key s || has_name r.name s) ≡ shares_name r s
sharing r s =
    sym (turned r s ∙ or_assoc (has_name r.key s) (bytes_eq s.key r.name) (bytes_eq s.name r.name))

pub sharing_key : (r s : Row) → has_name r.key s ≡ true → true ≡ shares_name r s
sharing_key r s e = ap (λ b. b || has_name r.name s) (sym e) ∙ sharing r s

pub sharing_name : (r s : Row) (b : Bool) → has_name r.key s ≡ false → has_name r.name s ≡ b → b ≡ shares_name r s
sharing_name r s b e f = sym f ∙ ap (λ b. b || has_name r.name s) (sym e) ∙ sharing r s

pub own_key : (r : Row) → has_name r.key r ≡ true
own_key r = ap (λ b. b || bytes_eq r.name r.key) ((bytes_eq-Decides r.key r.key).1 refl)

pub own_name : (r : Row) → has_name r.name r ≡ true
own_name r = ap (λ b. bytes_eq r.key r.name || b) ((bytes_eq-Decides r.name r.name).1 refl) ∙ or-true (bytes_eq r.key r.name)

-- one more row
twice_pushed : (rs : List Row) (s : Row) → names_twice (rs ++ s ∷ []) ≡ (names_twice rs || list_any (shares_name s) rs)
twice_pushed [] s = refl
twice_pushed (r ∷ rs) s =
    ap (λ b. b || names_twice (rs ++ s ∷ [])) (list_any-append (shares_name r) rs (s ∷ [])
    ∙ ap (λ b. list_any (shares_name r) rs || b) (or-false (shares_name r s) ∙ flips r s))
    ∙ ap (λ b. (list_any (shares_name r) rs || shares_name s r) || b) (twice_pushed rs s)
    ∙ swap (list_any (shares_name r) rs) (shares_name s r) (names_twice rs) (list_any (shares_name s) rs)

either : (a b c d : Bool) → (a || b) ≡ true → (b ≡ true → d ≡ true) → ((a || c) || d) ≡ true
either true b c d h f = refl
either false b true d h f = refl
either false b false d h f = f h

twice_in_front : (rs more : List Row) → names_twice rs ≡ true → names_twice (rs ++ more) ≡ true
twice_in_front [] more h = absurd (true≢false (sym h))
twice_in_front (r ∷ rs) more h =
    ap (λ b. b || names_twice (rs ++ more)) (list_any-append (shares_name r) rs more)
    ∙ either (list_any (shares_name r) rs) (names_twice rs) (list_any (shares_name r) more) (names_twice (rs ++ more)) h
    (twice_in_front rs more)

module _ (rows : List Row) (i : ℕ) (inside : i < length rows) where
  twice_more : names_twice (take (i + 1) rows) ≡ (names_twice (take i rows) || shares_earlier rows i)
  twice_more = ap names_twice (take_more rows i (new_row []) inside) ∙ twice_pushed (take i rows) (row_at rows i)

  twice_found : shares_earlier rows i ≡ true → names_twice rows ≡ true
  twice_found shares =
      ap names_twice (sym (take-append-drop (i + 1) rows))
      ∙ twice_in_front (take (i + 1) rows) (drop (i + 1) rows)
      (twice_more ∙ ap (λ b. names_twice (take i rows) || b) shares ∙ or-true (names_twice (take i rows)))

-- ---- a step of the search

module _ {X : Type 0} (view : X → Row) (xs : List X) (i : ℕ) (x : X) (inside : i < length xs) (at : x ≡ get_or xs i x) where
  rows_inside : i < length (map view xs)
  rows_inside = omega (arith, inside, length-map xs view)

  row_here : row_at (map view xs) i ≡ view x
  row_here = get_or-map view xs i x (new_row []) inside ∙ ap view (sym at)

  pub shares_if_met : (met : List ℕ → Bool) → ((q : List ℕ) → met q ≡ list_any (has_name q) (take i (map view xs)))
      → shares_earlier (map view xs) i ≡ was_met met (view x)
  shares_if_met met are =
      ap (λ r. list_any (shares_name r) (take i (map view xs))) row_here ∙ sym (met_shares met (view x) (take i (map view xs)) are)

  pub names_twice_here : shares_earlier (map view xs) i ≡ true → names_twice (map view xs) ≡ true
  names_twice_here = twice_found (map view xs) i rows_inside

  pub still_once : names_twice (take i (map view xs)) ≡ false → shares_earlier (map view xs) i ≡ false
      → names_twice (take (i + 1) (map view xs)) ≡ false
  still_once once apart =
      twice_more (map view xs) i rows_inside ∙ ap (λ b. b || shares_earlier (map view xs) i) once ∙ apart

  pub met_more : (q : List ℕ) → (list_any (has_name q) (take i (map view xs)) || has_name q (view x))
      ≡ list_any (has_name q) (take (i + 1) (map view xs))
  met_more q =
      ap (λ r. list_any (has_name q) (take i (map view xs)) || has_name q r) (sym row_here)
      ∙ sym (list_any_more (has_name q) (map view xs) i (new_row []) rows_inside)
