-- A key or a name of a table leads back to its language.
use Rattle.std.proofs.Common.{◌≡◌, ℕ, zero, suc, ◌<◌, List, [], ◌∷◌, length, Bool, true, false, ◌||◌, cond, Some, None, option_map, codes, bytes_eq, refl, sym, ap, ◌∙◌, arith, true≢false, ◌⊎◌, inl, inr}
use Rattle.std.proofs.lemmas.Slice.Eq.{bytes_eq-Decides}
use Rattle.std.specs.List.{list_any}
use Rattle.tokei_table.specs.Lookups.{first_where, has_name, row_at}
use Rattle.tokei_table.specs.Row.{Row}
use Rattle.tokei_table.specs.RowNames.{shares_name, names_twice, is_total}

pub left_false : (a b : Bool) → (a || b) ≡ false → a ≡ false
left_false true b h = h
left_false false b h = refl

pub right_false : (a b : Bool) → (a || b) ≡ false → b ≡ false
right_false true b h = absurd (true≢false h)
right_false false b h = h

pub left_true : (a b : Bool) → a ≡ true → (a || b) ≡ true
left_true true b h = refl
left_true false b h = absurd (true≢false (sym h))

pub right_true : (a b : Bool) → b ≡ true → (a || b) ≡ true
right_true true b h = refl
right_true false b h = h

pub either_true : (a b : Bool) → (a || b) ≡ true → (a ≡ true) ⊎ (b ≡ true)
either_true true b h = inl refl
either_true false b h = inr h

pub not_true : (b : Bool) → (b ≡ true → ⊥) → b ≡ false
not_true true h = absurd (h refl)
not_true false h = refl

met : (a b word : List ℕ) → bytes_eq a word ≡ true → bytes_eq b word ≡ true → bytes_eq a b ≡ true
met a b word h k = (bytes_eq-Decides a b).1 ((bytes_eq-Decides a word).0 h ∙ sym ((bytes_eq-Decides b word).0 k))

of_first : (a b c d : Bool) → a ≡ true → (a || b || c || d) ≡ true
of_first true b c d h = refl
of_first false b c d h = absurd (true≢false (sym h))

of_second : (a b c d : Bool) → b ≡ true → (a || b || c || d) ≡ true
of_second true b c d h = refl
of_second false true c d h = refl
of_second false false c d h = absurd (true≢false (sym h))

of_third : (a b c d : Bool) → c ≡ true → (a || b || c || d) ≡ true
of_third true b c d h = refl
of_third false true c d h = refl
of_third false false true d h = refl
of_third false false false d h = absurd (true≢false (sym h))

of_fourth : (a b c d : Bool) → d ≡ true → (a || b || c || d) ≡ true
of_fourth true b c d h = refl
of_fourth false true c d h = refl
of_fourth false false true d h = refl
of_fourth false false false d h = h

-- two rows that one word names share a name
shared : (r q : Row) (word : List ℕ) → has_name word r ≡ true → has_name word q ≡ true → shares_name r q ≡ true
shared r q word h k =
    let kk = bytes_eq r.key q.key in
    let kn = bytes_eq r.key q.name in
    let nk = bytes_eq r.name q.key in
    let nn = bytes_eq r.name q.name in
    elim (either_true (bytes_eq r.key word) (bytes_eq r.name word) h) [
      | inl a ↦ elim (either_true (bytes_eq q.key word) (bytes_eq q.name word) k) [
        | inl b ↦ of_first kk kn nk nn (met r.key q.key word a b)
        | inr b ↦ of_second kk kn nk nn (met r.key q.name word a b)
      ]
      | inr a ↦ elim (either_true (bytes_eq q.key word) (bytes_eq q.name word) k) [
        | inl b ↦ of_third kk kn nk nn (met r.name q.key word a b)
        | inr b ↦ of_fourth kk kn nk nn (met r.name q.name word a b)
      ]
    ]

apart : (r : Row) (rs : List Row) (k : ℕ) → k < length rs → list_any (shares_name r) rs ≡ false → shares_name r (row_at rs k) ≡ false
apart r [] k h e = absurd (omega arith)
apart r (s ∷ rs) zero h e = left_false _ _ e
apart r (s ∷ rs) (suc k) h e = apart r rs k (omega arith) (right_false _ _ e)

-- the language of a word that is its key or its name
pub named : (rows : List Row) (k : ℕ) (word : List ℕ) → k < length rows → names_twice rows ≡ false → has_name word (row_at rows k) ≡ true
    → first_where (has_name word) rows ≡ Some k
named [] k word h once is = absurd (omega arith)
named (r ∷ rs) zero word h once is = ap (λ b. cond b (Some 0) (option_map suc (first_where (has_name word) rs))) is
named (r ∷ rs) (suc k) word h once is =
    let within : k < length rs = omega arith in
    let other : has_name word r ≡ false = not_true (has_name word r) (λ here. true≢false (sym (shared r (row_at rs k) word here is) ∙ apart r rs k within (left_false _ _ once))) in
    ap (λ b. cond b (Some 0) (option_map suc (first_where (has_name word) rs))) other
    ∙ ap (option_map suc) (named rs k word within (right_false _ _ once) is)

pub named_by_name : (rows : List Row) (k : ℕ) → k < length rows → names_twice rows ≡ false → first_where (has_name (row_at rows k).name) rows ≡ Some k
named_by_name rows k h once =
    named rows k (row_at rows k).name h once (right_true
    (bytes_eq (row_at rows k).key (row_at rows k).name)
    (bytes_eq (row_at rows k).name (row_at rows k).name)
    ((bytes_eq-Decides (row_at rows k).name (row_at rows k).name).1 refl))

pub named_by_key : (rows : List Row) (k : ℕ) → k < length rows → names_twice rows ≡ false → first_where (has_name (row_at rows k).key) rows ≡ Some k
named_by_key rows k h once =
    named rows k (row_at rows k).key h once (left_true
    (bytes_eq (row_at rows k).key (row_at rows k).key)
    (bytes_eq (row_at rows k).name (row_at rows k).key)
    ((bytes_eq-Decides (row_at rows k).key (row_at rows k).key).1 refl))

-- `Total` names no language
pub total_unnamed : (rows : List Row) → list_any is_total rows ≡ false → first_where (has_name (codes "Total")) rows ≡ None
total_unnamed [] h = refl
total_unnamed (r ∷ rs) h =
    ap (λ b. cond b (Some 0) (option_map suc (first_where (has_name (codes "Total")) rs))) (left_false _ _ h)
    ∙ ap (option_map suc) (total_unnamed rs (right_false _ _ h))
