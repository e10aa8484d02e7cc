-- A row with a path suffix of a name has one with the name's last two bytes, where none is short.
use Rattle.std.proofs.Common.{◌≡◌, ℕ, ◌+◌, ◌-◌, Bool, true, false, ◌||◌, List, [], ◌∷◌, length, drop, map}
use Rattle.std.proofs.Common.{refl, ap, ◌∙◌, arith, true≢false}
use Rattle.std.proofs.lemmas.List.{drop-drop, length-drop}
use Rattle.std.proofs.lemmas.Slice.Eq.{bytes_eq-Decides}
use Rattle.std.specs.List.{list_any}
use Rattle.std.specs.Prelude.{bytes_eq}
use Rattle.tokei_table_row.specs.Bytes.{ends, holds}
use Rattle.tokei_table_row.specs.Row.{Row}
use Rattle.tokei_table_rules.proofs.TextIndex.{Leads, first_that_has}
use Rattle.tokei_table_rules.specs.Lookups.{first_where, ends_with_one, has_path_suffix}
use Rattle.tokei_table_rules.specs.PathSuffixes.{tail_of, suffix_tails, is_short, has_short_suffix}
use Rattle.tokei_table_rules.specs.TextIndex.{first_among, group_of, in_group, entries_from}

-- a text that ends with a longer one has its last two bytes
same_tail : (s t : List ℕ) → is_short s ≡ false → ends s t ≡ true → tail_of s ≡ tail_of t
same_tail [] t long e = absurd (true≢false long)
same_tail (a ∷ []) t long e = absurd (true≢false long)
same_tail (a ∷ b ∷ s) t long e =
    let n = length t - length (a ∷ b ∷ s) in
    let is : (a ∷ b ∷ s) ≡ drop n t = (bytes_eq-Decides (a ∷ b ∷ s) (drop n t)).0 e in
    let m = length (drop n t) - 2 in
    let f : n + m ≡ length t - 2 = omega (arith, ap length is, length-drop n t) in
    ap tail_of is ∙ drop-drop m n t ∙ ap (λ k. drop k t) f

left_of : (a b : Bool) → (a || b) ≡ false → a ≡ false
left_of true b h = absurd (true≢false h)
left_of false b h = refl

right_of : (a b : Bool) → (a || b) ≡ false → b ≡ false
right_of true b h = absurd (true≢false h)
right_of false b h = h

tail_met : (s : List ℕ) (ss : List (List ℕ)) (t : List ℕ) → is_short s ≡ false
    → (list_any (λ s. ends s t) ss ≡ true → holds (map tail_of ss) (tail_of t) ≡ true)
    → (b : Bool) → ends s t ≡ b → (b || list_any (λ s. ends s t) ss) ≡ true
    → holds (map tail_of (s ∷ ss)) (tail_of t) ≡ true
tail_met s ss t long later true q e =
    ap (λ b. b || holds (map tail_of ss) (tail_of t))
    ((bytes_eq-Decides (tail_of s) (tail_of t)).1 (same_tail s t long q))
tail_met s ss t long later false q e = either (bytes_eq (tail_of s) (tail_of t)) (later e)
  where
    either : (c : Bool) → holds (map tail_of ss) (tail_of t) ≡ true → (c || holds (map tail_of ss) (tail_of t)) ≡ true
    either true h = refl
    either false h = h

has_tail : (ss : List (List ℕ)) (t : List ℕ) → list_any is_short ss ≡ false
    → list_any (λ s. ends s t) ss ≡ true → holds (map tail_of ss) (tail_of t) ≡ true
has_tail [] t long e = e
has_tail (s ∷ ss) t long e =
    tail_met s ss t (left_of (is_short s) (list_any is_short ss) long)
    (has_tail ss t (right_of (is_short s) (list_any is_short ss) long)) (ends s t) refl e

have_tails : (name : List ℕ) (rs : List Row) → list_any has_short_suffix rs ≡ false
    → Leads (has_path_suffix name) suffix_tails (tail_of name) rs
unfolding ends_with_one
have_tails name [] long = tt
have_tails name (r ∷ rs) long = (
  has_tail r.path_suffixes name (left_of (has_short_suffix r) (list_any has_short_suffix rs) long),
  have_tails name rs (right_of (has_short_suffix r) (list_any has_short_suffix rs) long),
)

pub first_of_suffixed : (name : List ℕ) (rows : List Row) → list_any has_short_suffix rows ≡ false
    → first_among (has_path_suffix name) rows (in_group (group_of (tail_of name)) (entries_from suffix_tails 0 rows))
    ≡ first_where (has_path_suffix name) rows
first_of_suffixed name rows long =
    first_that_has (has_path_suffix name) suffix_tails (tail_of name) rows (have_tails name rows long)
