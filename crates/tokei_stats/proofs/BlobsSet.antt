-- Statistics that are set where their language is found are put there.
use Rattle.std.proofs.Common.{◌≡◌, ℕ, cond, List, [], ◌∷◌, None, Some, refl, sym, ◌∙◌, ap}
use Rattle.std.specs.Ordering.{nat_cmp, match_ordering, is_eq}
use Rattle.std.specs.Cmp.{nat_cmp_total}
use Rattle.std.specs.declared.cmp.Ordering.{Ordering}
use Rattle.std.specs.declared.cmp.Ordering.TheVariants.{Less, Equal, Greater}
use Rattle.std.specs.List.Sorted.{IsStrictlySortedBy}
use Rattle.std.specs.Map.{keys_of, lookup, set_value}
use Rattle.std.specs.BTreeMap.{insert_entry, is_at}
use Rattle.std.proofs.lemmas.Map.{lookup-none}
use Rattle.std.proofs.lemmas.Map.Entries.{none_below_head}
use Rattle.std.proofs.lemmas.Map.Keys.{sorted_tail}
use Rattle.tokei_stats.specs.declared.stats.CodeStats.{CodeStats}

set_by : (o : Ordering) (k : ℕ) (v w : CodeStats) (e : ℕ × CodeStats) (es : List (ℕ × CodeStats))
    → nat_cmp k e.0 ≡ o → IsStrictlySortedBy nat_cmp (keys_of (e ∷ es))
    → lookup (is_at (nat_cmp k)) (e ∷ es) ≡ Some v
    → (lookup (is_at (nat_cmp k)) es ≡ Some v → set_value (is_at (nat_cmp k)) es w ≡ insert_entry nat_cmp es k w)
    → cond (is_eq o) ((e.0, w) ∷ es) (e ∷ set_value (is_at (nat_cmp k)) es w)
    ≡ match_ordering o ((k, w) ∷ e ∷ es) ((e.0, w) ∷ es) (e ∷ insert_entry nat_cmp es k w)
set_by Less k v w e es q sorted h more =
    let none : lookup (is_at (nat_cmp k)) (e ∷ es) ≡ None = lookup-none (is_at (nat_cmp k)) (e ∷ es) (none_below_head nat_cmp_total k e es sorted q) in
    absurd (let bad : Some v ≡ None = sym h ∙ none in cc)
set_by Equal k v w e es q sorted h more = refl
set_by Greater k v w e es q sorted h more =
    ap (λ fs. e ∷ fs) (more (ap (λ o. cond (is_eq o) (Some e.1) (lookup (is_at (nat_cmp k)) es)) (sym q) ∙ h))

pub set_inserts : (es : List (ℕ × CodeStats)) (k : ℕ) (v w : CodeStats) → IsStrictlySortedBy nat_cmp (keys_of es)
    → lookup (is_at (nat_cmp k)) es ≡ Some v → set_value (is_at (nat_cmp k)) es w ≡ insert_entry nat_cmp es k w
set_inserts [] k v w sorted h = cc
set_inserts (e ∷ es) k v w sorted h =
    set_by (nat_cmp k e.0) k v w e es refl sorted h
    (λ j. set_inserts es k v w (sorted_tail nat_cmp e.0 (keys_of es) sorted) j)
