-- Additions that are put one after the other at their places in the order of the table.
use Rattle.std.proofs.Common.{◌≡◌, ℕ, List, [], ◌∷◌, ◌++◌, Bool, true, false, ◌||◌, ◌==◌, cond, Option, Some, is_some, append_assoc, refl, ap, sym, ◌∙◌, rules, String, Global, string_bytes}
use Rattle.std.specs.BTreeMap.{insert_entry, is_at}
use Rattle.std.specs.List.{list_any}
use Rattle.std.specs.Map.{lookup}
use Rattle.std.specs.Ordering.{nat_cmp, is_eq, match_ordering}
use Rattle.std.specs.declared.cmp.Ordering.{Ordering}
use Rattle.std.specs.declared.cmp.Ordering.TheVariants.{Less, Equal, Greater}
use Rattle.std.proofs.lemmas.List.{map-append}
use Rattle.toml.specs.View.{view, members_view}
use Rattle.toml.specs.declared.value.Value.{Value}
use Rattle.tokei_config.proofs.Lists.{behind, behind-more}
use Rattle.tokei_table.specs.Row.{Row}
use Rattle.tokei_config.specs.Languages.{Addition, named_twice, addition, additions}
use Rattle.tokei_config.specs.Seen.{additions_of, extensions_of}
use Rattle.tokei_config.specs.declared.language_config.LanguageConfig.{LanguageConfig}

abbrev pub Entries : Type 0
Entries = List (ℕ × LanguageConfig)

-- one more addition at its place
abbrev pub placed : List Addition → Addition → List Addition
placed done a = insert_entry nat_cmp done a.0 a.1

seen_by : (o : Ordering) (k : ℕ) (v : LanguageConfig) (e : ℕ × LanguageConfig) (es more : Entries) (more' : List Addition) → additions_of more ≡ more'
    → additions_of (match_ordering o ((k, v) ∷ e ∷ es) ((e.0, v) ∷ es) (e ∷ more))
    ≡ match_ordering o ((k, extensions_of v) ∷ (e.0, extensions_of e.1) ∷ additions_of es) ((e.0, extensions_of v) ∷ additions_of es) ((e.0, extensions_of e.1) ∷ more')
seen_by Less k v e es more more' h = refl
seen_by Equal k v e es more more' h = refl
seen_by Greater k v e es more more' h = ap (λ w. (e.0, extensions_of e.1) ∷ w) h

pub placed-seen : (es : Entries) (k : ℕ) (v : LanguageConfig) → additions_of (insert_entry nat_cmp es k v) ≡ placed (additions_of es) (k, extensions_of v)
placed-seen [] k v = refl
placed-seen (e ∷ es) k v = seen_by (nat_cmp k e.0) k v e es (insert_entry nat_cmp es k v) _ (placed-seen es k v)

or_swap : (a b c d : Bool) → ((a || b) || (c || d)) ≡ ((a || c) || (b || d))
or_swap true b c d = refl
or_swap false true true d = refl
or_swap false true false d = refl
or_swap false false c d = refl

or_moved : (a b c : Bool) → (a || (b || c)) ≡ ((b || a) || c)
or_moved true true c = refl
or_moved true false c = refl
or_moved false true c = refl
or_moved false false c = refl

some_of : {X : Type 0} (b : Bool) (v : X) (rest : Option X) → is_some (cond b (Some v) rest) ≡ (b || is_some rest)
some_of true v rest = refl
some_of false v rest = refl

-- whether a language has an entry
abbrev pub is_there : Entries → ℕ → Bool
is_there es k = is_some (lookup (is_at (nat_cmp k)) es)

-- whether a language of the additions has an entry, or two of them
abbrev pub clash : Entries → List Addition → Bool
clash es more = list_any (λ a. is_there es a.0) more || named_twice more

same-order : (k q : ℕ) → is_eq (nat_cmp k q) ≡ (q == k)
same-order k q = search rules

any-in : (es es' : Entries) (k : ℕ) (rest : List Addition) → ((q : ℕ) → is_there es' q ≡ ((q == k) || is_there es q))
    → (list_any (λ b. b.0 == k) rest || list_any (λ b. is_there es b.0) rest) ≡ list_any (λ b. is_there es' b.0) rest
any-in es es' k [] there = refl
any-in es es' k (b ∷ rest) there = rw (there b.0, ← any-in es es' k rest there) (or_swap (b.0 == k) (list_any (λ a. a.0 == k) rest) (is_there es b.0) (list_any (λ a. is_there es a.0) rest))

is_there-put : (es es' : Entries) (k : ℕ) (v : LanguageConfig) → ((q : ℕ) → lookup (is_at (nat_cmp q)) es' ≡ cond (is_eq (nat_cmp k q)) (Some v) (lookup (is_at (nat_cmp q)) es))
    → (q : ℕ) → is_there es' q ≡ ((q == k) || is_there es q)
is_there-put es es' k v puts q = ap is_some (puts q) ∙ some_of (is_eq (nat_cmp k q)) v _ ∙ ap (λ b. b || is_there es q) (same-order k q)

-- one more addition whose language has no entry
pub clash-put : (es es' : Entries) (k : ℕ) (v : LanguageConfig) (w : List (List ℕ)) (rest : List Addition) → is_there es k ≡ false
    → ((q : ℕ) → lookup (is_at (nat_cmp q)) es' ≡ cond (is_eq (nat_cmp k q)) (Some v) (lookup (is_at (nat_cmp q)) es))
    → clash es ((k, w) ∷ rest) ≡ clash es' rest
clash-put es es' k v w rest new puts =
    rw (new, ← any-in es es' k rest (is_there-put es es' k v puts))
    (or_moved (list_any (λ b. is_there es b.0) rest) (list_any (λ b. b.0 == k) rest)
    (named_twice rest))

-- one more member that is read
pub additions-read : (rows : List Row) (found : Entries) (k : String Global) (v : Value) (es iterator : List (String Global × Value)) (a : ℕ × LanguageConfig) → iterator ≡ (k, v) ∷ es
    → addition rows (string_bytes k) (view v) ≡ Some (a.0, extensions_of a.1)
    → behind (additions_of found) (additions rows (members_view iterator)) ≡ behind (additions_of (found ++ a ∷ [])) (additions rows (members_view es))
additions-read rows found k v es iterator a steps reads =
    rw (steps, reads, map-append) (behind-more (additions_of found) (a.0, extensions_of a.1) (additions rows (members_view es)))

none-there : (more : List Addition) → list_any (λ a. is_there [] a.0) more ≡ false
none-there [] = refl
none-there (a ∷ more) = none-there more

-- where no language has an entry
pub clash-none : (more : List Addition) → clash [] more ≡ named_twice more
clash-none more = rw (none-there more)

-- one more entry whose extensions are told
pub gained_more : (iterator es : Entries) (e : ℕ × LanguageConfig) (seen whole : List Addition) → iterator ≡ e ∷ es → seen ++ additions_of iterator ≡ whole
    → (seen ++ (e.0, extensions_of e.1) ∷ []) ++ additions_of es ≡ whole
gained_more iterator es e seen whole steps so = append_assoc seen ((e.0, extensions_of e.1) ∷ []) (additions_of es) ∙ ap (λ rest. seen ++ additions_of rest) (sym steps) ∙ so
