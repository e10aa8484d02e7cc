-- What a change of one entry of a map does to its entries as they are seen by a view of their values.
use Rattle.std.proofs.Common.{◌≡◌, ℕ, Bool, true, false, cond, List, [], ◌∷◌, Option, None, Some, option_map, map, refl, sym, ◌∙◌, ap}
use Rattle.std.specs.Ordering.{nat_cmp, match_ordering, ordering_reverse, is_eq}
use Rattle.std.specs.Cmp.{nat_cmp_total}
use Rattle.std.specs.declared.cmp.Ordering.{Ordering}
use Rattle.std.specs.declared.cmp.Ordering.TheVariants.{Less, Equal, Greater}
use Rattle.std.specs.List.Sorted.{IsStrictlySortedBy}
use Rattle.std.specs.Map.{keys_of, lookup, set_value, remove_entry}
use Rattle.std.specs.BTreeMap.{insert_entry, is_at}
use Rattle.std.proofs.lemmas.Map.{lookup-none}
use Rattle.std.proofs.lemmas.Map.Entries.{none_below_head}
use Rattle.std.proofs.lemmas.Map.Keys.{sorted_tail}
use Rattle.tokei_languages.specs.Maps.{put_at, taken_back, kept}

own_reverse : (o : Ordering) → o ≡ ordering_reverse o → o ≡ Equal
own_reverse Less h = cc
own_reverse Equal h = refl
own_reverse Greater h = cc

same_key : (k : ℕ) → nat_cmp k k ≡ Equal
same_key k = own_reverse (nat_cmp k k) (nat_cmp_total.antisymm k k)

module _ {V S : Type 0} (view : V → S) where
  -- the entries as they are seen
  abbrev pub seen : List (ℕ × V) → List (ℕ × S)
  seen es = map (λ e. (e.0, view e.1)) es

  abbrev at : ℕ → List (ℕ × V) → Option V
  at k es = lookup (is_at (nat_cmp k)) es

  at_by : (b : Bool) (e : ℕ × V) (r : Option S) (q : Option V) → r ≡ option_map view q → cond b (Some (view e.1)) r ≡ option_map view (cond b (Some e.1) q)
  at_by true e r q h = refl
  at_by false e r q h = h

  -- what a key has
  pub at_seen : (k : ℕ) (es : List (ℕ × V)) → lookup (is_at (nat_cmp k)) (seen es) ≡ option_map view (at k es)
  at_seen k [] = refl
  at_seen k (e ∷ es) = at_by (is_at (nat_cmp k) e.0) e (lookup (is_at (nat_cmp k)) (seen es)) (at k es) (at_seen k es)

  pub keys_seen : (es : List (ℕ × V)) → keys_of (seen es) ≡ keys_of es
  keys_seen [] = refl
  keys_seen (e ∷ es) = ap (λ ks. e.0 ∷ ks) (keys_seen es)

  plain_by : (o : Ordering) (k : ℕ) (v : V) (e : ℕ × V) (es more : List (ℕ × V)) (more' : List (ℕ × S))
      → seen more ≡ more'
      → seen (match_ordering o ((k, v) ∷ e ∷ es) ((e.0, v) ∷ es) (e ∷ more))
      ≡ match_ordering o ((k, view v) ∷ seen (e ∷ es)) ((e.0, view v) ∷ seen es) ((e.0, view e.1) ∷ more')
  plain_by Less k v e es more more' h = refl
  plain_by Equal k v e es more more' h = refl
  plain_by Greater k v e es more more' h = ap (λ fs. (e.0, view e.1) ∷ fs) h

  -- an insertion is seen as one
  pub inserted_seen : (es : List (ℕ × V)) (k : ℕ) (v : V) → seen (insert_entry nat_cmp es k v) ≡ insert_entry nat_cmp (seen es) k (view v)
  inserted_seen [] k v = refl
  inserted_seen (e ∷ es) k v = plain_by (nat_cmp k e.0) k v e es (insert_entry nat_cmp es k v) (insert_entry nat_cmp (seen es) k (view v)) (inserted_seen es k v)

  insert_by : (f : S → S) (o : Ordering) (k : ℕ) (v : V) (e : ℕ × V) (es : List (ℕ × V))
      → cond (is_eq o) (Some e.1) (at k es) ≡ None
      → (at k es ≡ None → seen (insert_entry nat_cmp es k v) ≡ put_at f (view v) (seen es) k)
      → seen (match_ordering o ((k, v) ∷ e ∷ es) ((e.0, v) ∷ es) (e ∷ insert_entry nat_cmp es k v))
      ≡ match_ordering o ((k, view v) ∷ seen (e ∷ es)) ((e.0, f (view e.1)) ∷ seen es) ((e.0, view e.1) ∷ put_at f (view v) (seen es) k)
  insert_by f Less k v e es h more = refl
  insert_by f Equal k v e es h more = cc
  insert_by f Greater k v e es h more = ap (λ fs. (e.0, view e.1) ∷ fs) (more h)

  -- a new key's entry is inserted
  pub insert_seen : (f : S → S) (es : List (ℕ × V)) (k : ℕ) (v : V) → at k es ≡ None
      → seen (insert_entry nat_cmp es k v) ≡ put_at f (view v) (seen es) k
  insert_seen f [] k v h = refl
  insert_seen f (e ∷ es) k v h = insert_by f (nat_cmp k e.0) k v e es h (insert_seen f es k v)

  uninsert_by : (o : Ordering) (k : ℕ) (v : V) (e : ℕ × V) (es : List (ℕ × V))
      → nat_cmp k e.0 ≡ o
      → cond (is_eq o) (Some e.1) (at k es) ≡ None
      → (at k es ≡ None → taken_back None (seen (insert_entry nat_cmp es k v)) k ≡ seen es)
      → taken_back None (seen (match_ordering o ((k, v) ∷ e ∷ es) ((e.0, v) ∷ es) (e ∷ insert_entry nat_cmp es k v))) k ≡ seen (e ∷ es)
  uninsert_by Less k v e es q h more = ap (λ o. cond (is_eq o) (seen (e ∷ es)) ((k, view v) ∷ taken_back None (seen (e ∷ es)) k)) (same_key k)
  uninsert_by Equal k v e es q h more = cc
  uninsert_by Greater k v e es q h more =
      ap (λ o. cond (is_eq o) (seen (insert_entry nat_cmp es k v)) ((e.0, view e.1) ∷ taken_back None (seen (insert_entry nat_cmp es k v)) k)) q
      ∙ ap (λ fs. (e.0, view e.1) ∷ fs) (more h)

  -- and taken out
  pub insert_taken_back : (es : List (ℕ × V)) (k : ℕ) (v : V) → at k es ≡ None
      → taken_back None (seen (insert_entry nat_cmp es k v)) k ≡ seen es
  insert_taken_back [] k v h = ap (λ o. cond (is_eq o) [] ((k, view v) ∷ [])) (same_key k)
  insert_taken_back (e ∷ es) k v h = uninsert_by (nat_cmp k e.0) k v e es refl h (insert_taken_back es k v)

  set_by : (f : S → S) (s : S) (o : Ordering) (k : ℕ) (v w : V) (e : ℕ × V) (es : List (ℕ × V))
      → nat_cmp k e.0 ≡ o
      → IsStrictlySortedBy nat_cmp (keys_of (e ∷ es))
      → at k (e ∷ es) ≡ Some v
      → view w ≡ f (view v)
      → (at k es ≡ Some v → seen (set_value (is_at (nat_cmp k)) es w) ≡ put_at f s (seen es) k)
      → seen (cond (is_eq o) ((e.0, w) ∷ es) (e ∷ set_value (is_at (nat_cmp k)) es w))
      ≡ match_ordering o ((k, s) ∷ seen (e ∷ es)) ((e.0, f (view e.1)) ∷ seen es) ((e.0, view e.1) ∷ put_at f s (seen es) k)
  set_by f s Less k v w e es q sorted h i more =
      let none : at k (e ∷ es) ≡ None = lookup-none (is_at (nat_cmp k)) (e ∷ es) (none_below_head nat_cmp_total k e es sorted q) in
      absurd (let bad : Some v ≡ None = sym h ∙ none in cc)
  set_by f s Equal k v w e es q sorted h i more =
      let there : Some e.1 ≡ Some v = ap (λ o. cond (is_eq o) (Some e.1) (at k es)) (sym q) ∙ h in
      let same : e.1 ≡ v = cc in
      ap (λ x. (e.0, x) ∷ seen es) (i ∙ ap (λ u. f (view u)) (sym same))
  set_by f s Greater k v w e es q sorted h i more =
      ap (λ fs. (e.0, view e.1) ∷ fs) (more (ap (λ o. cond (is_eq o) (Some e.1) (at k es)) (sym q) ∙ h))

  -- the value of a key that is there becomes f of it
  pub set_seen : (f : S → S) (s : S) (es : List (ℕ × V)) (k : ℕ) (v w : V) → IsStrictlySortedBy nat_cmp (keys_of es)
      → at k es ≡ Some v → view w ≡ f (view v)
      → seen (set_value (is_at (nat_cmp k)) es w) ≡ put_at f s (seen es) k
  set_seen f s [] k v w sorted h i = cc
  set_seen f s (e ∷ es) k v w sorted h i = set_by f s (nat_cmp k e.0) k v w e es refl sorted h i (λ j. set_seen f s es k v w (sorted_tail nat_cmp e.0 (keys_of es) sorted) j i)

  take_by : (g : S → S) (b : Bool) (k : ℕ) (v w : V) (e : ℕ × V) (es : List (ℕ × V))
      → cond b (Some e.1) (at k es) ≡ Some v
      → view w ≡ g (view v)
      → (at k es ≡ Some v → seen (set_value (is_at (nat_cmp k)) es w) ≡ taken_back (Some g) (seen es) k)
      → seen (cond b ((e.0, w) ∷ es) (e ∷ set_value (is_at (nat_cmp k)) es w)) ≡ cond b (kept (Some g) (e.0, view e.1) (seen es)) ((e.0, view e.1) ∷ taken_back (Some g) (seen es) k)
  take_by g true k v w e es h i more =
      let same : e.1 ≡ v = cc in
      ap (λ x. (e.0, x) ∷ seen es) (i ∙ ap (λ u. g (view u)) (sym same))
  take_by g false k v w e es h i more = ap (λ fs. (e.0, view e.1) ∷ fs) (more h)

  -- the value of a key that is there is taken back
  pub take_seen : (g : S → S) (es : List (ℕ × V)) (k : ℕ) (v w : V) → at k es ≡ Some v → view w ≡ g (view v)
      → seen (set_value (is_at (nat_cmp k)) es w) ≡ taken_back (Some g) (seen es) k
  take_seen g [] k v w h i = cc
  take_seen g (e ∷ es) k v w h i = take_by g (is_at (nat_cmp k) e.0) k v w e es h i (λ j. take_seen g es k v w j i)

  same_by : (b : Bool) (k : ℕ) (v w : V) (e : ℕ × V) (es : List (ℕ × V))
      → cond b (Some e.1) (at k es) ≡ Some v
      → view w ≡ view v
      → (at k es ≡ Some v → seen (set_value (is_at (nat_cmp k)) es w) ≡ seen es)
      → seen (cond b ((e.0, w) ∷ es) (e ∷ set_value (is_at (nat_cmp k)) es w)) ≡ seen (e ∷ es)
  same_by true k v w e es h i more =
      let same : e.1 ≡ v = cc in
      ap (λ x. (e.0, x) ∷ seen es) (i ∙ ap view (sym same))
  same_by false k v w e es h i more = ap (λ fs. (e.0, view e.1) ∷ fs) (more h)

  -- a value that is seen as it was
  pub same_seen : (es : List (ℕ × V)) (k : ℕ) (v w : V) → at k es ≡ Some v → view w ≡ view v
      → seen (set_value (is_at (nat_cmp k)) es w) ≡ seen es
  same_seen [] k v w h i = cc
  same_seen (e ∷ es) k v w h i = same_by (is_at (nat_cmp k) e.0) k v w e es h i (λ j. same_seen es k v w j i)

  remove_by : (b : Bool) (k : ℕ) (e : ℕ × V) (es : List (ℕ × V))
      → seen (remove_entry (is_at (nat_cmp k)) es) ≡ taken_back None (seen es) k
      → seen (cond b es (e ∷ remove_entry (is_at (nat_cmp k)) es)) ≡ cond b (seen es) ((e.0, view e.1) ∷ taken_back None (seen es) k)
  remove_by true k e es more = refl
  remove_by false k e es more = ap (λ fs. (e.0, view e.1) ∷ fs) more

  -- an entry is taken out
  pub remove_seen : (es : List (ℕ × V)) (k : ℕ) → seen (remove_entry (is_at (nat_cmp k)) es) ≡ taken_back None (seen es) k
  remove_seen [] k = refl
  remove_seen (e ∷ es) k = remove_by (is_at (nat_cmp k) e.0) k e es (remove_seen es k)

  none_by : (g : Option (S → S)) (b : Bool) (k : ℕ) (e : ℕ × V) (es : List (ℕ × V))
      → cond b (Some e.1) (at k es) ≡ None
      → (at k es ≡ None → seen es ≡ taken_back g (seen es) k)
      → seen (e ∷ es) ≡ cond b (kept g (e.0, view e.1) (seen es)) ((e.0, view e.1) ∷ taken_back g (seen es) k)
  none_by g true k e es h more = cc
  none_by g false k e es h more = ap (λ fs. (e.0, view e.1) ∷ fs) (more h)

  -- nothing is there to be taken back
  pub none_seen : (g : Option (S → S)) (es : List (ℕ × V)) (k : ℕ) → at k es ≡ None → seen es ≡ taken_back g (seen es) k
  none_seen g [] k h = refl
  none_seen g (e ∷ es) k h = none_by g (is_at (nat_cmp k) e.0) k e es h (none_seen g es k)

  back_by : (g : S → S) (b : Bool) (k : ℕ) (v w : V) (e : ℕ × V) (es : List (ℕ × V))
      → is_at (nat_cmp k) e.0 ≡ b
      → cond b (Some e.1) (at k es) ≡ Some v
      → g (view w) ≡ view v
      → (at k es ≡ Some v → taken_back (Some g) (seen (set_value (is_at (nat_cmp k)) es w)) k ≡ seen es)
      → taken_back (Some g) (seen (cond b ((e.0, w) ∷ es) (e ∷ set_value (is_at (nat_cmp k)) es w))) k ≡ seen (e ∷ es)
  back_by g true k v w e es q h i more =
      let same : e.1 ≡ v = cc in
      ap (λ b. cond b ((e.0, g (view w)) ∷ seen es) ((e.0, view w) ∷ taken_back (Some g) (seen es) k)) q
      ∙ ap (λ x. (e.0, x) ∷ seen es) (i ∙ ap view (sym same))
  back_by g false k v w e es q h i more =
      ap (λ b. cond b (kept (Some g) (e.0, view e.1) (seen (set_value (is_at (nat_cmp k)) es w))) ((e.0, view e.1) ∷ taken_back (Some g) (seen (set_value (is_at (nat_cmp k)) es w)) k)) q
      ∙ ap (λ fs. (e.0, view e.1) ∷ fs) (more h)

  -- what was done to the value of a key that is there is taken back
  pub set_taken_back : (g : S → S) (es : List (ℕ × V)) (k : ℕ) (v w : V) → at k es ≡ Some v → g (view w) ≡ view v
      → taken_back (Some g) (seen (set_value (is_at (nat_cmp k)) es w)) k ≡ seen es
  set_taken_back g [] k v w h i = cc
  set_taken_back g (e ∷ es) k v w h i = back_by g (is_at (nat_cmp k) e.0) k v w e es refl h i (λ j. set_taken_back g es k v w j i)
