-- The member that is found in a tree whose objects have their keys in order is that of the data.
use Rattle.std.proofs.Common.{◌≡◌, ℕ, zero, suc, ◌<◌, List, [], ◌∷◌, ◌++◌, Bor, Some, None, Option, refl, sym, ap, ◌∙◌, subst, length}
use Rattle.std.proofs.Common.{get_or, drop, Less, Equal, Greater, arith}
use Rattle.std.proofs.lemmas.Cmp.{nat_list_cmp_total}
use Rattle.std.specs.Cmp.Lexicographic.{slice_cmp}
use Rattle.std.specs.List.Sorted.{IsStrictlySortedBy}
use Rattle.std.specs.Ordering.{nat_cmp, match_ordering, ordering_reverse}
use Rattle.json.specs.Value.{value_view, members_view}
use Rattle.json.specs.declared.value.Value.{Value}
use Rattle.serde_json.specs.Data.{Data, Members}
use Rattle.serde_json.specs.Find.{get_member}
use Rattle.tokei_json_tree.specs.Ordered.{keys_of, AreBefore, AreKeysInOrder, AreMembersOrdered, IsOrdered}
use Rattle.tokei_json_tree.specs.TreeData.{data_of, members_data}
use Rattle.tokei_json_tree.proofs.Orderings.{IsBeforeAll, at_place, before_all, turned}

abbrev Key : Type 0
Key = List ℕ

-- past a member whose key is another
past : (name l : Key) (e : Data) (ms : Members) (o : _) → slice_cmp nat_cmp name l ≡ o
    → match_ordering o (get_member name ms) (Some e) (get_member name ms) ≡ get_member name ms
    → match_ordering (slice_cmp nat_cmp name l) (get_member name ms) (Some e) (get_member name ms) ≡ get_member name ms
past name l e ms o same h = ap (λ x. match_ordering x (get_member name ms) (Some e) (get_member name ms)) same ∙ h

module _ (A : Type 0) where
  abbrev Entry : Type 0
  Entry = Bor (List ℕ) × Value A

  abbrev keys : List Entry → List Key
  keys es = keys_of (members_view es)

  abbrev found : Key → List Entry → Option Data
  found name es = get_member name (members_data (members_view es))

  pub absent : (name : Key) (pre post : List Entry) → AreBefore (keys pre) name → IsBeforeAll name (keys post)
      → found name (pre ++ post) ≡ None
  absent name [] [] before behind = refl
  absent name [] (x ∷ post) before behind =
      past name x.0.now (data_of (value_view x.1)) (members_data (members_view post)) Less behind.0 refl
      ∙ absent name [] post tt behind.1
  absent name (x ∷ pre) post before behind =
      past name x.0.now (data_of (value_view x.1)) (members_data (members_view (pre ++ post))) Greater (turned x.0.now name before.0) refl
      ∙ absent name pre post before.1 behind

  pub found_at : (name : Key) (es : List Entry) (i : ℕ) (x : Entry) → i < length es → x ≡ get_or es i x
      → AreKeysInOrder (members_view es) → slice_cmp nat_cmp x.0.now name ≡ Equal → found name es ≡ Some (data_of (value_view x.1))
  unfolding IsStrictlySortedBy
  found_at name [] i x l e s same = absurd (omega (arith, l))
  found_at name (y ∷ es) zero x l e s same =
      let here = subst (λ z. slice_cmp nat_cmp z.0.now name ≡ Equal) e same in
      ap (λ o. match_ordering o (found name es) (Some (data_of (value_view y.1))) (found name es))
      (nat_list_cmp_total.antisymm name y.0.now ∙ ap ordering_reverse here)
      ∙ ap (λ z. Some (data_of (value_view z.1))) (sym e)
  found_at name (y ∷ es) (suc i) x l e s same =
      let below = at_place _ (λ q. slice_cmp nat_cmp y.0.now q ≡ Less) es i x (omega (arith, l)) e s.0 in
      past name y.0.now (data_of (value_view y.1)) (members_data (members_view es)) Greater
      (sym (nat_list_cmp_total.congr x.0.now name y.0.now same) ∙ turned y.0.now x.0.now below) refl
      ∙ found_at name es i x (omega (arith, l)) e s.1 same

  pub last_behind : (name : Key) (es : List Entry) (i : ℕ) (x : Entry) → i < length es → x ≡ get_or es i x
      → AreKeysInOrder (members_view es) → slice_cmp nat_cmp x.0.now name ≡ Greater → IsBeforeAll name (keys (drop i es))
  unfolding IsStrictlySortedBy
  last_behind name [] i x l e s more = absurd (omega (arith, l))
  last_behind name (y ∷ es) zero x l e s more =
      let here = subst (λ z. slice_cmp nat_cmp z.0.now name ≡ Greater) e more in
      let less : slice_cmp nat_cmp name y.0.now ≡ Less = nat_list_cmp_total.antisymm name y.0.now ∙ ap ordering_reverse here in
      (less, before_all name y.0.now (keys es) less s.0)
  last_behind name (y ∷ es) (suc i) x l e s more = last_behind name es i x (omega (arith, l)) e s.1 more

  pub ordered_at : (es : List Entry) (i : ℕ) (x : Entry) → i < length es → x ≡ get_or es i x → AreMembersOrdered (members_view es)
      → IsOrdered (value_view x.1)
  ordered_at [] i x l e h = absurd (omega (arith, l))
  ordered_at (y ∷ es) zero x l e h = subst (λ z. IsOrdered (value_view z.1)) (sym e) h.0
  ordered_at (y ∷ es) (suc i) x l e h = ordered_at es i x (omega (arith, l)) e h.1
