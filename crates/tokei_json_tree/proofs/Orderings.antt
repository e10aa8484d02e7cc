-- Members whose keys are put in order, and what a tree made so stands for.
use Rattle.std.proofs.Common.{◌≡◌, ℕ, zero, suc, ◌<◌, ◌≤◌, ◌+◌, ◌-◌, drop, List, [], ◌∷◌, ◌++◌, length, take, get_or, is_lt, arith, Bool}
use Rattle.std.proofs.Common.{false, ◌||◌, Bor, refl, sym, ap, ◌∙◌, subst, true, rules, Ordering, Less, Equal, Greater, option_map, option_and_then, Vec, Option, None, Some, is_some}
use Rattle.std.proofs.lemmas.Cmp.{nat_list_cmp_total}
use Rattle.std.specs.Cmp.Lexicographic.{slice_cmp}
use Rattle.std.specs.List.{AllByRecursion}
use Rattle.std.specs.List.Sorted.{IsStrictlySortedBy}
use Rattle.std.specs.Ordering.{nat_cmp, match_ordering, ordering_reverse}
use Rattle.json.specs.Json as json
use Rattle.json.proofs.Trees.{view-Array, view-Object}
use Rattle.json.specs.Value.{value_view, items_view, members_view}
use Rattle.json.specs.declared.value.Value.{Value, Number, Array, Object, the_lemmas}
use Rattle.serde_json.specs.Data.{Num, unsigned, negative, float, number, Data, array, object, item, Members, no_members, member, put}
use Rattle.serde_json.specs.Find.{as_u64}
use Rattle.serde_json.specs.Read.{number_of, of_items, of_members}
use Rattle.serde_json.specs.Written.{has_float, items_have_float, members_have_float}
use Rattle.tokei_json_tree.specs.Ordered.{keys_of, AreBefore, AreKeysInOrder, IsOrdered, AreMembersOrdered}
use Rattle.tokei_json_tree.specs.Orderings.{AreItemsOrderingOf, AreMembersOrderingOf, IsOrderingOf, IsPut}
use Rattle.tokei_json_tree.specs.TreeData.{data_of, items_data, members_data, number_data}
use Rattle.tokei_json_tree.proofs.Steps.{from_item}

abbrev Key : Type 0
Key = List ℕ

pub turned : (l k : Key) → slice_cmp nat_cmp l k ≡ Less → slice_cmp nat_cmp k l ≡ Greater
turned l k e = nat_list_cmp_total.antisymm k l ∙ ap ordering_reverse e

-- the key is before all of these
abbrev pub IsBeforeAll : Key → List Key → Type 0
IsBeforeAll k ls = AllByRecursion (λ l. slice_cmp nat_cmp k l ≡ Less) ls

pub before_all : (b k : Key) (ks : List Key) → slice_cmp nat_cmp b k ≡ Less → IsBeforeAll k ks → IsBeforeAll b ks
before_all b k [] less h = tt
before_all b k (x ∷ xs) less h = (nat_list_cmp_total.trans b k x less h.0, before_all b k xs less h.1)

with_one : (P : Key → Type 0) (xs ys : List Key) (k : Key) → P k → AllByRecursion P (xs ++ ys) → AllByRecursion P (xs ++ k ∷ ys)
with_one P [] ys k p h = (p, h)
with_one P (x ∷ xs) ys k p h = (h.0, with_one P xs ys k p h.1)

pub less_than : (o : Ordering) → is_lt o ≡ true → o ≡ Less
less_than Less e = refl
less_than Equal e = absurd cc
less_than Greater e = absurd cc

-- a key between others
pub between : (k : Key) (pre post : List Key) → IsStrictlySortedBy (slice_cmp nat_cmp) (pre ++ post) → AreBefore pre k
    → IsBeforeAll k post → IsStrictlySortedBy (slice_cmp nat_cmp) (pre ++ k ∷ post)
unfolding IsStrictlySortedBy
between k [] post s behind before = (before, s)
between k (x ∷ pre) post s behind before =
    (with_one (λ l. slice_cmp nat_cmp x l ≡ Less) pre post k behind.0 s.0, between k pre post s.1 behind.1 before)

module _ (A : Type 0) where
  abbrev Entry : Type 0
  Entry = Bor (List ℕ) × Value A

  abbrev keys : List Entry → List Key
  keys es = keys_of (members_view es)

  pub keys_append : (xs bs : List Entry) → keys (xs ++ bs) ≡ keys xs ++ keys bs
  keys_append [] bs = refl
  keys_append (x ∷ xs) bs = ap (λ ks. x.0.now ∷ ks) (keys_append xs bs)

  put_between : (e : Entry) (pre post : List Entry) → AreBefore (keys pre) e.0.now → IsBeforeAll e.0.now (keys post)
      → put e.0.now (data_of (value_view e.1)) (members_data (members_view (pre ++ post))) ≡ members_data (members_view (pre ++ e ∷ post))
  put_between e [] [] behind before = refl
  put_between e [] (x ∷ post) behind before =
      ap (λ o. match_ordering o (member e.0.now (data_of (value_view e.1)) (members_data (members_view (x ∷ post))))
      (member x.0.now (data_of (value_view e.1)) (members_data (members_view post)))
      (member x.0.now (data_of (value_view x.1)) (put e.0.now (data_of (value_view e.1)) (members_data (members_view post))))) before.0
  put_between e (x ∷ pre) post behind before =
      let rest = members_data (members_view (pre ++ post)) in
      ap (λ o. match_ordering o (member e.0.now (data_of (value_view e.1)) (member x.0.now (data_of (value_view x.1)) rest))
      (member x.0.now (data_of (value_view e.1)) rest)
      (member x.0.now (data_of (value_view x.1)) (put e.0.now (data_of (value_view e.1)) rest))) (turned x.0.now e.0.now behind.0)
      ∙ ap (member x.0.now (data_of (value_view x.1))) (put_between e pre post behind.1 before)

  ordered_between : (e : Entry) (pre post : List Entry) → IsOrdered (value_view e.1) → AreMembersOrdered (members_view (pre ++ post))
      → AreMembersOrdered (members_view (pre ++ e ∷ post))
  ordered_between e [] post h more = (h, more)
  ordered_between e (x ∷ pre) post h more = (more.0, ordered_between e pre post h more.1)

  pub put_there : (e : Entry) (pre post : List Entry) → AreKeysInOrder (members_view (pre ++ post)) → AreBefore (keys pre) e.0.now
      → IsBeforeAll e.0.now (keys post) → IsPut e.0.now (value_view e.1) (members_view (pre ++ post)) (members_view (pre ++ e ∷ post))
  put_there e pre post s behind before = record {
    put = sym (put_between e pre post behind before);
    keys = subst (IsStrictlySortedBy (slice_cmp nat_cmp)) (sym (keys_append pre (e ∷ post)))
        (between e.0.now (keys pre) (keys post) (subst (IsStrictlySortedBy (slice_cmp nat_cmp)) (keys_append pre post) s) behind before);
    ordered = ordered_between e pre post;
  }

  pub at_place : (P : Key → Type 0) (es : List Entry) (i : ℕ) (x : Entry) → i < length es → x ≡ get_or es i x
      → AllByRecursion P (keys es) → P x.0.now
  at_place P [] i x l e h = absurd (omega (arith, l))
  at_place P (y ∷ es) zero x l e h = subst (λ z. P z.0.now) (sym e) h.0
  at_place P (y ∷ es) (suc i) x l e h = at_place P es i x (omega (arith, l)) e h.1

  -- of members whose keys are in order those up to one that is before the key are all before it
  pub first_before : (k : Key) (es : List Entry) (i : ℕ) (x : Entry) → i < length es → x ≡ get_or es i x
      → AreKeysInOrder (members_view es) → slice_cmp nat_cmp x.0.now k ≡ Less → AreBefore (keys (take (suc i) es)) k
  unfolding IsStrictlySortedBy
  first_before k [] i x l e s less = absurd (omega (arith, l))
  first_before k (y ∷ es) zero x l e s less = (subst (λ z. slice_cmp nat_cmp z.0.now k ≡ Less) e less, tt)
  first_before k (y ∷ es) (suc i) x l e s less =
      let here = at_place (λ q. slice_cmp nat_cmp y.0.now q ≡ Less) es i x (omega (arith, l)) e s.0 in
      (nat_list_cmp_total.trans y.0.now x.0.now k here less, first_before k es i x (omega (arith, l)) e s.1 less)

  -- a key that is before all from a place on, and before the one in front of it, is before all from there on
  pub before_longer : (k : Key) (es : List Entry) (first place : ℕ) (x : Entry) → first < place → place ≤ length es → x ≡ get_or es (place - 1) x
      → is_lt (slice_cmp nat_cmp k x.0.now) ≡ true → IsBeforeAll k (keys (drop place es)) → IsBeforeAll k (keys (drop (place - 1) es))
  before_longer k es first place x some within is less before =
      let next : place - 1 + 1 ≡ place = omega arith in
      let e = from_item es (place - 1) x (omega arith) is in
      subst (λ xs. IsBeforeAll k (keys xs)) (sym (e ∙ ap (λ n. x ∷ drop n es) next)) (less_than _ less, before)

-- nothing true is false
pub untrue : {P : Type 0} → false ≡ true → P
untrue e = absurd cc

pub none_either : (a b : Bool) → a ≡ false → b ≡ false → (a || b) ≡ false
none_either a b e f = ap (λ x. x || b) e ∙ f

whole_either : (o : Ordering) (a b c : Members) → members_have_float a ≡ false → members_have_float b ≡ false → members_have_float c ≡ false
    → members_have_float (match_ordering o a b c) ≡ false
whole_either Less a b c ha hb hc = ha
whole_either Equal a b c ha hb hc = hb
whole_either Greater a b c ha hb hc = hc

pub first_none : (a b : Bool) → (a || b) ≡ false → a ≡ false
first_none true b e = e
first_none false b e = refl

pub second_none : (a b : Bool) → (a || b) ≡ false → b ≡ false
second_none true b e = absurd cc
second_none false b e = e

pub whole_put : (k : Key) (d : Data) (ms : Members) → has_float d ≡ false → members_have_float ms ≡ false
    → members_have_float (put k d ms) ≡ false
whole_put k d no_members h more = none_either (has_float d) false h refl
whole_put k d (member l e ms) h more =
    let here = first_none (has_float e) (members_have_float ms) more in
    let rest = second_none (has_float e) (members_have_float ms) more in
    whole_either (slice_cmp nat_cmp k l) (member k d (member l e ms)) (member l d ms) (member l e (put k d ms))
    (none_either (has_float d) (members_have_float (member l e ms)) h more)
    (none_either (has_float d) (members_have_float ms) h rest)
    (none_either (has_float e) (members_have_float (put k d ms)) here (whole_put k d ms h rest))

pub item_ordered : (old new : json.Json) (olds news : json.Items) → IsOrderingOf old new → AreItemsOrderingOf olds news
    → AreItemsOrderingOf (json.item old olds) (json.item new news)
item_ordered old new olds news h more = record {
  reads = ap (option_and_then (λ d. option_map (item d) (of_items olds))) h.reads ∙ ap (option_map (item (data_of new))) more.reads;
  ordered = (h.ordered, more.ordered);
  whole = none_either (has_float (data_of new)) (items_have_float (items_data news)) h.whole more.whole;
}

-- a number that reads as a count stands for what it reads as
pub count_whole : (n : Option Num) → is_some (option_and_then as_u64 n) ≡ true
    → (option_map number n ≡ Some (number_data n)) × (has_float (number_data n) ≡ false)
count_whole None e = absurd cc
count_whole (Some (unsigned n)) e = (refl, refl)
count_whole (Some (negative z)) e = absurd cc
count_whole (Some (float x)) e = absurd cc

view_number : (A : Type 0) (s : Bor (List ℕ)) → value_view {A = A} (Number s) ≡ json.number s.now
view_number A s = search (rules, the_lemmas)

pub number_ordered : (A : Type 0) (v : Value A) (s : Bor (List ℕ)) (o : Option ℕ) → v ≡ Number s → o ≡ option_and_then as_u64 (number_of s.now)
    → is_some o ≡ true → IsOrderingOf (value_view v) (value_view {A = A} (Number s))
number_ordered A v s o is same e =
    let n = view_number A s in
    let whole = count_whole (number_of s.now) (ap is_some (sym same) ∙ e) in
    subst (λ w. IsOrderingOf (value_view w) (value_view {A = A} (Number s))) (sym is)
    (subst (λ j. IsOrderingOf j j) (sym n) (record { reads = whole.0; ordered = tt; whole = whole.1 }))

-- an array of items that were, and an object of members
pub array_ordered : {A : Type 0} (olds : json.Items) (vec : Vec (Value A) A) → AreItemsOrderingOf olds (items_view vec.items)
    → IsOrderingOf (json.array olds) (value_view (Array vec))
array_ordered olds vec h =
    subst (IsOrderingOf (json.array olds)) (sym (view-Array vec)) (record {
      reads = ap (option_map array) h.reads;
      ordered = h.ordered;
      whole = h.whole;
    })

pub object_ordered : {A : Type 0} (olds : json.Members) (vec : Vec (Bor (List ℕ) × Value A) A)
    → AreMembersOrderingOf olds (members_view vec.items) → IsOrderingOf (json.object olds) (value_view (Object vec))
object_ordered olds vec h =
    subst (IsOrderingOf (json.object olds)) (sym (view-Object vec)) (record {
      reads = ap (option_map object) h.reads;
      ordered = (h.keys, h.ordered);
      whole = h.whole;
    })

-- the members that were put in order, where those behind are still to come
pub record IsOrderingSoFar (all behind made : json.Members) : Type 0 where
  pub reads : of_members all no_members ≡ of_members behind (members_data made)
  pub keys : AreKeysInOrder made
  pub ordered : AreMembersOrdered made
  pub whole : members_have_float (members_data made) ≡ false

pub none_yet : (all : json.Members) → IsOrderingSoFar all all json.no_members
unfolding IsStrictlySortedBy
none_yet all = record { reads = refl; keys = tt; ordered = tt; whole = refl }

pub one_more : (key : Key) (old new : json.Json) (all behind made longer : json.Members) → IsOrderingOf old new → IsPut key new made longer
    → IsOrderingSoFar all (json.member key old behind) made → IsOrderingSoFar all behind longer
one_more key old new all behind made longer h put_there so_far = record {
  reads = so_far.reads ∙ ap (option_and_then (λ d. of_members behind (put key d (members_data made)))) h.reads
      ∙ ap (of_members behind) (sym put_there.put);
  keys = put_there.keys;
  ordered = put_there.ordered h.ordered so_far.ordered;
  whole = subst (λ ms. members_have_float ms ≡ false) (sym put_there.put) (whole_put key (data_of new) (members_data made) h.whole so_far.whole);
}

pub all_put : (all made : json.Members) → IsOrderingSoFar all json.no_members made → AreMembersOrderingOf all made
all_put all made so_far = record {
  reads = so_far.reads;
  keys = so_far.keys;
  ordered = so_far.ordered;
  whole = so_far.whole;
}
