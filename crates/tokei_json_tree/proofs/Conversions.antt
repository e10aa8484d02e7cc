-- Trees that are made of data.
use Rattle.std.proofs.Common.{◌≡◌, ℕ, List, [], ◌∷◌, None, Some, Option, Result, Ok, Err, IfOk, refl}
use Rattle.std.proofs.Common.{sym, ap, ◌∙◌, subst, map, String, Vec, Global, string_bytes, option_map, option_and_then, ◌≤◌, arith, rules}
use Rattle.std.proofs.lemmas.List.{append-nil}
use Rattle.std.specs.Cmp.Lexicographic.{slice_cmp}
use Rattle.std.specs.List.{AllByRecursion}
use Rattle.std.specs.List.Sorted.{IsStrictlySortedBy}
use Rattle.std.specs.Ordering.{nat_cmp}
use Rattle.std.specs.declared.cmp.Ordering.{Ordering}
use Rattle.std.specs.declared.cmp.Ordering.TheVariants.{Less}
use Rattle.json.specs.Json as json
use Rattle.json.specs.Json.{value, items, members}
use Rattle.json.specs.Lex.{tokens}
use Rattle.json.specs.Print.{print, print_from}
use Rattle.json.specs.Token.{Token}
use Rattle.json.specs.Tree.{json_tokens}
use Rattle.serde_json.specs.Data.{Num, Data, depth, number, array, object, item, Items, Members, no_members, member}
use Rattle.serde_json.specs.Read.{number_of, of_json, read, max_depth}
use Rattle.serde_json.specs.View.{view, members_view, number_view}
use Rattle.serde_json.specs.Written.{IsInOrder, blank, number_text}
use Rattle.serde_json.specs.declared.number.Number.{Number}
use Rattle.serde_json.specs.declared.value.Value.{Value, the_lemmas}
use Rattle.serde_json.specs.declared.value.Value.{Number as ANumber}
use Rattle.json.proofs.Trees.{view-Array, view-Object}
use Rattle.json.specs.declared.value.Value.{Value as Tree, Number as TreeNumber, Array as TreeArray, Object as TreeObject}
use Rattle.json.specs.declared.value.Value.{the_lemmas as tree_lemmas}
use Rattle.json.specs.Value.{value_view, items_view, members_view as tree_members}
use Rattle.std.specs.Borrow.{Bor}
use Rattle.tokei_json_tree.specs.Converted.{IsTreeOf}
use Rattle.tokei_json_tree.specs.Ordered.{keys_of, AreKeysInOrder, AreItemsOrdered, AreMembersOrdered}
use Rattle.tokei_json_tree.specs.TreeData.{items_data, members_data, number_data}

-- The items of a list stand for those of data, and the objects in them have their keys in order.
pub record AreItemsOf (ds : Items) (js : json.Items) : Type 0 where
  pub value : items_data js ≡ ds
  pub ordered : AreItemsOrdered js

-- The members of an object do; of the order of their own keys nothing is said.
pub record AreMembersOf (ds : Members) (ms : json.Members) : Type 0 where
  pub value : members_data ms ≡ ds
  pub ordered : AreMembersOrdered ms

pub item_more : (d : Data) (ds : Items) (j : json.Json) (js : json.Items) → IsTreeOf d j → AreItemsOf ds js
    → AreItemsOf (item d ds) (json.item j js)
item_more d ds j js h more = record {
  value = ap (λ x. item x (items_data js)) h.value ∙ ap (item d) more.value;
  ordered = (h.ordered, more.ordered);
}

pub member_more : (k : List ℕ) (d : Data) (ds : Members) (j : json.Json) (ms : json.Members) → IsTreeOf d j
    → AreMembersOf ds ms → AreMembersOf (member k d ds) (json.member k j ms)
member_more k d ds j ms h more = record {
  value = ap (λ x. member k x (members_data ms)) h.value ∙ ap (member k d) more.value;
  ordered = (h.ordered, more.ordered);
}

-- the keys of data
abbrev data_keys : Members → List (List ℕ)
data_keys no_members = []
data_keys (member k d ms) = k ∷ data_keys ms

same_keys : (ms : json.Members) → data_keys (members_data ms) ≡ keys_of ms
same_keys json.no_members = refl
same_keys (json.member k j ms) = ap (λ ks. k ∷ ks) (same_keys ms)

-- the byte order of the keys of a map
abbrev pub text_cmp : String Global → String Global → Ordering
text_cmp a b = slice_cmp nat_cmp (string_bytes a) (string_bytes b)

above : (k : String Global) (es : List (String Global × Value))
    → AllByRecursion (λ y. text_cmp k y ≡ Less) (map (λ e. e.0) es)
    → AllByRecursion (λ y. slice_cmp nat_cmp (string_bytes k) y ≡ Less) (data_keys (members_view es))
above k [] h = tt
above k (e ∷ es) h = (h.0, above k es h.1)

in_order_of_map : (es : List (String Global × Value)) → IsStrictlySortedBy text_cmp (map (λ e. e.0) es)
    → IsStrictlySortedBy (slice_cmp nat_cmp) (data_keys (members_view es))
unfolding IsStrictlySortedBy
in_order_of_map [] h = tt
in_order_of_map (e ∷ es) h = (above e.0 es h.0, in_order_of_map es h.1)

pub keys_in_order : (es : List (String Global × Value)) (ms : json.Members)
    → IsStrictlySortedBy text_cmp (map (λ e. e.0) es) → AreMembersOf (members_view es) ms → AreKeysInOrder ms
keys_in_order es ms h of =
    subst (IsStrictlySortedBy (slice_cmp nat_cmp)) (ap data_keys (sym of.value) ∙ same_keys ms) (in_order_of_map es h)

-- an array of items that stand for data, and an object of members that do, whose keys are those of a map
pub array_of : {A : Type 0} (ds : Items) (vec : Vec (Tree A) A) → AreItemsOf ds (items_view vec.items)
    → IsTreeOf (array ds) (value_view (TreeArray vec))
array_of ds vec of =
    subst (λ j. IsTreeOf (array ds) j) (sym (view-Array vec)) (record { value = ap array of.value; ordered = of.ordered })

pub object_of : {A : Type 0} (es : List (String Global × Value)) (vec : Vec (Bor (List ℕ) × Tree A) A)
    → IsStrictlySortedBy text_cmp (map (λ e. e.0) es) → AreMembersOf (members_view es) (tree_members vec.items)
    → IsTreeOf (object (members_view es)) (value_view (TreeObject vec))
object_of es vec h of =
    subst (λ j. IsTreeOf (object (members_view es)) j) (sym (view-Object vec))
    (record { value = ap object of.value; ordered = (keys_in_order es (tree_members vec.items) h of, of.ordered) })

-- a number that is written and read again
unmapped : (o : Option Num) (n : Num) → option_map number o ≡ Some (number n) → o ≡ Some n
unmapped None n e = cc
unmapped (Some m) n e = cc

one_token : (t : List ℕ) → option_and_then of_json (option_and_then (λ p. json.if_last p.0 p.1) (value max_depth (Token.number t ∷ [])))
    ≡ option_map number (number_of t)
unfolding value
one_token t = refl

is_number : (j : json.Json) (n : Num) → blank j ≡ json.number (number_text n) → (t : List ℕ) × (json_tokens j ≡ Token.number t ∷ [])
is_number json.null n e = absurd cc
is_number (json.boolean b) n e = absurd cc
is_number (json.number s) n e = (s, refl)
is_number (json.string s) n e = absurd cc
is_number (json.array js) n e = absurd cc
is_number (json.object ms) n e = absurd cc

printed : (t : List ℕ) → print (Token.number t ∷ []) ≡ t
unfolding print_from
printed t = append-nil t

pub number_tree : (s : List ℕ) (n : Num) → s ≡ print (tokens s) → IsInOrder s (number n) → read s ≡ Some (number n)
    → IsTreeOf (number n) (json.number s)
number_tree s n compact order back =
    let t = is_number order.0 n order.2 in
    let one = order.1 ∙ t.1 in
    let same = compact ∙ ap print one ∙ printed t.0 in
    let read_t = sym (ap (λ ts. option_and_then of_json (option_and_then (λ p. json.if_last p.0 p.1) (value max_depth ts))) one) ∙ back in
    let of_t = unmapped (number_of t.0) n (sym (one_token t.0) ∙ read_t) in
    record {
      value = ap (λ x. number_data (number_of x)) same ∙ ap number_data of_t;
      ordered = tt;
    }

view_number : (x : Number) → view (ANumber x) ≡ number (number_view x)
view_number x = search (rules, the_lemmas)

tree_number : (A : Type 0) (s : Bor (List ℕ)) → value_view {A = A} (TreeNumber s) ≡ json.number s.now
tree_number A s = search (rules, tree_lemmas)

pub number_converted : (A : Type 0) (v : Value) (x : Number) (s : Bor (List ℕ)) → v ≡ ANumber x
    → s.now ≡ print (tokens s.now) → IsInOrder s.now (view v) → (depth (view v) ≤ max_depth → read s.now ≡ Some (view v))
    → IsTreeOf (view v) (value_view {A = A} (TreeNumber s))
number_converted A v x s e compact order back =
    let is = ap view e ∙ view_number x in
    let flat = subst (λ d. depth d ≤ max_depth) (sym is) (omega arith) in
    let tree = number_tree s.now (number_view x) compact (subst (IsInOrder s.now) is order) (back flat ∙ ap Some is) in
    subst (λ d. IsTreeOf d (value_view {A = A} (TreeNumber s))) (sym is)
    (subst (IsTreeOf (number (number_view x))) (sym (tree_number A s)) tree)

-- what a call tells of any number, at the number that there is
pub tree_of_number : {A E : Type 0} (v : Value) (r : Result (Tree A) E) (x : Number) → v ≡ ANumber x
    → IfOk r (λ t. (n : Number) → v ≡ ANumber n → IsTreeOf (view v) (value_view t)) → IfOk r (λ t. IsTreeOf (view v) (value_view t))
tree_of_number v (Ok t) x is h = h x is
tree_of_number v (Err e) x is h = tt
