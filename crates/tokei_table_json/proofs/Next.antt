-- What is read of a text as its tokens come: values, lists and their items.
use Rattle.std.proofs.Common.{◌≡◌, ℕ, ◌-◌, ◌<◌, ◌≤◌, List, [], ◌∷◌, ◌++◌, length, Bool, true, ◌&&◌, Some, None, refl, sym, ap, ap₂, ◌∙◌, subst, append_assoc, option_map, arith, Option, IfSome}
use Rattle.std.proofs.lemmas.List.{append-nil}
use Rattle.json.specs.Json as json
use Rattle.json.specs.Json.{after_end_array, parse_map}
use Rattle.json.specs.Token.{Token}
use Rattle.json.proofs.Grammar.{left, skip_value-shorter, value_is, value-begin_array, items_end, items_more}
use Rattle.serde_json.specs.Data.{Data, array, Items, no_items, item}
use Rattle.tokei_json_tree.specs.Orderings.{IsOrderingOf, AreItemsOrderingOf}
use Rattle.tokei_json_tree.specs.TreeData.{items_data}
use Rattle.tokei_json_tree.proofs.Orderings.{item_ordered}
use Rattle.tokei_table_json.specs.Escaped.{is_escaped_value, is_escaped_list, are_escaped_pairs}
use Rattle.tokei_table_json.specs.Escapes.{is_escaped_text, unescaped_text}
use Rattle.tokei_table_json.specs.Layout.{is_text_pair}
use Rattle.tokei_json_tree.specs.Shapes.{all_items, is_list, is_text, is_truth_value}
use Rattle.tokei_table_json.specs.Next.{IsNext}
use Rattle.tokei_table_json.specs.Rows.{text_of, texts_of, texts_at, pair_in, pairs_in, pairs_at, truth_at}
use Rattle.tokei_table_row.specs.Row.{Pair}

pub if_some_weaker : {X : Type 0} {P Q : X → Type 0} (found : Option X) → ((x : X) → P x → Q x) → IfSome found P → IfSome found Q
if_some_weaker None weaker h = tt
if_some_weaker (Some x) weaker h = weaker x h

-- a value takes tokens
pub shorter : {X : Type 0} {layout escapes : Data → Bool} {read : Data → X} (depth : ℕ) (old new : List Token) (it : X)
    → IsNext layout escapes read depth old new it → length new < length old
shorter depth old new it h = skip_value-shorter depth old new (ap left h.is)

string_plain : (s : List ℕ) → IsOrderingOf (json.string s) (json.string s)
string_plain s = record { reads = refl; ordered = tt; whole = refl }

array_plain : (js : json.Items) → AreItemsOrderingOf js js → IsOrderingOf (json.array js) (json.array js)
array_plain js h = record { reads = ap (option_map array) h.reads; ordered = h.ordered; whole = h.whole }

none_plain : AreItemsOrderingOf json.no_items json.no_items
none_plain = record { reads = refl; ordered = tt; whole = refl }

pub text_next : (s : List ℕ) (old new : List Token) (it : List ℕ) → old ≡ Token.string s ∷ new → is_escaped_text s ≡ true
    → it ≡ unescaped_text s → (depth : ℕ) → IsNext is_text is_escaped_value text_of depth old new it
text_next s old new it e escaped made depth = record {
  value = json.string s;
  is = ap (json.value depth) e ∙ value_is depth (Token.string s ∷ new);
  plain = string_plain s;
  fits = refl;
  escaped = escaped;
  made = sym made;
}

boolean_plain : (b : Bool) → IsOrderingOf (json.boolean b) (json.boolean b)
boolean_plain b = record { reads = refl; ordered = tt; whole = refl }

pub truth_next : (b : Bool) (old new : List Token) → old ≡ Token.boolean b ∷ new → (depth : ℕ)
    → IsNext is_truth_value (λ d. true) (λ d. truth_at (Some d)) depth old new b
truth_next b old new e depth = record {
  value = json.boolean b;
  is = ap (json.value depth) e ∙ value_is depth (Token.boolean b ∷ new);
  plain = boolean_plain b;
  fits = refl;
  escaped = refl;
  made = refl;
}

-- no list ends where a value begins
begins : (depth : ℕ) (ts r : List Token) (j : json.Json) → json.value depth ts ≡ Some (j, r) → after_end_array ts ≡ None
begins depth [] r j e = refl
begins depth (Token.begin_object ∷ ts) r j e = refl
begins depth (Token.end_object ∷ ts) r j e = refl
begins depth (Token.begin_array ∷ ts) r j e = refl
begins depth (Token.end_array ∷ ts) r j e = let never = sym (value_is depth (Token.end_array ∷ ts)) ∙ e in absurd cc
begins depth (Token.key s ∷ ts) r j e = refl
begins depth (Token.string s ∷ ts) r j e = refl
begins depth (Token.number s ∷ ts) r j e = refl
begins depth (Token.boolean b ∷ ts) r j e = refl
begins depth (Token.null ∷ ts) r j e = refl
begins depth (Token.bad ∷ ts) r j e = refl

pub pair_next : (depth : ℕ) (old a b c new : List Token) (opener closer : List ℕ) → 0 < depth → old ≡ Token.begin_array ∷ a
    → IsNext is_text is_escaped_value text_of (depth - 1) a b opener → IsNext is_text is_escaped_value text_of (depth - 1) b c closer
    → after_end_array c ≡ Some new
    → IsNext is_text_pair is_escaped_list pair_in depth old new (record { opener = opener; closer = closer })
pair_next depth old a b c new opener closer within e first second end =
    let p = json.value (depth - 1) in
    let j = first.value in
    let k = second.value in
    let less = shorter (depth - 1) a b opener first in
    let lesser = shorter (depth - 1) b c closer second in
    let n = length a in
    record {
      value = json.array (json.item j (json.item k json.no_items));
      is = ap (json.value depth) e ∙ value-begin_array depth a within
          ∙ ap (parse_map json.array) (items_more p n a b j (omega arith) (begins (depth - 1) a b j first.is) first.is
          ∙ ap (parse_map (json.item j)) (items_more p (n - 1) b c k (omega arith) (begins (depth - 1) b c k second.is) second.is
          ∙ ap (parse_map (json.item k)) (items_end p (n - 1 - 1) c new (omega arith) end)));
      plain = array_plain _ (item_ordered j j _ _ first.plain (item_ordered k k _ _ second.plain none_plain));
      fits = ap₂ (λ x y. x && y) first.fits second.fits;
      escaped = ap₂ (λ x y. x && (y && true)) first.escaped second.escaped;
      made = ap₂ (λ x y. record { opener = x; closer = y }) first.made second.made;
    }

module _ {X : Type 0} (layout escapes : Data → Bool) (read : Data → X) where
  -- what is made of each item
  abbrev pub made_of : Items → List X
  made_of no_items = []
  made_of (item d ds) = read d ∷ made_of ds

  -- the items of a list, up to the bracket that closes it
  pub record AreItemsNext (depth n : ℕ) (old new : List Token) (its : List X) : Type 0 where
    pub items : json.Items
    pub are : json.items (json.value depth) n old ≡ Some (items, new)
    pub plain : AreItemsOrderingOf items items
    pub fit : all_items layout (items_data items) ≡ true
    pub escaped : all_items escapes (items_data items) ≡ true
    pub made : made_of (items_data items) ≡ its

  -- whatever the rest of the items reads as, all of them read as that behind what was read so far
  pub record ItemsSoFar (depth : ℕ) (first now : List Token) (so_far : List X) : Type 0 where
    pub turns : ℕ
    pub enough : length now ≤ turns
    pub goes_on : (new : List Token) (rest : List X) → AreItemsNext depth turns now new rest
        → AreItemsNext depth (length first) first new (so_far ++ rest)

  one_more : (depth n : ℕ) (now r new : List Token) (it : X) (rest : List X) → length now ≤ n → IsNext layout escapes read depth now r it
      → AreItemsNext depth (n - 1) r new rest → AreItemsNext depth n now new (it ∷ rest)
  one_more depth n now r new it rest enough next h =
      let less = shorter depth now r it next in
      record {
        items = json.item next.value h.items;
        are = items_more (json.value depth) n now r next.value (omega arith) (begins depth now r next.value next.is) next.is
            ∙ ap (parse_map (json.item next.value)) h.are;
        plain = item_ordered _ _ _ _ next.plain h.plain;
        fit = ap₂ (λ x y. x && y) next.fits h.fit;
        escaped = ap₂ (λ x y. x && y) next.escaped h.escaped;
        made = ap₂ (λ x xs. x ∷ xs) next.made h.made;
      }

  pub next_item : (depth : ℕ) (first now r : List Token) (so_far longer : List X) (it : X) → ItemsSoFar depth first now so_far
      → IsNext layout escapes read depth now r it → longer ≡ so_far ++ it ∷ [] → ItemsSoFar depth first r longer
  next_item depth first now r so_far longer it h next e =
      let less = shorter depth now r it next in
      let le = h.enough in
      record {
        turns = h.turns - 1;
        enough = omega arith;
        goes_on = λ new rest more. subst (λ xs. AreItemsNext depth (length first) first new xs)
            (sym (ap (λ xs. xs ++ rest) e ∙ append_assoc so_far (it ∷ []) rest))
            (h.goes_on new (it ∷ rest) (one_more depth h.turns now r new it rest h.enough next more));
      }

  closed : (depth : ℕ) (first now r : List Token) (so_far : List X) → ItemsSoFar depth first now so_far → after_end_array now ≡ Some r
      → AreItemsNext depth (length first) first r so_far
  closed depth first now r so_far h e =
      subst (λ xs. AreItemsNext depth (length first) first r xs) (append-nil so_far)
      (h.goes_on r [] (record {
        items = json.no_items;
        are = items_end (json.value depth) h.turns now r h.enough e;
        plain = none_plain;
        fit = refl;
        escaped = refl;
        made = refl;
      }))

  -- a list whose items were read
  module _ (list_escapes : Data → Bool) (list_read : Data → List X) (same_escapes : (ds : Items) → list_escapes (array ds) ≡ all_items escapes ds)
      (same_read : (ds : Items) → list_read (array ds) ≡ made_of ds) where
    pub list_next : (depth : ℕ) (old first now r : List Token) (its : List X) → 0 < depth → old ≡ Token.begin_array ∷ first
        → ItemsSoFar (depth - 1) first now its → after_end_array now ≡ Some r
        → IsNext (is_list layout) list_escapes list_read depth old r its
    list_next depth old first now r its within e h end =
        let all = closed (depth - 1) first now r its h end in
        record {
          value = json.array all.items;
          is = ap (json.value depth) e ∙ value-begin_array depth first within ∙ ap (parse_map json.array) all.are;
          plain = array_plain all.items all.plain;
          fits = all.fit;
          escaped = same_escapes _ ∙ all.escaped;
          made = same_read _ ∙ all.made;
        }

texts_made : (ds : Items) → texts_of ds ≡ made_of is_text is_escaped_value text_of ds
texts_made no_items = refl
texts_made (item d ds) = ap (λ xs. text_of d ∷ xs) (texts_made ds)

pairs_made : (ds : Items) → pairs_in ds ≡ made_of is_text_pair is_escaped_list pair_in ds
pairs_made no_items = refl
pairs_made (item d ds) = ap (λ xs. pair_in d ∷ xs) (pairs_made ds)

abbrev pub TextsSoFar : ℕ → List Token → List Token → List (List ℕ) → Type 0
TextsSoFar = ItemsSoFar is_text is_escaped_value text_of

abbrev pub PairsSoFar : ℕ → List Token → List Token → List Pair → Type 0
PairsSoFar = ItemsSoFar is_text_pair is_escaped_list pair_in

pub texts_next : (depth : ℕ) (old first now r : List Token) (its : List (List ℕ)) → 0 < depth → old ≡ Token.begin_array ∷ first
    → TextsSoFar (depth - 1) first now its → after_end_array now ≡ Some r
    → IsNext (is_list is_text) is_escaped_list (λ d. texts_at (Some d)) depth old r its
texts_next = list_next is_text is_escaped_value text_of is_escaped_list (λ d. texts_at (Some d)) (λ ds. refl) texts_made

pub pairs_next : (depth : ℕ) (old first now r : List Token) (its : List Pair) → 0 < depth → old ≡ Token.begin_array ∷ first
    → PairsSoFar (depth - 1) first now its → after_end_array now ≡ Some r
    → IsNext (is_list is_text_pair) are_escaped_pairs (λ d. pairs_at (Some d)) depth old r its
pairs_next = list_next is_text_pair is_escaped_list pair_in are_escaped_pairs (λ d. pairs_at (Some d)) (λ ds. refl) pairs_made
