-- What is left of an object or a list, where what was read of it so far stands in a list already.
use Rattle.std.proofs.Common.{◌≡◌, ℕ, Bool, true, ◌-◌, ◌<◌, ◌≤◌, List, [], ◌∷◌, ◌++◌, Bor, length, None, Some, Vec, sym, ap, ◌∙◌, subst, arith, append_assoc}
use Rattle.std.proofs.lemmas.List.{append-nil}
use Rattle.json.specs.Json.{Json, array, object, Items, no_items, item, Members, no_members, member, Parse, after_end_array, read_key, items, members, value}
use Rattle.json.specs.Token.{Token}
use Rattle.json.specs.Value.{value_view, items_view, members_view}
use Rattle.json.specs.declared.value.Value.{Value, Array, Object}
use Rattle.json.proofs.Grammar.{read_key-shorter}
use Rattle.json.proofs.Trees.{view-Array, view-Object}
use Rattle.tokei_json_tree.specs.Tokens.{IsRead, IsPassed}
use Rattle.tokei_json_tree.specs.Unordered.{is_in_range, are_items_in_range, are_members_in_range}
use Rattle.tokei_json_tree.proofs.TokensRead.{both, items_turn, items_over, members_turn, members_over, array_read, object_read}

-- a grown list, and what is still to come
grown : {X : Type 0} (longer made more : List X) (x : X) → longer ≡ made ++ x ∷ [] → longer ++ more ≡ made ++ x ∷ more
grown longer made more x e = ap (λ xs. xs ++ more) e ∙ append_assoc made (x ∷ []) more

-- numbers in range, of a member or an item and of those behind it
pub members_in_range : (k : List ℕ) (j : Json) (ms : Members) → is_in_range j ≡ true → are_members_in_range ms ≡ true
    → are_members_in_range (member k j ms) ≡ true
members_in_range k j ms e f = both (is_in_range j) (are_members_in_range ms) e f

pub items_in_range : (j : Json) (js : Items) → is_in_range j ≡ true → are_items_in_range js ≡ true → are_items_in_range (item j js) ≡ true
items_in_range j js e f = both (is_in_range j) (are_items_in_range js) e f

abbrev pub Entry : Type 0 → Type 0
Entry A = Bor (List ℕ) × Value A

module _ {A : Type 0} where
  -- where the members that are left are read, all are, and the ones that were made stand before them
  pub record MembersLeft (p : Parse Json) (test : Members → Bool) (kept : Members → Members) (start now : List Token) (made : List (Entry A)) : Type 0 where
    pub turns : ℕ
    pub enough : length now ≤ turns
    pub fewer : length now ≤ length start
    pub rest : (left : List Token) (more : List (Entry A)) → IsRead (members p turns) test kept (members_view more) now left
        → IsRead (members p (length start)) test kept (members_view (made ++ more)) start left

  pub none_made : (p : Parse Json) (test : Members → Bool) (kept : Members → Members) (start : List Token) (made : List (Entry A)) → made ≡ []
      → MembersLeft p test kept start start made
  none_made p test kept start made e = record {
    turns = length start;
    enough = omega arith;
    fewer = omega arith;
    rest = λ left more h. subst (λ ms. IsRead (members p (length start)) test kept (members_view (ms ++ more)) start left) (sym e) h;
  }

  module _ {p : Parse Json} {test : Members → Bool} {kept : Members → Members} {start now behind : List Token} {made : List (Entry A)} (l : MembersLeft p test kept start now made)
      (rest : List Token) (k : List ℕ) (key : read_key now ≡ Some (Some k, behind)) (less : length rest < length behind) where
    fewer_turns : length rest ≤ l.turns - 1
    fewer_turns = omega (arith, l.enough, less, read_key-shorter now (Some k) behind key)

    fewer_left : length rest ≤ length start
    fewer_left = omega (arith, l.fewer, less, read_key-shorter now (Some k) behind key)

    some_turns : 0 < l.turns
    some_turns = omega (arith, l.enough, less, read_key-shorter now (Some k) behind key)

    pub member_passed_over : (each : Json → Bool) → ((j : Json) (ms : Members) → each j ≡ true → test ms ≡ true → test (member k j ms) ≡ true)
        → IsPassed p each behind rest → ((j : Json) (ms : Members) → kept (member k j ms) ≡ kept ms) → MembersLeft p test kept start rest made
    member_passed_over each step one law = record {
      turns = l.turns - 1;
      enough = fewer_turns;
      fewer = fewer_left;
      rest = λ left more h. l.rest left more
          (members_turn p test kept l.turns now k one.whole behind rest left (λ ms. ms) (members_view more) some_turns key one.reads
          (λ ms f. step one.whole ms one.passes f) (law one.whole) h);
    }

    pub member_made : (each : Json → Bool) → ((j : Json) (ms : Members) → each j ≡ true → test ms ≡ true → test (member k j ms) ≡ true)
        → (kept_of : Json → Json) (x : Entry A) (longer : List (Entry A)) → x.0.now ≡ k → longer ≡ made ++ x ∷ []
        → IsRead p each kept_of (value_view x.1) behind rest
        → ((j : Json) (ms : Members) → kept (member k j ms) ≡ member k (kept_of j) (kept ms)) → MembersLeft p test kept start rest longer
    member_made each step kept_of x longer named longer_is one law = record {
      turns = l.turns - 1;
      enough = fewer_turns;
      fewer = fewer_left;
      rest = λ left more h.
          let turn = members_turn p test kept l.turns now k one.whole behind rest left (member x.0.now (value_view x.1)) (members_view more) some_turns key one.reads
          (λ ms f. step one.whole ms one.passes f) (λ ms. law one.whole ms ∙ ap (λ j. member k j (kept ms)) one.made ∙ ap (λ n. member n (value_view x.1) (kept ms)) (sym named)) h in
          subst (λ ms. IsRead (members p (length start)) test kept (members_view ms) start left) (sym (grown longer made more x longer_is))
          (l.rest left (x ∷ more) turn);
    }

  pub members_made : {p : Parse Json} {test : Members → Bool} {kept : Members → Members} {start now : List Token} {made : List (Entry A)} → MembersLeft p test kept start now made
      → (left : List Token) → read_key now ≡ Some (None, left) → test no_members ≡ true → kept no_members ≡ no_members
      → IsRead (members p (length start)) test kept (members_view made) start left
  members_made {p} {test} {kept} {start} {now} {made} l left over passes none =
      subst (λ ms. IsRead (members p (length start)) test kept (members_view ms) start left) (append-nil made)
      (l.rest left [] (subst (λ ms. IsRead (members p l.turns) test kept ms now left) none
      (members_over p test kept l.turns now left l.enough over passes)))

  -- the same of items
  pub record ItemsLeft (p : Parse Json) (test : Items → Bool) (kept : Items → Items) (start now : List Token) (made : List (Value A)) : Type 0 where
    pub turns : ℕ
    pub enough : length now ≤ turns
    pub fewer : length now ≤ length start
    pub rest : (left : List Token) (more : List (Value A)) → IsRead (items p turns) test kept (items_view more) now left
        → IsRead (items p (length start)) test kept (items_view (made ++ more)) start left

  pub no_item_made : (p : Parse Json) (test : Items → Bool) (kept : Items → Items) (start : List Token) (made : List (Value A)) → made ≡ []
      → ItemsLeft p test kept start start made
  no_item_made p test kept start made e = record {
    turns = length start;
    enough = omega arith;
    fewer = omega arith;
    rest = λ left more h. subst (λ vs. IsRead (items p (length start)) test kept (items_view (vs ++ more)) start left) (sym e) h;
  }

  pub item_made : {p : Parse Json} {test : Items → Bool} {kept : Items → Items} {start now rest : List Token} {made : List (Value A)} → ItemsLeft p test kept start now made
      → after_end_array now ≡ None → length rest < length now → (each : Json → Bool) → ((j : Json) (js : Items) → each j ≡ true → test js ≡ true → test (item j js) ≡ true)
      → (kept_of : Json → Json) (x : Value A) (longer : List (Value A)) → longer ≡ made ++ x ∷ []
      → IsRead p each kept_of (value_view x) now rest → ((j : Json) (js : Items) → kept (item j js) ≡ item (kept_of j) (kept js))
      → ItemsLeft p test kept start rest longer
  item_made {p} {test} {kept} {start} {now} {rest} {made} l going less each step kept_of x longer longer_is one law = record {
    turns = l.turns - 1;
    enough = omega (arith, l.enough, less);
    fewer = omega (arith, l.fewer, less);
    rest = λ left more h.
        let turn = items_turn p test kept l.turns now one.whole rest left (item (value_view x)) (items_view more) (omega (arith, l.enough, less)) going one.reads
        (λ js f. step one.whole js one.passes f) (λ js. law one.whole js ∙ ap (λ j. item j (kept js)) one.made) h in
        subst (λ vs. IsRead (items p (length start)) test kept (items_view vs) start left) (sym (grown longer made more x longer_is))
        (l.rest left (x ∷ more) turn);
  }

  pub items_made : {p : Parse Json} {test : Items → Bool} {kept : Items → Items} {start now : List Token} {made : List (Value A)} → ItemsLeft p test kept start now made
      → (left : List Token) → after_end_array now ≡ Some left → test no_items ≡ true → kept no_items ≡ no_items
      → IsRead (items p (length start)) test kept (items_view made) start left
  items_made {p} {test} {kept} {start} {now} {made} l left over passes none =
      subst (λ vs. IsRead (items p (length start)) test kept (items_view vs) start left) (append-nil made)
      (l.rest left [] (subst (λ js. IsRead (items p l.turns) test kept js now left) none
      (items_over p test kept l.turns now left l.enough over passes)))

  -- a tree of an object or a list
  pub object_made : (depth : ℕ) (tokens behind rest : List Token) → 0 < depth → (test : Json → Bool) (each : Members → Bool)
      → ((ms : Members) → test (object ms) ≡ each ms) → (kept_of : Json → Json) (kept : Members → Members)
      → ((ms : Members) → kept_of (object ms) ≡ object (kept ms)) → (vec : Vec (Entry A) A) → tokens ≡ Token.begin_object ∷ behind
      → IsRead (members (value (depth - 1)) (length behind)) each kept (members_view vec.items) behind rest
      → IsRead (value depth) test kept_of (value_view (Object vec)) tokens rest
  object_made depth tokens behind rest some test each tests kept_of kept law vec e h =
      subst (λ j. IsRead (value depth) test kept_of j tokens rest) (sym (view-Object vec))
      (object_read depth tokens behind rest some test kept_of object (members_view vec.items) each tests kept law e h)

  pub array_made : (depth : ℕ) (tokens behind rest : List Token) → 0 < depth → (test : Json → Bool) (each : Items → Bool)
      → ((js : Items) → test (array js) ≡ each js) → (kept_of : Json → Json) (kept : Items → Items)
      → ((js : Items) → kept_of (array js) ≡ array (kept js)) → (vec : Vec (Value A) A) → tokens ≡ Token.begin_array ∷ behind
      → IsRead (items (value (depth - 1)) (length behind)) each kept (items_view vec.items) behind rest
      → IsRead (value depth) test kept_of (value_view (Array vec)) tokens rest
  array_made depth tokens behind rest some test each tests kept_of kept law vec e h =
      subst (λ j. IsRead (value depth) test kept_of j tokens rest) (sym (view-Array vec))
      (array_read depth tokens behind rest some test kept_of array (items_view vec.items) each tests kept law e h)
