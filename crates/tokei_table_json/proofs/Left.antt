-- What is left of the items or the members of a tree at each turn of a loop over them.
use Rattle.std.proofs.Common.{◌≡◌, ℕ, ◌+◌, ◌<◌, ◌≤◌, List, length, get_or, drop, Bool, true, false, ◌&&◌, not, Bor}
use Rattle.std.proofs.Common.{sym, ap, ◌∙◌, subst}
use Rattle.std.proofs.Math.Bool.{not-not}
use Rattle.std.proofs.lemmas.List.{drop_all}
use Rattle.json.specs.Json as json
use Rattle.json.specs.Value.{value_view, items_view, members_view}
use Rattle.json.specs.declared.value.Value.{Value}
use Rattle.serde_json.specs.Data.{Data, Members, no_members, member}
use Rattle.tokei_json_tree.specs.Ordered.{IsOrdered, AreItemsOrdered, AreMembersOrdered}
use Rattle.tokei_json_tree.specs.TreeData.{data_of, items_data, members_data}
use Rattle.tokei_json_tree.proofs.Steps.{from_item}
use Rattle.tokei_json_tree.specs.Shapes.{all_items}

abbrev pub TreeMember : Type 0 → Type 0
TreeMember A = Bor (List ℕ) × Value A

-- the members from a place on are in order, and what holds of all of them is told by these
abbrev pub MembersLeft : {A : Type 0} → (Members → Bool) → List (TreeMember A) → ℕ → Type 0
MembersLeft holds xs i = record {
  ordered : AreMembersOrdered (members_view (drop i xs));
  value : holds (members_data (members_view xs)) ≡ holds (members_data (members_view (drop i xs)));
}

-- all pass where none is found that doesn't
pub none_found : {found a b : Bool} → found ≡ not a → found ≡ not b → a ≡ b
none_found {found} {a} {b} e f = sym (not-not a) ∙ ap not (sym e ∙ f) ∙ not-not b

-- the member at a place, and those behind it
module _ {A : Type 0} (xs : List (TreeMember A)) (i : ℕ) (x : TreeMember A) (within : i < length xs) (is : x ≡ get_or xs i x) where
  pub members_here : members_view (drop i xs) ≡ json.member x.0.now (value_view x.1) (members_view (drop (i + 1) xs))
  members_here = ap members_view (from_item xs i x within is)

  pub member_ordered : AreMembersOrdered (members_view (drop i xs)) → IsOrdered (value_view x.1)
  member_ordered o = (subst AreMembersOrdered members_here o).0

  pub members_ordered : AreMembersOrdered (members_view (drop i xs)) → AreMembersOrdered (members_view (drop (i + 1) xs))
  members_ordered o = (subst AreMembersOrdered members_here o).1

-- a test that each member passes
module _ {A : Type 0} (holds : Members → Bool) (test : List ℕ → Data → Bool)
    (both : (k : List ℕ) (d : Data) (ms : Members) → holds (member k d ms) ≡ (test k d && holds ms)) (xs : List (TreeMember A)) (i : ℕ)
    (left : MembersLeft holds xs i) where
  module _ (x : TreeMember A) (within : i < length xs) (is : x ≡ get_or xs i x) (b : Bool) (found : b ≡ test x.0.now (data_of (value_view x.1))) where
    one_more : holds (members_data (members_view xs)) ≡ (b && holds (members_data (members_view (drop (i + 1) xs))))
    one_more =
        left.value ∙ ap (λ ms. holds (members_data ms)) (members_here xs i x within is)
        ∙ both x.0.now (data_of (value_view x.1)) (members_data (members_view (drop (i + 1) xs)))
        ∙ ap (λ c. c && holds (members_data (members_view (drop (i + 1) xs)))) (sym found)

    pub member_passes : b ≡ true → MembersLeft holds xs (i + 1)
    member_passes e = record {
      ordered = members_ordered xs i x within is left.ordered;
      value = one_more ∙ ap (λ c. c && holds (members_data (members_view (drop (i + 1) xs)))) e;
    }

    pub member_fails : b ≡ false → holds (members_data (members_view xs)) ≡ false
    member_fails e = one_more ∙ ap (λ c. c && holds (members_data (members_view (drop (i + 1) xs)))) e

  pub members_pass : length xs ≤ i → holds no_members ≡ true → holds (members_data (members_view xs)) ≡ true
  members_pass end e = left.value ∙ ap (λ ys. holds (members_data (members_view ys))) (drop_all i xs end) ∙ e

-- the item at a place, and those behind it
module _ {A : Type 0} (xs : List (Value A)) (i : ℕ) (x : Value A) (within : i < length xs) (is : x ≡ get_or xs i x) where
  pub items_here : items_view (drop i xs) ≡ json.item (value_view x) (items_view (drop (i + 1) xs))
  items_here = ap items_view (from_item xs i x within is)

  pub item_ordered : AreItemsOrdered (items_view (drop i xs)) → IsOrdered (value_view x)
  item_ordered o = (subst AreItemsOrdered items_here o).0

  pub items_ordered : AreItemsOrdered (items_view (drop i xs)) → AreItemsOrdered (items_view (drop (i + 1) xs))
  items_ordered o = (subst AreItemsOrdered items_here o).1

-- whether all items pass a test is told by those from a place on
abbrev pub ItemsLeft : {A : Type 0} → (Data → Bool) → List (Value A) → ℕ → Type 0
ItemsLeft test xs i = all_items test (items_data (items_view xs)) ≡ all_items test (items_data (items_view (drop i xs)))

-- a test that each item passes
module _ {A : Type 0} (test : Data → Bool) (xs : List (Value A)) (i : ℕ) (left : ItemsLeft test xs i) where
  module _ (x : Value A) (within : i < length xs) (is : x ≡ get_or xs i x) (b : Bool) (found : b ≡ test (data_of (value_view x))) where
    one_more_item : all_items test (items_data (items_view xs)) ≡ (b && all_items test (items_data (items_view (drop (i + 1) xs))))
    one_more_item =
        left ∙ ap (λ js. all_items test (items_data js)) (items_here xs i x within is)
        ∙ ap (λ c. c && all_items test (items_data (items_view (drop (i + 1) xs)))) (sym found)

    pub item_passes : b ≡ true → ItemsLeft test xs (i + 1)
    item_passes e = one_more_item ∙ ap (λ c. c && all_items test (items_data (items_view (drop (i + 1) xs)))) e

    pub item_fails : b ≡ false → all_items test (items_data (items_view xs)) ≡ false
    item_fails e = one_more_item ∙ ap (λ c. c && all_items test (items_data (items_view (drop (i + 1) xs)))) e

  pub items_pass : length xs ≤ i → all_items test (items_data (items_view xs)) ≡ true
  items_pass end = left ∙ ap (λ ys. all_items test (items_data (items_view ys))) (drop_all i xs end)
