-- A tree that stands for what another reads as, with the keys of its objects put in order.
use Rattle.std.specs.Prelude.{◌≡◌, ℕ, List, false, Some}
use Rattle.json.specs.Json as json
use Rattle.serde_json.specs.Data.{no_members, put}
use Rattle.serde_json.specs.Read.{of_json, of_items, of_members}
use Rattle.serde_json.specs.Written.{has_float, items_have_float, members_have_float}
use Rattle.tokei_json_tree.specs.Ordered.{AreItemsOrdered, AreKeysInOrder, AreMembersOrdered, IsOrdered}
use Rattle.tokei_json_tree.specs.TreeData.{data_of, items_data, members_data}

-- A value; no number in it is but a whole one of 64 bits.
pub record IsOrderingOf (old new : json.Json) : Type 0 where
  pub reads : of_json old ≡ Some (data_of new)
  pub ordered : IsOrdered new
  pub whole : has_float (data_of new) ≡ false

-- The items of a list.
pub record AreItemsOrderingOf (old new : json.Items) : Type 0 where
  pub reads : of_items old ≡ Some (items_data new)
  pub ordered : AreItemsOrdered new
  pub whole : items_have_float (items_data new) ≡ false

-- The members of an object.
pub record AreMembersOrderingOf (old new : json.Members) : Type 0 where
  pub reads : of_members old no_members ≡ Some (members_data new)
  pub keys : AreKeysInOrder new
  pub ordered : AreMembersOrdered new
  pub whole : members_have_float (members_data new) ≡ false

-- A member among others whose keys are in order: at its key's place.
pub record IsPut (key : List ℕ) (value : json.Json) (old new : json.Members) : Type 0 where
  pub put : members_data new ≡ put key (data_of value) (members_data old)
  pub keys : AreKeysInOrder new
  pub ordered : IsOrdered value → AreMembersOrdered old → AreMembersOrdered new
