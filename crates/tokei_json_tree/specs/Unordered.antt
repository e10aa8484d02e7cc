-- The data that a tree stands for whose objects have their keys in any order, and some twice.
use Rattle.std.specs.Prelude.{Bool}
use Rattle.json.specs.Json as json
use Rattle.serde_json.specs.Data.{Data, null, boolean, string, array, object}
use Rattle.serde_json.specs.Data.{Items, no_items, item, Members, no_members, put}
use Rattle.serde_json.specs.Read.{number_of}
use Rattle.tokei_json_tree.specs.Numbers.{has_value, numbers_pass, items_pass, members_pass}
use Rattle.tokei_json_tree.specs.TreeData.{number_data}

abbrev mutual
  -- Of a value.
  pub unordered_data : json.Json → Data
  unordered_data json.null = null
  unordered_data (json.boolean b) = boolean b
  unordered_data (json.number s) = number_data (number_of s)
  unordered_data (json.string s) = string s
  unordered_data (json.array js) = array (unordered_items js)
  unordered_data (json.object ms) = object (unordered_members ms no_members)

  -- Of the items of a list.
  pub unordered_items : json.Items → Items
  unordered_items json.no_items = no_items
  unordered_items (json.item j js) = item (unordered_data j) (unordered_items js)

  -- Of the members of an object, which go in behind others one after another: the last value of a
  -- key stays.
  pub unordered_members : json.Members → Members → Members
  unordered_members json.no_members found = found
  unordered_members (json.member k j ms) found =
      unordered_members ms (put k (unordered_data j) found)

-- Each number in a value can be read: none is too large for a float.
abbrev pub is_in_range : json.Json → Bool
is_in_range value = numbers_pass has_value value

-- In each item of a list.
abbrev pub are_items_in_range : json.Items → Bool
are_items_in_range items = items_pass has_value items

-- In each member of an object.
abbrev pub are_members_in_range : json.Members → Bool
are_members_in_range members = members_pass has_value members
