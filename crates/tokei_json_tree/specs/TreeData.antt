-- The data that a tree stands for whose objects have their keys in byte order, each once.
use Rattle.std.specs.Prelude.{Option, None, Some}
use Rattle.json.specs.Json as json
use Rattle.serde_json.specs.Data.{Num, Data, null, boolean, number, string, array, object}
use Rattle.serde_json.specs.Data.{Items, no_items, item, Members, no_members, member}
use Rattle.serde_json.specs.Read.{number_of}

-- A number as its text reads; `null` where it can't be read.
abbrev pub number_data : Option Num → Data
number_data None = null
number_data (Some n) = number n

abbrev mutual
  -- Of a value.
  pub data_of : json.Json → Data
  data_of json.null = null
  data_of (json.boolean b) = boolean b
  data_of (json.number s) = number_data (number_of s)
  data_of (json.string s) = string s
  data_of (json.array js) = array (items_data js)
  data_of (json.object ms) = object (members_data ms)

  -- Of the items of a list.
  pub items_data : json.Items → Items
  items_data json.no_items = no_items
  items_data (json.item j js) = item (data_of j) (items_data js)

  -- Of the members of an object.
  pub members_data : json.Members → Members
  members_data json.no_members = no_members
  members_data (json.member k j ms) = member k (data_of j) (members_data ms)
