-- A text that is read as a tree, but for the members of one name.
use Rattle.std.specs.Prelude.{◌≡◌, ℕ, List, false, Some, bytes_eq, if◌then◌else◌}
use Rattle.json.specs.Json as json
use Rattle.serde_json.specs.Data.{Data, null, object, Members, no_members, member}
use Rattle.serde_json.specs.Read.{read}
use Rattle.serde_json.specs.Written.{has_float}
use Rattle.tokei_json_tree.specs.Ordered.{IsOrdered}
use Rattle.tokei_json_tree.specs.TreeData.{data_of}

-- Members, with `null` for the values of those of that name.
abbrev pub members_without : List ℕ → Members → Members
members_without name no_members = no_members
members_without name (member k d ms) =
    member k (if bytes_eq k name then null else d) (members_without name ms)

-- An object with such members; what is no object has none.
abbrev pub without : List ℕ → Data → Data
without name (object ms) = object (members_without name ms)
without name value = value

-- The tree stands for what the text reads as, whatever its members of that name hold, and its
-- objects have their keys in order. No number in either is but a whole one of 64 bits.
pub record IsReadingWithout (name text : List ℕ) (j : json.Json) : Type 0 where
  pub whole : Data
  pub reads : read text ≡ Some whole
  pub same : without name (data_of j) ≡ without name whole
  pub ordered : IsOrdered j
  pub no_float : has_float whole ≡ false
  pub no_float_in_tree : has_float (data_of j) ≡ false
