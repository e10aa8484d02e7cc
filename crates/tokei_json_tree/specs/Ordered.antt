-- Trees whose objects have their keys in byte order, each once.
use Rattle.std.specs.Prelude.{◌≡◌, ℕ, List, [], ◌∷◌, ⊤}
use Rattle.std.specs.Cmp.Lexicographic.{slice_cmp}
use Rattle.std.specs.declared.cmp.Ordering.TheVariants.{Less}
use Rattle.std.specs.List.{AllByRecursion}
use Rattle.std.specs.List.Sorted.{IsStrictlySortedBy}
use Rattle.std.specs.Ordering.{nat_cmp}
use Rattle.json.specs.Json as json

-- All of the keys are before that one in byte order.
abbrev pub AreBefore : List (List ℕ) → List ℕ → Type 0
AreBefore ks key = AllByRecursion (λ k. slice_cmp nat_cmp k key ≡ Less) ks

-- The keys of an object's members.
abbrev pub keys_of : json.Members → List (List ℕ)
keys_of json.no_members = []
keys_of (json.member k j ms) = k ∷ keys_of ms

-- They ascend in byte order.
abbrev pub AreKeysInOrder : json.Members → Type 0
AreKeysInOrder ms = IsStrictlySortedBy (slice_cmp nat_cmp) (keys_of ms)

abbrev mutual
  -- So do those of each object in a value.
  pub IsOrdered : json.Json → Type 0
  IsOrdered json.null = ⊤
  IsOrdered (json.boolean b) = ⊤
  IsOrdered (json.number s) = ⊤
  IsOrdered (json.string s) = ⊤
  IsOrdered (json.array js) = AreItemsOrdered js
  IsOrdered (json.object ms) = AreKeysInOrder ms × AreMembersOrdered ms

  -- In each item of a list.
  pub AreItemsOrdered : json.Items → Type 0
  AreItemsOrdered json.no_items = ⊤
  AreItemsOrdered (json.item j js) = IsOrdered j × AreItemsOrdered js

  -- In each member of an object.
  pub AreMembersOrdered : json.Members → Type 0
  AreMembersOrdered json.no_members = ⊤
  AreMembersOrdered (json.member k j ms) = IsOrdered j × AreMembersOrdered ms
