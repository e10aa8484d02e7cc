-- Values whose numbers pass a test.
use Rattle.std.specs.Prelude.{ℕ, List, Bool, true, ◌&&◌, is_some, option_and_then}
use Rattle.json.specs.Json as json
use Rattle.serde_json.specs.Find.{as_u64}
use Rattle.serde_json.specs.Read.{number_of}
use Rattle.tokei_json_tree.specs.declared.passing.Numbers.{Numbers}
use Rattle.tokei_json_tree.specs.declared.passing.Numbers.TheVariants.{InRange, Counts}

-- The number that a text writes has a value: it isn't too large for a float.
abbrev pub has_value : List ℕ → Bool
has_value text = is_some (number_of text)

-- It is a whole one of 64 bits from 0 on.
abbrev pub is_count : List ℕ → Bool
is_count text = is_some (option_and_then as_u64 (number_of text))

-- The test of either kind.
abbrev pub number_test : Numbers → List ℕ → Bool
number_test InRange = has_value
number_test Counts = is_count

abbrev mutual
  -- Each number in a value passes the test.
  pub numbers_pass : (List ℕ → Bool) → json.Json → Bool
  numbers_pass test json.null = true
  numbers_pass test (json.boolean b) = true
  numbers_pass test (json.number s) = test s
  numbers_pass test (json.string s) = true
  numbers_pass test (json.array js) = items_pass test js
  numbers_pass test (json.object ms) = members_pass test ms

  -- In each item of a list.
  pub items_pass : (List ℕ → Bool) → json.Items → Bool
  items_pass test json.no_items = true
  items_pass test (json.item j js) = numbers_pass test j && items_pass test js

  -- In each member of an object.
  pub members_pass : (List ℕ → Bool) → json.Members → Bool
  members_pass test json.no_members = true
  members_pass test (json.member k j ms) = numbers_pass test j && members_pass test ms
