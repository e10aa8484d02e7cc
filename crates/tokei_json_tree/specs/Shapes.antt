-- Tests of JSON values, and of members that may be missing.
use Rattle.std.specs.Prelude.{Bool, true, false, ◌&&◌, Option, Some, None, is_some}
use Rattle.serde_json.specs.Data.{Data, array, Items, no_items, item}
use Rattle.serde_json.specs.Find.{as_str, as_bool}

-- A member may be left out; where it stands, its value passes the test.
abbrev pub absent_or : (Data → Bool) → Option Data → Bool
absent_or test None = true
absent_or test (Some d) = test d

-- A member has to stand there, and its value passes the test.
abbrev pub stands_and : (Data → Bool) → Option Data → Bool
stands_and test None = false
stands_and test (Some d) = test d

-- A text.
abbrev pub is_text : Data → Bool
is_text value = is_some (as_str value)

-- `true` or `false`.
abbrev pub is_truth_value : Data → Bool
is_truth_value value = is_some (as_bool value)

-- Whether each item passes the test.
abbrev pub all_items : (Data → Bool) → Items → Bool
all_items test no_items = true
all_items test (item d ds) = test d && all_items test ds

-- A list whose items pass the test.
abbrev pub is_list : (Data → Bool) → Data → Bool
is_list test (array ds) = all_items test ds
is_list test value = false
