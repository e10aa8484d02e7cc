-- Members of JSON whose values are left out, by their name.
use Rattle.std.specs.Prelude.{ℕ, List, Bool, true, ◌&&◌, bytes_eq, if◌then◌else◌}
use Rattle.json.specs.Json.{Json, null, object, Members, no_members, member}
use Rattle.tokei_json_tree.specs.Numbers.{is_count, numbers_pass}

-- Any value.
abbrev pub any : Json → Bool
any value = true

-- Members, with `null` for the values of those of that name.
abbrev pub emptied : List ℕ → Members → Members
emptied name no_members = no_members
emptied name (member k j ms) = member k (if bytes_eq k name then null else j) (emptied name ms)

-- An object with such members; what is no object has none.
abbrev pub emptied_value : List ℕ → Json → Json
emptied_value name (object ms) = object (emptied name ms)
emptied_value name value = value

-- The numbers in those values are counts.
abbrev pub are_counted : List ℕ → Members → Bool
are_counted name no_members = true
are_counted name (member k j ms) =
    (if bytes_eq k name then numbers_pass is_count j else true) && are_counted name ms

-- So they are in an object; what is no object has no such value.
abbrev pub is_counted : List ℕ → Json → Bool
is_counted name (object ms) = are_counted name ms
is_counted name value = true
