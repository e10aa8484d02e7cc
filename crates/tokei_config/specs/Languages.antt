-- What a configuration file adds to languages.
use Rattle.std.specs.Prelude.{ℕ, List, [], ◌∷◌, Bool, ◌||◌, ◌==◌, Option, Some, None, option_map, option_and_then, if◌then◌else◌, codes, fold}
use Rattle.std.specs.BTreeMap.{insert_entry}
use Rattle.std.specs.List.{list_any}
use Rattle.std.specs.Ordering.{nat_cmp}
use Rattle.toml.specs.Data.{Data, Members, no_members, member, as_table, get_member}
use Rattle.tokei_config.specs.Members.{as_texts}
use Rattle.tokei_table.specs.Lookups.{first_where, has_name}
use Rattle.tokei_table.specs.Row.{Row}

-- A language, and the extensions that it gains.
abbrev pub Addition : Type 0
Addition = ℕ × List (List ℕ)

-- The extensions of a table `[languages.Key]`, which must be there; its other members are passed
-- over.
abbrev pub extensions_in : Members → Option (List (List ℕ))
extensions_in ms = option_and_then as_texts (get_member (codes "extensions") ms)

-- The addition of a member, whose key is a language's key or name.
abbrev pub addition : List Row → List ℕ → Data → Option Addition
addition rows key value =
    option_and_then (λ language. option_map (λ es. (language, es))
    (option_and_then extensions_in (as_table value)))
    (first_where (has_name key) rows)

-- The addition of each member; nothing where one of them can't be read.
abbrev pub additions : List Row → Members → Option (List Addition)
additions rows no_members = Some []
additions rows (member key d ms) =
    option_and_then (λ a. option_map (λ more. a ∷ more) (additions rows ms)) (addition rows key d)

-- Whether a language stands in two additions, as by its key and by its name.
abbrev pub named_twice : List Addition → Bool
named_twice [] = Bool.false
named_twice (a ∷ more) = list_any (λ b. b.0 == a.0) more || named_twice more

-- The additions in the order of the table.
abbrev pub in_table_order : List Addition → List Addition
in_table_order = fold (λ done a. insert_entry nat_cmp done a.0 a.1) []

-- The additions in the order of the table, where no language has two.
abbrev pub one_each : List Addition → Option (List Addition)
one_each found = if named_twice found then None else Some (in_table_order found)

-- What a table `[languages]` adds.
abbrev pub as_additions : List Row → Data → Option (List Addition)
as_additions rows value = option_and_then one_each
    (option_and_then (additions rows) (as_table value))
