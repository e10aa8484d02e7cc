-- When a text names two rows, or the rows' total.
use Rattle.std.specs.Prelude.{◌≡◌, ◌<◌, ℕ, Bool, true, false, ◌||◌, List, [], ◌∷◌, length, take, map}
use Rattle.std.specs.Prelude.{codes, bytes_eq, if◌then◌else◌}
use Rattle.std.specs.List.{list_any}
use Rattle.tokei_table_row.specs.Row.{Row}
use Rattle.tokei_table_rules.specs.Lookups.{has_name, row_at}

-- A text is key or name of both.
abbrev pub shares_name : Row → Row → Bool
shares_name row s =
    bytes_eq row.key s.key || bytes_eq row.key s.name || bytes_eq row.name s.key || bytes_eq
    row.name s.name

-- A text is key or name of two languages.
abbrev pub names_twice : List Row → Bool
names_twice [] = false
names_twice (r ∷ rs) = list_any (shares_name r) rs || names_twice rs

-- A text is key or name of the language at that place and of one before it.
abbrev pub shares_earlier : List Row → ℕ → Bool
shares_earlier rows place = list_any (shares_name (row_at rows place)) (take place rows)

-- The text is key or name of a language with the one key, and of a later one with the other key.
pub record NamesBoth (rows : List Row) (word key other : List ℕ) : Type 0 where
  pub place : ℕ
  pub later : ℕ
  pub in_order : place < later
  pub inside : later < length rows
  pub keys : ((row_at rows place).key ≡ key) × ((row_at rows later).key ≡ other)
  pub names : (has_name word (row_at rows place) ≡ true)
      × (has_name word (row_at rows later) ≡ true)

-- The keys of the languages.
abbrev pub keys_of : List Row → List (List ℕ)
keys_of rs = map (λ r. r.key) rs

-- The names of the languages whose name isn't their key.
abbrev pub other_names_of : List Row → List (List ℕ)
other_names_of [] = []
other_names_of (r ∷ rs) =
    if bytes_eq r.name r.key then other_names_of rs else r.name ∷ other_names_of rs

-- The key or the name is `Total`, under which results are totalled.
abbrev pub is_total : Row → Bool
is_total row = bytes_eq row.key (codes "Total") || bytes_eq row.name (codes "Total")
