-- The first row that passes a test, and the test by which a word names a row.
use Rattle.std.specs.Prelude.{ℕ, suc, Bool, ◌||◌, if◌then◌else◌, List, [], ◌∷◌, bytes_eq}
use Rattle.std.specs.Prelude.{Option, Some, None, option_map}
use Rattle.tokei_table_row.specs.Row.{Row}

-- The first language of whose row the condition is true.
abbrev pub first_where : (Row → Bool) → List Row → Option ℕ
first_where test [] = None
first_where test (r ∷ rs) = if test r then Some 0 else option_map suc (first_where test rs)

-- The condition of `from_name`: the word is the key or the name.
abbrev pub has_name : List ℕ → Row → Bool
has_name word row = bytes_eq row.key word || bytes_eq row.name word
