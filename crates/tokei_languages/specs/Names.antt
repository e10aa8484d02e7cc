-- The names under which languages are shown.
use Rattle.std.specs.Prelude.{ℕ, List}
use Rattle.tokei_table.specs.Lookups.{row_at}
use Rattle.tokei_table.specs.Row.{Row}

-- the name of the language with this number in the table; one that isn't of the table has an empty
-- name
abbrev pub name_in : List Row → ℕ → List ℕ
name_in rows language = (row_at rows language).name
