-- The languages of a table with their extensions.
use Rattle.std.specs.Prelude.{ℕ, ◌+◌, List, [], ◌∷◌, String}
use Rattle.std.specs.Borrow.{Bor}
use Rattle.std.specs.Global.{Global}
use Rattle.tokei_table_row.specs.Row.{Row}
use Rattle.tokei_table_row.specs.RowOf.{tokens_of}

-- A listed language, as its place and the bytes of its extensions.
abbrev pub listed : ℕ × Bor (List (String Global)) → ℕ × List (List ℕ)
listed l = (l.0, tokens_of l.1.now)

-- The languages of the rows, of which the first has that place.
abbrev pub languages_from : ℕ → List Row → List (ℕ × List (List ℕ))
languages_from place [] = []
languages_from place (r ∷ rs) = (place, r.extensions) ∷ languages_from (place + 1) rs
