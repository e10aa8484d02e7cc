-- A table in which languages gain extensions.
use Rattle.std.specs.Prelude.{ℕ, ◌+◌, ◌==◌, List, [], ◌∷◌, ◌++◌, String, if◌then◌else◌}
use Rattle.std.specs.Borrow.{Bor}
use Rattle.std.specs.Global.{Global}
use Rattle.tokei_table_row.specs.Bytes.{holds}
use Rattle.tokei_table_row.specs.Row.{Row}
use Rattle.tokei_table_row.specs.RowOf.{tokens_of}

-- Those of the listed extensions that aren't known yet, each once.
abbrev pub gained : List (List ℕ) → List (List ℕ) → List (List ℕ)
gained known [] = []
gained known (e ∷ es) = if holds known e then gained known es else e ∷ gained (known ++ e ∷ []) es

-- A language and the bytes of the extensions that are listed for it.
abbrev pub addition_of : ℕ × Bor (List (String Global)) → ℕ × List (List ℕ)
addition_of a = (a.0, tokens_of a.1.now)

-- The extensions that are listed for a language, which may be listed more than once.
abbrev pub listed_for : ℕ → List (ℕ × List (List ℕ)) → List (List ℕ)
listed_for language [] = []
listed_for language (a ∷ additions) =
    if a.0 == language then a.1 ++ listed_for language additions else listed_for language additions

-- The row with further extensions at the end of its own.
abbrev pub with_extensions : Row → List (List ℕ) → Row
with_extensions row es = record row { extensions = row.extensions ++ es }

-- In the order of the table each language, of which the first has that place, gains what no
-- language has yet.
abbrev pub extended_from : ℕ → List (List ℕ) → List (ℕ × List (List ℕ)) → List Row → List Row
extended_from place known additions [] = []
extended_from place known additions (r ∷ rs) =
    with_extensions r (gained known (listed_for place additions))
    ∷ extended_from (place + 1) (known ++ gained known (listed_for place additions)) additions rs

-- All extensions of a table, in its order.
abbrev pub extensions_of : List Row → List (List ℕ)
extensions_of [] = []
extensions_of (r ∷ rs) = r.extensions ++ extensions_of rs

-- The table in which the languages gain their additions.
abbrev pub extended : List Row → List (ℕ × List (List ℕ)) → List Row
extended rows additions = extended_from 0 (extensions_of rows) additions rows
