-- The first and the last place in a text at which a token stands.
use Rattle.std.specs.Prelude.{ℕ, suc, Bool, false, ◌==◌, if◌then◌else◌, List, [], ◌∷◌, Option, None, Some, option_map}
use Rattle.tokei_table_row.specs.Bytes.{begins}
use Rattle.tokei_table_row.specs.OuterLines.{later_or}

-- The first place from which on the text passes the test.
abbrev pub first_where : (List ℕ → Bool) → List ℕ → Option ℕ
first_where test [] = None
first_where test (b ∷ t) = if test (b ∷ t) then Some 0 else option_map suc (first_where test t)

-- The last such place.
abbrev pub last_where : (List ℕ → Bool) → List ℕ → Option ℕ
last_where test [] = None
last_where test (b ∷ t) = later_or (test (b ∷ t)) (last_where test t)

-- The first place at which the token stands. A token of one byte finds that byte.
abbrev pub first_of : List ℕ → List ℕ → Option ℕ
first_of token text = first_where (begins token) text

-- The last place at which the token stands.
abbrev pub last_of : List ℕ → List ℕ → Option ℕ
last_of token text = last_where (begins token) text

-- Whether what was found is the given place.
abbrev pub is_at : ℕ → Option ℕ → Bool
is_at place None = false
is_at place (Some i) = i == place
