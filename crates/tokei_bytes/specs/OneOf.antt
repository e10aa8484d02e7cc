-- A byte that is one of a few.
use Rattle.std.specs.Prelude.{ℕ, Bool, true, false, ◌==◌, not, List, [], ◌∷◌, if◌then◌else◌}

-- Whether the byte is in the list.
abbrev pub is_one_of : List ℕ → ℕ → Bool
is_one_of [] byte = false
is_one_of (b ∷ t) byte = if byte == b then true else is_one_of t byte

-- Whether it isn't.
abbrev pub is_none_of : List ℕ → ℕ → Bool
is_none_of bs byte = not (is_one_of bs byte)
