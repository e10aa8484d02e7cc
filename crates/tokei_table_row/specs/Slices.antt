-- Pieces of a text, and whether it holds another.
use Rattle.std.specs.Prelude.{ℕ, ◌-◌, Bool, false, ◌||◌, List, [], ◌∷◌, take, drop}
use Rattle.tokei_table_row.specs.Bytes.{begins}

-- The text's bytes from the place `from` to before `to`; none where `to` isn't behind it.
abbrev pub between : List ℕ → ℕ → ℕ → List ℕ
between text from to = take (to - from) (drop from text)

-- Whether the needle stands at some place of the text before its end.
abbrev pub stands_in : List ℕ → List ℕ → Bool
stands_in needle [] = false
stands_in needle (b ∷ t) = begins needle (b ∷ t) || stands_in needle t

-- Whether the text holds the needle; none holds the empty one.
abbrev pub contains_slice : List ℕ → List ℕ → Bool
contains_slice text [] = false
contains_slice text (n ∷ needle) = stands_in (n ∷ needle) text
