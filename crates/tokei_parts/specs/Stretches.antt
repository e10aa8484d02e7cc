-- Stretches: the parts of a text, counted or broken off by a child, with the choices that begin in
-- them.
use Rattle.std.specs.Prelude.{ℕ, ◌+◌, Bool, ◌==◌, if◌then◌else◌, List, [], ◌∷◌, ◌++◌, map, drop, None}
use Rattle.tokei_table.specs.Bytes.{newline}
use Rattle.tokei_parts.specs.Items.{Mode}
use Rattle.tokei_embedding.specs.DocComments.{first_line}
use Rattle.tokei_parts.specs.Modes.{Mark, innermost}
use Rattle.tokei_parts.specs.Modes.Mark.{byte_at, child_at}

-- a part, up to the child that breaks it off, if any: the mode at its beginning, its reach, and its
-- bytes, each with whether a choice begins at it
pub record Stretch : Type 0 where
  pub begun : Mode
  pub reach : List ℕ
  pub own : List (ℕ × Bool)

-- the bytes alone
abbrev pub bytes_of : List (ℕ × Bool) → List ℕ
bytes_of = map (λ b. b.0)

-- how many choices a byte begins: one or none
abbrev pub one_if : Bool → ℕ
one_if flag = if flag then 1 else 0

-- how many choices begin at the bytes
abbrev pub choices_of : List (ℕ × Bool) → ℕ
choices_of [] = 0
choices_of (b ∷ bs) = one_if b.1 + choices_of bs

-- The stretches of the marks of what is left of the text, which is `rest`. The part under way began
-- in the mode, and has the bytes.
unfoldable pub stretches : Mode → List (ℕ × Bool) → List ℕ → List Mark → List Stretch
stretches mode s rest [] = elim s [
  | [] ↦ []
  | a ∷ s' ↦ record { begun = mode; reach = bytes_of (a ∷ s'); own = a ∷ s' } ∷ []
]
stretches m s t (byte_at b x c ∷ ms) =
    if b == newline
    then record { begun = m; reach = bytes_of (s ++ (b, x) ∷ []); own = s ++ (b, x) ∷ [] }
    ∷ stretches (innermost c) [] (drop 1 t) ms
    else stretches m (s ++ (b, x) ∷ []) (drop 1 t) ms
stretches m s t (child_at k ∷ ms) =
    record { begun = m; reach = bytes_of s ++ first_line t; own = s }
    ∷ stretches None [] (drop k.size t) ms
