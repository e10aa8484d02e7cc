-- The first and the last item of a list.
use Rattle.std.specs.Prelude.{ℕ, ◌==◌, List, [], ◌∷◌, Bool, false}

-- the first character is this one
abbrev pub begins_with : ℕ → List ℕ → Bool
begins_with start [] = false
begins_with start (first ∷ rest) = first == start

-- the last character is this one
abbrev pub ends_in : ℕ → List ℕ → Bool
ends_in end [] = false
ends_in end (first ∷ []) = first == end
ends_in end (first ∷ second ∷ rest) = ends_in end (second ∷ rest)

-- all but the first
abbrev pub without_first : {X : Type 0} → List X → List X
without_first [] = []
without_first (first ∷ rest) = rest

-- all but the last
abbrev pub without_last : {X : Type 0} → List X → List X
without_last [] = []
without_last (first ∷ []) = []
without_last (first ∷ second ∷ rest) = first ∷ without_last (second ∷ rest)
