-- A line without the spaces at its end.
use Rattle.std.specs.Prelude.{ℕ, ◌==◌, ◌&&◌, ◌++◌, List, [], ◌∷◌, Bool, false, not, length, nat_lt, if◌then◌else◌}

-- a space before nothing goes too
abbrev pub onto_kept : ℕ → List ℕ → List ℕ
onto_kept character [] = if character == 32 then [] else character ∷ []
onto_kept character (d ∷ ds) = character ∷ d ∷ ds

-- the line without the spaces at its end
abbrev pub without_spaces : List ℕ → List ℕ
without_spaces [] = []
without_spaces (c ∷ cs) = onto_kept c (without_spaces cs)

-- an odd number of backslashes ends the line, where `odd` says whether an odd number stands before
-- it
abbrev pub is_escaped : Bool → List ℕ → Bool
is_escaped odd [] = odd
is_escaped odd (c ∷ cs) = is_escaped (c == 92 && not odd) cs

-- without its spaces at the end, but for one that a backslash quotes
unfoldable pub trimmed : List ℕ → List ℕ
trimmed cs =
    if nat_lt (length (without_spaces cs)) (length cs) && is_escaped false (without_spaces cs)
    then without_spaces cs ++ 32 ∷ []
    else without_spaces cs
