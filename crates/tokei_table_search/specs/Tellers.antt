-- Openers that are told by their first two bytes.
use Rattle.std.specs.Prelude.{◌≡◌, ℕ, Bool, true, false, List, [], ◌∷◌}
use Rattle.std.specs.List.{list_all}
use Rattle.tokei_bytes.specs.Slots.{is_slotted, is_told}
use Rattle.tokei_table_search.specs.declared.tellers.Tellers.{Tellers}

-- Whether the opener's bytes tell it: the first one alone, or with the second one.
abbrev pub tells : List ℕ → List ℕ → List ℕ → List ℕ → Bool
tells alone firsts seconds [] = false
tells alone firsts seconds (x ∷ []) = is_slotted alone x
tells alone firsts seconds (x ∷ y ∷ o) = is_told alone firsts seconds x y

-- The bytes tell each of the openers.
abbrev pub AreTellers : Tellers → List (List ℕ) → Type 0
AreTellers tellers os = list_all (tells tellers.alone tellers.firsts tellers.seconds) os ≡ true
