-- When a list fits a list of signs, each of which takes any number of its items or one that passes
-- a test.
use Rattle.std.specs.Prelude.{◌&&◌, ◌||◌, List, [], ◌∷◌, Bool, true, false, cond}

-- the test holds of the list, or of what is left of it behind some of its first items
abbrev pub at_some_end : {X : Type 0} → (List X → Bool) → List X → Bool
at_some_end test [] = test []
at_some_end test (x ∷ xs) = test (x ∷ xs) || at_some_end test xs

-- the first item passes the test, and what follows it passes the other
abbrev pub first_and_rest : {X : Type 0} → (X → Bool) → (List X → Bool) → List X → Bool
first_and_rest test rest [] = false
first_and_rest test rest (x ∷ xs) = test x && rest xs

-- the last item passes the test
abbrev pub last_passes : {X : Type 0} → (X → Bool) → List X → Bool
last_passes test [] = false
last_passes test (x ∷ []) = test x
last_passes test (x ∷ y ∷ xs) = last_passes test (y ∷ xs)

-- there is no item
abbrev pub is_empty : {X : Type 0} → List X → Bool
is_empty [] = true
is_empty (x ∷ xs) = false

-- the signs take all the items in their order: a sign that spans any number of them, another one
-- that it fits
abbrev pub fits : {P X : Type 0} → (P → Bool) → (P → X → Bool) → List P → List X → Bool
fits spans fits_one [] xs = is_empty xs
fits spans fits_one (p ∷ ps) xs =
    cond (spans p) (at_some_end (fits spans fits_one ps) xs)
    (first_and_rest (fits_one p) (fits spans fits_one ps) xs)
