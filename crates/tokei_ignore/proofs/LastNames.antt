-- Any names and then one fit where the last name does.
use Rattle.std.proofs.Common.{◌≡◌, ℕ, ◌&&◌, ◌||◌, List, [], ◌∷◌, ◌++◌, Bool, true, false, refl, ◌∙◌}
use Rattle.std.specs.Str.{chars}
use Rattle.tokei_ignore.specs.declared.pieces.Piece.{Piece}
use Rattle.tokei_ignore.specs.declared.pieces.Segment.TheVariants.{AnyNames, Name}
use Rattle.tokei_ignore.specs.Fits.{last_passes, first_and_rest, at_some_end, is_empty}
use Rattle.tokei_ignore.specs.Segments.{fits_names, fits_characters}

last_one : (b : Bool) → ((b && true) || false) ≡ b
last_one true = refl
last_one false = refl

not_last : (b c : Bool) → ((b && false) || c) ≡ c
not_last true c = refl
not_last false c = refl

at_the_last : {X : Type 0} (test : X → Bool) (xs : List X) → at_some_end (first_and_rest test is_empty) xs ≡ last_passes test xs
at_the_last test [] = refl
at_the_last test (x ∷ []) = last_one (test x)
at_the_last test (x ∷ y ∷ xs) = not_last (test x) (at_some_end (first_and_rest test is_empty) (y ∷ xs)) ∙ at_the_last test (y ∷ xs)

-- the last name alone decides
pub fits_last : (ps : List Piece) (names : List (List ℕ)) → fits_names (AnyNames ∷ Name ps ∷ []) names ≡ last_passes (λ name. fits_characters ps (chars name)) names
fits_last ps names = at_the_last (λ name. fits_characters ps (chars name)) names

pub last_passes-push : {X : Type 0} (test : X → Bool) (xs : List X) (x : X) → last_passes test (xs ++ x ∷ []) ≡ test x
last_passes-push test [] x = refl
last_passes-push test (y ∷ []) x = refl
last_passes-push test (y ∷ z ∷ xs) x = last_passes-push test (z ∷ xs) x
