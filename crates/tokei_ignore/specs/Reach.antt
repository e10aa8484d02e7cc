-- How far the signs before the first one that spans any number of items fit a list.
use Rattle.std.specs.Prelude.{ℕ, List, [], ◌∷◌, Bool, cond}
use Rattle.std.specs.Str.{chars}
use Rattle.tokei_ignore.specs.declared.pieces.Piece.{Piece}
use Rattle.tokei_ignore.specs.declared.pieces.Segment.{Segment}
use Rattle.tokei_ignore.specs.declared.matching.NameReach.{NameReach}
use Rattle.tokei_ignore.specs.declared.matching.NameReach.TheVariants as in_name
use Rattle.tokei_ignore.specs.declared.matching.PathReach.{PathReach}
use Rattle.tokei_ignore.specs.declared.matching.PathReach.TheVariants as in_path
use Rattle.tokei_ignore.specs.Segments.{spans_characters, fits_character, spans_names, fits_name}

-- the signs don't fit the list, or fit all of it, or fit it up to a sign that spans: then the signs
-- behind that one and the items that are left
pub data Reach (P X : Type 0) : Type 0 where
  fails : Reach P X
  done : Reach P X
  at_span : List P → List X → Reach P X

-- behind the last sign: nothing may be left of the list
abbrev pub ended : {P X : Type 0} → List X → Reach P X
ended [] = done
ended (x ∷ xs) = fails

-- the next sign's reach, where the first item fits this one
abbrev pub onward : {P X : Type 0} → (X → Bool) → (List X → Reach P X) → List X → Reach P X
onward test next [] = fails
onward test next (x ∷ xs) = cond (test x) (next xs) fails

-- how far the signs fit the list, by which signs span and which item fits each of the others
abbrev pub reach : {P X : Type 0} → (P → Bool) → (P → X → Bool) → List P → List X → Reach P X
reach spans fits_one [] xs = ended xs
reach spans fits_one (p ∷ ps) xs =
    cond (spans p) (at_span ps xs) (onward (fits_one p) (reach spans fits_one ps) xs)

-- how far pieces fit the characters of a name
abbrev pub name_reach : List Piece → List ℕ → Reach Piece ℕ
name_reach = reach spans_characters fits_character

-- how far segments fit the names of a path
abbrev pub path_reach : List Segment → List (List ℕ) → Reach Segment (List ℕ)
path_reach = reach spans_names fits_name

-- the code's reach in a name, with the characters that are left
abbrev pub name_reach_view : NameReach → Reach Piece ℕ
name_reach_view in_name.Fails = fails
name_reach_view in_name.Done = done
name_reach_view (in_name.AtSpan ps rest) = at_span ps.now (chars rest.now)

-- the code's reach in a path, with the names that are left
abbrev pub path_reach_view : PathReach → Reach Segment (List ℕ)
path_reach_view in_path.Fails = fails
path_reach_view in_path.Done = done
path_reach_view (in_path.AtSpan ps rest) = at_span ps.now rest.now
