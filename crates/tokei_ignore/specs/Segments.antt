-- When a name fits the pieces of a segment, and when the names of a path fit the segments of a
-- pattern.
use Rattle.std.specs.Prelude.{ℕ, ◌==◌, ◌&&◌, List, Bool, true, false, not, nat_le, cond}
use Rattle.std.specs.List.{list_any}
use Rattle.std.specs.Str.{chars}
use Rattle.tokei_ignore.specs.declared.pieces.Range.{Range}
use Rattle.tokei_ignore.specs.declared.pieces.Piece.{Piece}
use Rattle.tokei_ignore.specs.declared.pieces.Piece.TheVariants.{AnyRun, AnyOne, Exactly, Class}
use Rattle.tokei_ignore.specs.declared.pieces.Segment.{Segment}
use Rattle.tokei_ignore.specs.declared.pieces.Segment.TheVariants.{AnyNames, Name}
use Rattle.tokei_ignore.specs.Fits.{fits}

-- the character is one from the range's low end to its high end
abbrev pub is_in_range : ℕ → Range → Bool
is_in_range character range = nat_le range.low character && nat_le character range.high

-- a star takes any number of characters
abbrev pub spans_characters : Piece → Bool
spans_characters AnyRun = true
spans_characters AnyOne = false
spans_characters (Exactly x) = false
spans_characters (Class turned ranges) = false

-- `?` fits each character, a character itself, a class its members or, where it is turned, all
-- others
abbrev pub fits_character : Piece → ℕ → Bool
fits_character AnyRun character = false
fits_character AnyOne character = true
fits_character (Exactly x) character = x == character
fits_character (Class turned ranges) character =
    cond turned (not (list_any (is_in_range character) ranges))
    (list_any (is_in_range character) ranges)

-- the pieces take all the characters
abbrev pub fits_characters : List Piece → List ℕ → Bool
fits_characters = fits spans_characters fits_character

-- a `**` takes any number of names
abbrev pub spans_names : Segment → Bool
spans_names AnyNames = true
spans_names (Name pieces) = false

-- another segment fits one name, by the name's characters
abbrev pub fits_name : Segment → List ℕ → Bool
fits_name AnyNames name = false
fits_name (Name pieces) name = fits_characters pieces (chars name)

-- the segments take all the names
abbrev pub fits_names : List Segment → List (List ℕ) → Bool
fits_names = fits spans_names fits_name
