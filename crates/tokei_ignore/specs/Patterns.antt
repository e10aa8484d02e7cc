-- The pattern of a line, and when it fits an entry.
use Rattle.std.specs.Prelude.{ℕ, ◌==◌, ◌&&◌, ◌||◌, ◌++◌, List, [], ◌∷◌, Bool, false, not, Option, Some, None, Result, Ok, if◌then◌else◌}
use Rattle.std.specs.List.{slice_split, list_any}
use Rattle.tokei_ignore.specs.declared.pieces.Piece.TheVariants.{AnyRun}
use Rattle.tokei_ignore.specs.declared.pieces.Segment.{Segment}
use Rattle.tokei_ignore.specs.declared.pieces.Segment.TheVariants.{AnyNames, Name}
use Rattle.tokei_ignore.specs.declared.patterns.PatternError.{PatternError}
use Rattle.tokei_ignore.specs.declared.patterns.Pattern.{Pattern}
use Rattle.tokei_folders.specs.Ends.{begins_with, ends_in, without_first, without_last}
use Rattle.tokei_ignore.specs.Trims.{trimmed}
use Rattle.tokei_ignore.specs.Fits.{is_empty}
use Rattle.tokei_ignore.specs.Reading.{pieces_of, and_then}
use Rattle.tokei_ignore.specs.Segments.{fits_names, spans_names}

-- exactly `**`
abbrev pub is_double_star : List ℕ → Bool
is_double_star [] = false
is_double_star (c ∷ []) = false
is_double_star (c ∷ d ∷ []) = (c == 42) && (d == 42)
is_double_star (c ∷ d ∷ e ∷ cs) = false

-- what stands between two slashes: `**`, or the pieces of one name
unfoldable pub segment_of : List ℕ → Result Segment PatternError
segment_of cs =
    if is_double_star cs then Ok AnyNames else and_then (pieces_of cs) (λ ps. Ok (Name ps))

-- the segments of the parts, behind those that are read
unfoldable pub segments_from : List Segment → List (List ℕ) → Result (List Segment) PatternError
segments_from read [] = Ok read
segments_from read (part ∷ parts) =
    and_then (segment_of part) (λ s. segments_from (read ++ s ∷ []) parts)

-- the last segment spans any number of names
abbrev pub ends_in_names : List Segment → Bool
ends_in_names [] = false
ends_in_names (s ∷ []) = spans_names s
ends_in_names (s ∷ t ∷ ss) = ends_in_names (t ∷ ss)

-- a last `**` takes one name at least: any number of names, and then one of any characters
unfoldable pub closed : List Segment → List Segment
closed ss = if ends_in_names ss then ss ++ Name (AnyRun ∷ []) ∷ [] else ss

-- the character is a slash
abbrev pub is_slash : ℕ → Bool
is_slash character = character == 47

-- what is left is cut at its slashes; where no slash anchors it, any number of names may stand in
-- front
unfoldable pub unanchored : Bool → List ℕ → List Segment
unanchored anchored cs = if anchored || list_any is_slash cs then [] else AnyNames ∷ []

-- the pattern of what is left: none of nothing, else its segments, cut at the slashes
unfoldable pub from_rest : Bool → Bool → Bool → List ℕ → Result (Option Pattern) PatternError
from_rest negated folders_only anchored cs =
    if is_empty cs then Ok None
    else and_then (segments_from (unanchored anchored cs) (slice_split is_slash cs))
    (λ ss. Ok (Some (record {
      negated = negated;
      folders_only = folders_only;
      segments = closed ss;
    })))

-- one slash at the front anchors and is taken away
unfoldable pub from_front : Bool → Bool → List ℕ → Result (Option Pattern) PatternError
from_front negated folders_only cs =
    from_rest negated folders_only (begins_with 47 cs)
    (if begins_with 47 cs then without_first cs else cs)

-- one slash at the end means folders only and is taken away
unfoldable pub from_end : Bool → List ℕ → Result (Option Pattern) PatternError
from_end negated cs =
    from_front negated (ends_in 47 cs) (if ends_in 47 cs then without_last cs else cs)

-- an empty line, or one that begins with `#`, is none; a `!` at the front negates and is taken away
unfoldable pub from_line : List ℕ → Result (Option Pattern) PatternError
from_line cs =
    if is_empty cs || begins_with 35 cs then Ok None
    else from_end (begins_with 33 cs) (if begins_with 33 cs then without_first cs else cs)

-- the pattern of a line of an ignore file, by its characters
abbrev pub line_pattern : List ℕ → Result (Option Pattern) PatternError
line_pattern cs = from_line (trimmed cs)

-- the pattern of an exclude, in which `#` and `!` are themselves
abbrev pub exclude_pattern : List ℕ → Result (Option Pattern) PatternError
exclude_pattern cs = from_end false (trimmed cs)

-- a pattern fits an entry's names; one for folders only fits no file
abbrev pub fits_entry : Pattern → List (List ℕ) → Bool → Bool
fits_entry pattern names folder =
    (folder || not pattern.folders_only) && fits_names pattern.segments names
