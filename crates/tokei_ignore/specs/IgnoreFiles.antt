-- The patterns of an ignore file, and what they decide.
use Rattle.std.specs.Prelude.{ℕ, ◌+◌, ◌==◌, ◌&&◌, List, [], ◌∷◌, Bool, true, false, Option, Some, None, Result, Ok, Err, if◌then◌else◌}
use Rattle.std.specs.List.{slice_split, flat_map}
use Rattle.std.specs.Str.{chars, is_utf8}
use Rattle.tokei_ignore.specs.declared.patterns.PatternError.{PatternError}
use Rattle.tokei_ignore.specs.declared.patterns.PatternError.TheVariants.{Bad}
use Rattle.tokei_ignore.specs.declared.patterns.Pattern.{Pattern}
use Rattle.tokei_ignore.specs.declared.ignore_files.Verdict.{Verdict}
use Rattle.tokei_ignore.specs.declared.ignore_files.Verdict.TheVariants.{Ignore, Keep}
use Rattle.tokei_folders.specs.Ends.{ends_in, without_last}
use Rattle.tokei_ignore.specs.Patterns.{line_pattern, fits_entry}

-- the bytes EF BB BF at the front are dropped
abbrev pub without_mark : List ℕ → List ℕ
without_mark [] = []
without_mark (a ∷ []) = a ∷ []
without_mark (a ∷ b ∷ []) = a ∷ b ∷ []
without_mark (a ∷ b ∷ c ∷ rest) =
    if (a == 239) && (b == 187) && (c == 191) then rest else a ∷ b ∷ c ∷ rest

-- one carriage return belongs to the line's end
unfoldable pub without_return : List ℕ → List ℕ
without_return line = if ends_in 13 line then without_last line else line

-- the pattern of a line's bytes; a line that isn't UTF-8 is bad
unfoldable pub outcome_of_line : List ℕ → Result (Option Pattern) PatternError
outcome_of_line line = if is_utf8 line then line_pattern (chars line) else Err Bad

-- a bad line, and one that has no pattern, is passed over
abbrev pub patterns_in : Result (Option Pattern) PatternError → List Pattern
patterns_in (Ok (Some p)) = p ∷ []
patterns_in (Ok None) = []
patterns_in (Err e) = []

-- a line is bad where no pattern can be read from it
abbrev pub is_bad : Result (Option Pattern) PatternError → Bool
is_bad (Ok o) = false
is_bad (Err e) = true

-- a line whose bytes, without a carriage return at their end, are no pattern
unfoldable pub is_bad_line : List ℕ → Bool
is_bad_line line = is_bad (outcome_of_line (without_return line))

-- the pattern of a line as a list of one, or of none where the line has no pattern
unfoldable pub patterns_of_line : List ℕ → List Pattern
patterns_of_line line = patterns_in (outcome_of_line (without_return line))

-- the byte ends a line
abbrev pub is_newline : ℕ → Bool
is_newline byte = byte == 10

-- the patterns of the lines, in order
unfoldable pub patterns_of : List ℕ → List Pattern
patterns_of bytes = flat_map patterns_of_line (slice_split is_newline (without_mark bytes))

-- how many lines are bad
abbrev pub count_bad : List (List ℕ) → ℕ
count_bad [] = 0
count_bad (line ∷ lines) = if is_bad_line line then count_bad lines + 1 else count_bad lines

-- how many lines of an ignore file's bytes are bad
unfoldable pub bad_lines_of : List ℕ → ℕ
bad_lines_of bytes = count_bad (slice_split is_newline (without_mark bytes))

-- the first, or the second where there is no first
abbrev pub or_else : {X : Type 0} → Option X → Option X → Option X
or_else (Some x) o = Some x
or_else None o = o

-- a negated pattern keeps what it fits
abbrev pub verdict_of : Pattern → Verdict
verdict_of pattern = if pattern.negated then Keep else Ignore

-- the last pattern that fits decides; none does where none fits
unfoldable pub last_fitting : List Pattern → List (List ℕ) → Bool → Option Verdict
last_fitting [] names folder = None
last_fitting (p ∷ ps) names folder =
    or_else (last_fitting ps names folder)
    (if fits_entry p names folder then Some (verdict_of p) else None)
