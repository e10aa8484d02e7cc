-- How a segment is read, character by character.
use Rattle.std.specs.Prelude.{ℕ, ◌==◌, ◌&&◌, ◌||◌, ◌++◌, List, [], ◌∷◌, Bool, true, false, not, nat_lt, Result, Ok, Err, if◌then◌else◌}
use Rattle.tokei_ignore.specs.declared.pieces.Piece.{Piece}
use Rattle.tokei_ignore.specs.declared.pieces.Piece.TheVariants.{AnyRun, AnyOne, Exactly, Class}
use Rattle.tokei_ignore.specs.declared.reading.Place.{Place}
use Rattle.tokei_ignore.specs.declared.reading.Place.TheVariants.{Outside, Opened, First, Inside, Behind, Dash}
use Rattle.tokei_ignore.specs.declared.reading.Reading.{Reading}
use Rattle.tokei_ignore.specs.declared.patterns.PatternError.{PatternError}
use Rattle.tokei_ignore.specs.declared.patterns.PatternError.TheVariants.{Bad}
use Rattle.tokei_folders.specs.Ends.{begins_with}

-- one more piece is read, and no class
abbrev pub after_piece : Reading → Piece → Reading
after_piece reading piece = record reading
    { pieces = reading.pieces ++ piece ∷ []; place = Outside }

-- a class of the members so far is read
abbrev pub after_class : Reading → Bool → Reading
after_class reading turned =
    record reading {
      pieces = reading.pieces ++ Class turned reading.ranges ∷ [];
      ranges =
          [];
      place = Outside;
    }

-- one more range of characters is read
abbrev pub with_range : Reading → ℕ → ℕ → Reading
with_range reading low high = record reading
    { ranges = reading.ranges ++ record { low = low; high = high } ∷ [] }

-- the characters that a `[` begins a named class with
abbrev pub names_class : Bool → ℕ → Bool → Bool
names_class quoted character colon = not quoted && (character == 91) && colon

-- a character outside a class; one behind a backslash is itself
abbrev pub outside : Reading → Bool → ℕ → Reading
outside reading quoted character =
    if quoted then after_piece reading (Exactly character)
    else (if character == 42 then after_piece reading AnyRun
    else (if character == 63 then after_piece reading AnyOne
    else (if character == 91 then record reading { place = Opened }
    else after_piece reading (Exactly character))))

-- a member of a class is read, but for `[:`
abbrev pub member : Reading → Bool → Bool → ℕ → Bool → Result Reading PatternError
member reading turned quoted character colon =
    if names_class quoted character colon then Err Bad else Ok
    (record reading { place = Behind turned character })

-- the end of a class or its next member
abbrev pub inside : Reading → Bool → Bool → ℕ → Bool → Result Reading PatternError
inside reading turned quoted character colon =
    if not quoted && (character == 93) then Ok (after_class reading turned) else member reading
    turned quoted character colon

-- a mark that turns a class round, or its first member
abbrev pub opened : Reading → Bool → ℕ → Bool → Result Reading PatternError
opened reading quoted character colon =
    if not quoted && ((character == 33) || (character == 94)) then Ok
    (record reading { place = First true })
    else member reading false quoted character colon

-- a `-` behind a member, or what follows a member that stands for itself
abbrev pub behind : Reading → Bool → ℕ → Bool → ℕ → Bool → Result Reading PatternError
behind reading turned low quoted character colon =
    if not quoted && (character == 45) then Ok (record reading { place = Dash turned low })
    else inside (with_range reading low low) turned quoted character colon

-- the range's high end, not below its low one; before the class's end the `-` is a member
abbrev pub dash : Reading → Bool → ℕ → Bool → ℕ → Bool → Result Reading PatternError
dash reading turned low quoted character colon =
    if not quoted && (character == 93)
    then Ok (after_class (with_range (with_range reading low low) 45 45) turned)
    else (if names_class quoted character colon || nat_lt character low then Err Bad
    else Ok (record (with_range reading low character) { place = Inside turned }))

-- a character, at the place where it stands
abbrev pub at_place : Reading → Place → Bool → ℕ → Bool → Result Reading PatternError
at_place reading Outside quoted character colon = Ok (outside reading quoted character)
at_place reading Opened quoted character colon = opened reading quoted character colon
at_place reading (First turned) quoted character colon =
    member reading turned quoted character colon
at_place reading (Inside turned) quoted character colon =
    inside reading turned quoted character colon
at_place reading (Behind turned low) quoted character colon =
    behind reading turned low quoted character colon
at_place reading (Dash turned low) quoted character colon =
    dash reading turned low quoted character colon

-- one character more, `colon` saying whether a colon follows; a backslash quotes the next one
unfoldable pub taken : Reading → ℕ → Bool → Result Reading PatternError
taken reading character colon =
    if not reading.quoted && (character == 92) then Ok (record reading { quoted = true })
    else at_place (record reading { quoted = false }) reading.place reading.quoted character colon

-- the next step on what was read, or the error that came first
abbrev pub and_then : {A B : Type 0} → Result A PatternError → (A → Result B PatternError)
    → Result B PatternError
and_then (Ok a) f = f a
and_then (Err e) f = Err e

-- the characters, one after another
abbrev pub read : Reading → List ℕ → Result Reading PatternError
read reading [] = Ok reading
read reading (c ∷ cs) = and_then (taken reading c (begins_with 58 cs)) (λ s. read s cs)

-- no class of characters is open
abbrev pub is_outside : Place → Bool
is_outside Outside = true
is_outside Opened = false
is_outside (First turned) = false
is_outside (Inside turned) = false
is_outside (Behind turned low) = false
is_outside (Dash turned low) = false

-- a segment ends outside a class and behind no lone backslash
unfoldable pub finished : Reading → Result (List Piece) PatternError
finished reading = if is_outside reading.place && not reading.quoted then Ok reading.pieces else
    Err Bad

-- nothing is read
abbrev pub start : Reading
start = record { pieces = []; ranges = []; place = Outside; quoted = false }

-- the pieces of a segment
unfoldable pub pieces_of : List ℕ → Result (List Piece) PatternError
pieces_of cs = and_then (read start cs) finished
