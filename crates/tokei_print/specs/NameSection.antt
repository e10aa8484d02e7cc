-- The name at the head of a row, and the mark of a language of which a file couldn't be read.
use Rattle.std.specs.Prelude.{ℕ, ◌-◌, List, [], ◌∷◌, ◌++◌, Bool, Option, None, Some, codes, length, nat_lt}
use Rattle.std.specs.Prelude.{if◌then◌else◌}
use Rattle.std.specs.Fmt.{take_chars}
use Rattle.tokei_stats.specs.Places.{left_in}
use Rattle.tokei_table.specs.Bytes.{space}

-- the mark of an inaccurate language
abbrev pub mark : Bool → List ℕ
mark inaccurate = if inaccurate then codes "(!)" else []

-- what stands before the name, if anything does
abbrev pub prefix_of : Option (List ℕ) → List ℕ
prefix_of None = []
prefix_of (Some prefix) = prefix

-- how many places a name has; never below none
abbrev pub room : ℕ → Bool → List ℕ → ℕ
room columns inaccurate prefix = columns - 63 - length prefix - length (mark inaccurate)

-- a name of more bytes than places is its first characters and a bar
abbrev pub shown_name : ℕ → List ℕ → List ℕ
shown_name places name =
    if nat_lt places (length name) then take_chars (places - 1) name ++ codes "|"
    else left_in places name

-- a name behind its prefix, cut to the places that are left, with the mark behind it
abbrev pub name_section : ℕ → Bool → List ℕ → List ℕ → List ℕ
name_section columns inaccurate name prefix =
    prefix ++ (space ∷ (shown_name (room columns inaccurate prefix) name ++ mark inaccurate))
