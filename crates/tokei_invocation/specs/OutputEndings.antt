-- How an ending says why an output wasn't whole.
use Rattle.std.specs.Prelude.{Bool, true, false, ⊤}
use Rattle.tokei_invocation.specs.declared.ending.Ending.{Ending}
use Rattle.tokei_invocation.specs.declared.ending.Ending.TheVariants.{Unreadable, UnreadableBy, Memory, NoRoom, Overflow, Write, Unwritten}
use Rattle.tokei_io.specs.declared.error.OutputError.{OutputError}
use Rattle.tokei_io.specs.declared.error.OutputError.TheVariants.{Memory as OutOfMemory, Overflow as Overflowing, Write as Unwritable}

-- Memory ran out; the place for whose content it didn't suffice may be named.
abbrev pub is_out_of_memory : Ending → Bool
is_out_of_memory Memory = true
is_out_of_memory (NoRoom place) = true
is_out_of_memory ending = false

-- A sum passes the greatest `usize`.
abbrev pub is_overflow : Ending → Bool
is_overflow Overflow = true
is_overflow ending = false

-- A writer had a fault; its cause may be told.
abbrev pub is_unwritten : Ending → Bool
is_unwritten Write = true
is_unwritten (Unwritten cause) = true
is_unwritten ending = false

-- A source had a fault; its cause may be told.
abbrev pub is_unreadable : Ending → Bool
is_unreadable Unreadable = true
is_unreadable (UnreadableBy cause) = true
is_unreadable ending = false

-- The ending says of an output's error what it is.
abbrev pub is_ending_of : OutputError → Ending → Bool
is_ending_of OutOfMemory ending = is_out_of_memory ending
is_ending_of Overflowing ending = is_overflow ending
is_ending_of Unwritable ending = is_unwritten ending

-- The ending says why an output wasn't whole: that a sum passes the greatest `usize`, or that its
-- writer had a fault, where these are so. Memory may run out.
abbrev pub IsEndingOfOutput : Type 0 → Type 0 → Ending → Type 0
IsEndingOfOutput Overflows Fault Overflow = Overflows
IsEndingOfOutput Overflows Fault Write = Fault
IsEndingOfOutput Overflows Fault (Unwritten cause) = Fault
IsEndingOfOutput Overflows Fault Memory = ⊤
IsEndingOfOutput Overflows Fault (NoRoom place) = ⊤
IsEndingOfOutput Overflows Fault ending = ⊥
