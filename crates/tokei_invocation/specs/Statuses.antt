-- The exit statuses of the program.
use Rattle.std.specs.Prelude.{ℕ}
use Rattle.tokei_invocation.specs.declared.ending.Ending.{Ending}
use Rattle.tokei_invocation.specs.declared.ending.Ending.TheVariants.{Refused, NoTable, Table, Input, Unreadable, UnreadableBy, TooLong, Missing, Memory, NoRoom, Overflow, Write, Unwritten}

-- the exit status of a run that doesn't do what was asked
abbrev pub status_of : Ending → ℕ
status_of (Refused text) = 2
status_of (NoTable name) = 1
status_of (Table text) = 1
status_of (Input name) = 1
status_of Unreadable = 1
status_of (UnreadableBy cause) = 1
status_of (TooLong name) = 1
status_of (Missing root) = 1
status_of Memory = 1
status_of (NoRoom place) = 1
status_of Overflow = 1
status_of Write = 1
status_of (Unwritten cause) = 1
