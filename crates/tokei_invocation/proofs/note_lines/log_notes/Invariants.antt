-- The lines of the notes so far are added.
use Rattle.std.proofs.Common.{◌≡◌, ◌++◌, take}
use Rattle.tokei_invocation.specs.NoteLines.{lines_of}
use Rattle.tokei_invocation.proofs.note_lines.log_notes.Given as goal

abbrev pub invariant-loop-note : goal.invariant-loop-note
invariant-loop-note l = l.lines ≡ l.initial.lines ++ lines_of l.filter (take l.note-index l.notes)
