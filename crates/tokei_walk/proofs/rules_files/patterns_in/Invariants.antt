-- The lines so far have their notes.
use Rattle.std.proofs.Common.{◌≡◌, ◌++◌}
use Rattle.tokei_walk.specs.Notes.{Grows, bad_line_notes}
use Rattle.tokei_walk.proofs.rules_files.patterns_in.Given as goal

abbrev pub invariant-loop : goal.invariant-loop
invariant-loop l = record {
  made : l.notes ≡ l.initial.notes ++ bad_line_notes l.place l.counter;
  grows : Grows l.initial.notes l.notes;
}
