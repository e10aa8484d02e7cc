use Rattle.std.proofs.Common.{◌≡◌, ◌++◌, take}
use Rattle.tokei_walk.specs.Notes.{Grows, lost_notes}
use Rattle.tokei_walk.proofs.listings.note_lost.Given as goal

abbrev pub invariant-loop-name : goal.invariant-loop-name
invariant-loop-name l = record {
  made : l.notes ≡ l.initial.notes ++ lost_notes l.place (take l.name-index l.lost);
  grows : Grows l.initial.notes l.notes;
}
