-- The notes so far are shown.
use Rattle.std.proofs.Common.{◌≡◌, map, take}
use Rattle.tokei_folders.specs.Answers.{Told}
use Rattle.tokei_invocation.specs.Shown.{AreShown, shown_note}
use Rattle.tokei_invocation.proofs.shown.shown_notes.Given as goal

abbrev pub invariant-loop-note : goal.invariant-loop-note
invariant-loop-note g l =
    AreShown (take l.note-index l.notes) l.all.items
    × Told (g.F.Folders.tree l.folders) (λ t. l.all.items ≡ map shown_note (take l.note-index l.notes))
