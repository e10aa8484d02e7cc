use Rattle.std.proofs.Common.{◌≡◌, ◌++◌, drop}
use Rattle.tokei_walk.specs.Walks.{excludes_of, texts_of}
use Rattle.tokei_walk.specs.Notes.{notes_of_excludes}
use Rattle.tokei_walk.proofs.excludes.read_excludes.Given as goal

abbrev pub invariant-loop-text : goal.invariant-loop-text
invariant-loop-text l = record {
  patterns : l.excludes ++ excludes_of (texts_of (drop l.text-index l.texts)) ≡ excludes_of (texts_of l.texts);
  notes : l.notes ++ notes_of_excludes (texts_of (drop l.text-index l.texts)) ≡ l.fn.notes ++ notes_of_excludes (texts_of l.texts);
}
