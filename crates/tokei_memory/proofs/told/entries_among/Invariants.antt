use Rattle.std.proofs.Common.{◌≡◌, ◌++◌, drop}
use Rattle.tokei_folders.specs.Answers.{entries_in}
use Rattle.tokei_memory.proofs.told.entries_among.Given as goal

abbrev pub invariant-loop-place : goal.invariant-loop-place
invariant-loop-place l = entries_in l.folder l.places ≡ l.entries ++ entries_in l.folder (drop l.place-index l.places)
