use Rattle.std.proofs.Common.{◌≡◌, ◌++◌, ◌<◌, ◌-◌, ◌^◌}
use Rattle.tokei_folders.specs.Answers.{Told}
use Rattle.tokei_walk.specs.Noted.{NotesCome}
use Rattle.tokei_walk.specs.Notes.{Grows, notes_of}
use Rattle.tokei_walk.specs.Ranks.{rank}
use Rattle.tokei_walk.specs.Walks.{noted_to_come, to_come}
use Rattle.tokei_walk.proofs.collect.files_to_come.Given as goal

abbrev pub invariant-loop-files : goal.invariant-loop-files
invariant-loop-files g l = record {
  notes : Grows (notes_of l.initial.walk) (notes_of l.walk);
  same : g.F.Folders.tree l.folders ≡ g.F.Folders.tree l.initial.folders;
  honest : g.F.Folders.memory_faults l.initial.folders < 2 ^ 64 - 1 → g.F.Folders.memory_faults l.folders ≡ g.F.Folders.memory_faults l.initial.folders;
  told : Told (g.F.Folders.tree l.initial.folders) (λ t. l.files ++ to_come t l.walk ≡ to_come t l.initial.walk);
  noted : Told (g.F.Folders.tree l.initial.folders) (λ t. NotesCome (notes_of l.initial.walk) (noted_to_come t l.initial.walk) (notes_of l.walk) (noted_to_come t l.walk));
}

abbrev pub decreases-loop-files : goal.decreases-loop-files
decreases-loop-files g l = rank l.walk
