use Rattle.std.proofs.Common.{◌≡◌, ◌<◌, ◌-◌, ◌^◌, ◌++◌}
use Rattle.tokei_languages.specs.Seen.{languages_of}
use Rattle.tokei_folders.specs.Answers.{Told}
use Rattle.tokei_walk.specs.Noted.{NotesCome}
use Rattle.tokei_walk.specs.Notes.{Grows, notes_of}
use Rattle.tokei_walk.specs.Ranks.{rank}
use Rattle.tokei_walk.specs.Walks.{noted_to_come, to_come}
use Rattle.tokei_files.specs.Seen.{counting_of}
use Rattle.tokei_files.specs.Unread.{unread_of}
use Rattle.tokei_statistics.proofs.Running.{SoFar}
use Rattle.tokei_statistics.proofs.counting.count_files.Given as goal

abbrev pub invariant-loop-file : goal.invariant-loop-file
invariant-loop-file g l = record {
  same : g.F.Folders.tree l.folders ≡ g.F.Folders.tree l.initial.folders;
  notes : Grows (notes_of l.initial.walk) (notes_of l.walk);
  honest : g.F.Folders.memory_faults l.initial.folders < 2 ^ 64 - 1 → g.F.Folders.memory_faults l.folders ≡ g.F.Folders.memory_faults l.initial.folders;
  told : Told (g.F.Folders.tree l.initial.folders) (λ t. SoFar (counting_of l.counting) t (to_come t l.initial.walk) (to_come t l.walk) (languages_of l.initial.languages) (languages_of l.languages));
  unread : Told (g.F.Folders.tree l.initial.folders)
      (λ t. l.unread.items ++ unread_of (counting_of l.counting) t (to_come t l.walk)
      ≡ l.initial.unread.items ++ unread_of (counting_of l.counting) t (to_come t l.initial.walk));
  noted : Told (g.F.Folders.tree l.initial.folders) (λ t. NotesCome (notes_of l.initial.walk) (noted_to_come t l.initial.walk) (notes_of l.walk) (noted_to_come t l.walk));
}

abbrev pub decreases-loop-file : goal.decreases-loop-file
decreases-loop-file g l = rank l.walk
