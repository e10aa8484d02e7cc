use Rattle.std.proofs.Common.{◌≡◌, ◌++◌, ◌<◌, ◌-◌, ◌^◌, length}
use Rattle.tokei_folders.specs.Answers.{Told}
use Rattle.tokei_walk.specs.Noted.{noted_over, said_in}
use Rattle.tokei_walk.specs.Notes.{Grows}
use Rattle.tokei_walk.specs.Walks.{names_over, levels_over}
use Rattle.tokei_walk.proofs.parents.read_over.Given as goal

abbrev pub invariant-loop-above : goal.invariant-loop-above
invariant-loop-above g l = record {
  notes : Grows l.initial.notes l.notes;
  same : g.F.Folders.tree l.folders ≡ g.F.Folders.tree l.initial.folders;
  honest : g.F.Folders.memory_faults l.initial.folders < 2 ^ 64 - 1 → g.F.Folders.memory_faults l.folders ≡ g.F.Folders.memory_faults l.initial.folders;
  shown : l.context.shown ≡ l.initial.context.shown;
  names : l.context.names ++ names_over l.found ≡ l.initial.context.names ++ names_over l.initial.found;
  levels : Told (g.F.Folders.tree l.initial.folders) (λ t. l.context.levels ++ levels_over t l.settings.rules l.found ≡ l.initial.context.levels ++ levels_over t l.settings.rules l.initial.found);
  noted : Told (g.F.Folders.tree l.initial.folders) (λ t. said_in l.notes ++ noted_over t l.settings.rules l.found ≡ said_in l.initial.notes ++ noted_over t l.settings.rules l.initial.found);
}

abbrev pub decreases-loop-above : goal.decreases-loop-above
decreases-loop-above g l = length l.found
