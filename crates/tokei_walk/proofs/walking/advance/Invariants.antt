use Rattle.std.proofs.Common.{◌≡◌, ◌+◌, ◌<◌, ◌≤◌, ◌-◌, ◌^◌, length}
use Rattle.tokei_folders.specs.Answers.{Told}
use Rattle.tokei_walk.specs.MetSteps.{Meets}
use Rattle.tokei_walk.specs.ToMeet.{met_all}
use Rattle.tokei_walk.specs.Notes.{Grows}
use Rattle.tokei_walk.specs.Ranks.{all_rank}
use Rattle.tokei_walk.proofs.walking.advance.Given as goal

abbrev pub invariant-loop-file : goal.invariant-loop-file
invariant-loop-file g l = record {
  notes : Grows l.initial.notes l.notes;
  falls : all_rank l.stack l.roots ≤ all_rank l.initial.stack l.initial.roots;
  same : g.F.Folders.tree l.folders ≡ g.F.Folders.tree l.initial.folders;
  honest : g.F.Folders.memory_faults l.initial.folders < 2 ^ 64 - 1 → g.F.Folders.memory_faults l.folders ≡ g.F.Folders.memory_faults l.initial.folders;
  met : Told (g.F.Folders.tree l.initial.folders)
      (λ t. Meets l.initial.notes (met_all l.settings.excludes l.settings.rules t l.initial.stack l.initial.roots) l.notes
      (met_all l.settings.excludes l.settings.rules t l.stack l.roots));
}

abbrev pub decreases-loop-file : goal.decreases-loop-file
decreases-loop-file g l = length l.roots + length l.stack.holders
