use Rattle.std.proofs.Common.{◌≡◌, ◌+◌, ◌-◌, ◌*◌, ◌<◌, ◌≤◌, ◌^◌, length}
use Rattle.tokei_folders.specs.Answers.{Told}
use Rattle.tokei_walk.specs.MetSteps.{Meets}
use Rattle.tokei_walk.specs.ToMeet.{met_top}
use Rattle.tokei_walk.specs.Notes.{Grows}
use Rattle.tokei_walk.specs.Stacks.{Stays}
use Rattle.tokei_walk.specs.Ranks.{stack_rank}
use Rattle.tokei_walk.proofs.stack.+exploring.Given as goal

abbrev pub decreases-explore : goal.decreases-explore
decreases-explore g l = 3 * (256 - length l.stack.now.holders) + 2

abbrev pub decreases-meet_next : goal.decreases-meet_next
decreases-meet_next g l = 3 * (256 - length l.stack.now.holders) + 1

abbrev pub decreases-visit : goal.decreases-visit
decreases-visit g l = 3 * (256 - length l.stack.now.holders)

abbrev pub invariant-explore-loop-file : goal.invariant-explore-loop-file
invariant-explore-loop-file g l = record {
  notes : Grows l.initial.notes l.notes;
  same : g.F.Folders.tree l.folders ≡ g.F.Folders.tree l.initial.folders;
  honest : g.F.Folders.memory_faults l.initial.folders < 2 ^ 64 - 1 → g.F.Folders.memory_faults l.folders ≡ g.F.Folders.memory_faults l.initial.folders;
  stays : Stays l.initial.stack l.stack;
  falls : stack_rank l.stack ≤ stack_rank l.initial.stack;
  met : Told (g.F.Folders.tree l.initial.folders)
      (λ t. Meets l.initial.notes (met_top l.settings.excludes l.settings.rules t l.initial.stack) l.notes (met_top l.settings.excludes l.settings.rules t l.stack));
}

abbrev pub decreases-explore-loop-file : goal.decreases-explore-loop-file
decreases-explore-loop-file g l = length l.stack.left
