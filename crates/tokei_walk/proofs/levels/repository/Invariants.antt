use Rattle.std.proofs.Common.{◌≡◌, length}
use Rattle.tokei_walk.specs.Levels.{in_repository, repository}
use Rattle.tokei_walk.proofs.levels.repository.Given as goal

abbrev pub invariant-loop-level : goal.invariant-loop-level
invariant-loop-level l = in_repository l.left l.left_names (l.found_levels, l.found_names) ≡ repository l.levels l.names

abbrev pub decreases-loop-level : goal.decreases-loop-level
decreases-loop-level l = length l.left
