use Rattle.std.proofs.Common.{◌≡◌, length, None}
use Rattle.tokei_walk.specs.Levels.{decision}
use Rattle.tokei_walk.proofs.levels.decision.Given as goal

abbrev pub invariant-loop-level : goal.invariant-loop-level
invariant-loop-level l = decision l.source l.left l.names l.is_folder None ≡ decision l.source l.levels l.names l.is_folder None

abbrev pub decreases-loop-level : goal.decreases-loop-level
decreases-loop-level l = length l.left
