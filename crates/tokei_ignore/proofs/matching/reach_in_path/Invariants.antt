use Rattle.std.proofs.Common.{◌≡◌, length}
use Rattle.tokei_ignore.specs.Reach.{path_reach}
use Rattle.tokei_ignore.proofs.matching.reach_in_path.Given as goal

abbrev pub invariant-loop-segment : goal.invariant-loop-segment
invariant-loop-segment l = path_reach l.segments l.names ≡ path_reach l.left l.rest

abbrev pub decreases-loop-segment : goal.decreases-loop-segment
decreases-loop-segment l = length l.left
