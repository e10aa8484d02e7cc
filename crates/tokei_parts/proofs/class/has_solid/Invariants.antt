use Rattle.std.proofs.Common.{◌-◌, ◌≤◌}
use Rattle.tokei_parts.proofs.class.has_solid.Given as goal

abbrev pub invariant-loop-at : goal.invariant-loop-at
invariant-loop-at l = l.at ≤ l.end

abbrev pub decreases-loop-at : goal.decreases-loop-at
decreases-loop-at l = l.at - l.least
