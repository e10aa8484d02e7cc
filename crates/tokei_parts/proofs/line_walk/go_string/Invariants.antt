use Rattle.std.proofs.Common.{◌≡◌, ◌-◌, ◌≤◌, Some}
use Rattle.tokei_parts.specs.LineWalk.{chain_in, item_in, reach_of}
use Rattle.tokei_parts.specs.Reached.{GoesOn}
use Rattle.tokei_parts.proofs.line_walk.go_string.Given as goal

abbrev pub invariant-loop-reach : goal.invariant-loop-reach
invariant-loop-reach l = record {
  kept : item_in l.item ≡ Some l.around;
  low : l.initial.reach.at ≤ l.reach.at;
  base : l.reach.base ≤ l.reach.at;
  goes_on : GoesOn l.part (chain_in (item_in l.initial.item)) (reach_of l.initial.reach) (chain_in (Some l.around)) (reach_of l.reach);
}

abbrev pub decreases-loop-reach : goal.decreases-loop-reach
decreases-loop-reach l = l.part.end - l.reach.at
