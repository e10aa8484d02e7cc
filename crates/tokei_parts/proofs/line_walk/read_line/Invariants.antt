use Rattle.std.proofs.Common.{◌-◌, ◌≤◌}
use Rattle.tokei_parts.specs.LineWalk.{chain_in, item_in}
use Rattle.tokei_parts.specs.Reached.{IsFront, Reaches}
use Rattle.tokei_parts.proofs.line_walk.read_line.Given as goal

abbrev pub invariant-loop-reach : goal.invariant-loop-reach
invariant-loop-reach l = record {
  reaches : Reaches l.part (chain_in (item_in l.fn.item)) (chain_in (item_in l.item)) l.reach.at (l.reach.at - l.reach.base);
  low : l.reach.base ≤ l.reach.at;
  front : IsFront l.part l.front;
}

abbrev pub decreases-loop-reach : goal.decreases-loop-reach
decreases-loop-reach l = l.part.end - l.reach.at
