use Rattle.std.proofs.Common.{◌≡◌, ◌-◌}
use Rattle.tokei_parts.specs.Reached.{IsChildless, IsFront, Reaches}
use Rattle.tokei_parts.specs.Seen.{chain_of}
use Rattle.tokei_parts.proofs.walk.read_part.Given as goal

abbrev pub invariant-loop-reach : goal.invariant-loop-reach
invariant-loop-reach l = record {
  same : l.search ≡ l.fn.search;
  reaches : Reaches l.part (chain_of l.fn.stack.items) (chain_of l.stack.items) l.reach.at l.reach.steps;
  childless : IsChildless l.part l.reach.at l.reach.child;
  front : IsFront l.part l.front;
}

abbrev pub decreases-loop-reach : goal.decreases-loop-reach
decreases-loop-reach l = l.part.end - l.reach.at
