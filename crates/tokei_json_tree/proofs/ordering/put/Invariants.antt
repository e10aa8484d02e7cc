use Rattle.std.proofs.Common.{◌-◌, ◌≤◌, drop, length}
use Rattle.json.specs.Value.{members_view}
use Rattle.tokei_json_tree.specs.Ordered.{keys_of}
use Rattle.tokei_json_tree.proofs.Orderings.{IsBeforeAll}
use Rattle.tokei_json_tree.proofs.ordering.put.Given as goal

abbrev pub invariant-loop-place : goal.invariant-loop-place
invariant-loop-place l = record {
  within : l.place ≤ length l.members.items;
  before : IsBeforeAll l.key (keys_of (members_view (drop l.place l.members.items)));
}

abbrev pub decreases-loop-place : goal.decreases-loop-place
decreases-loop-place l = l.place - l.first
