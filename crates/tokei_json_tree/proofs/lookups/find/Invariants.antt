use Rattle.std.proofs.Common.{◌-◌, ◌≤◌, drop, length, take}
use Rattle.json.specs.Value.{members_view}
use Rattle.tokei_json_tree.specs.Ordered.{AreBefore, keys_of}
use Rattle.tokei_json_tree.proofs.Orderings.{IsBeforeAll}
use Rattle.tokei_json_tree.proofs.lookups.find.Given as goal

abbrev pub invariant-loop-low : goal.invariant-loop-low
invariant-loop-low l = record {
  order : l.low ≤ l.high;
  within : l.high ≤ length l.members.items;
  before : AreBefore (keys_of (members_view (take l.low l.members.items))) l.name;
  behind : IsBeforeAll l.name (keys_of (members_view (drop l.high l.members.items)));
}

abbrev pub decreases-loop-low : goal.decreases-loop-low
decreases-loop-low l = l.high - l.low
