use Rattle.std.proofs.Common.{◌++◌, ◌≡◌, ◌≤◌, drop, length, vec_capacity, vec_len}
use Rattle.json.specs.Value.{items_view, members_view}
use Rattle.tokei_json_tree.specs.Orderings.{AreItemsOrderingOf}
use Rattle.tokei_json_tree.proofs.Orderings.{IsOrderingSoFar}
use Rattle.tokei_json_tree.proofs.ordering.+ordered.Given as goal

abbrev pub invariant-items_ordered-loop-item : goal.invariant-items_ordered-loop-item
invariant-items_ordered-loop-item l = record {
  made : (rest : _) → AreItemsOrderingOf (items_view (drop l.item-index l.item-items)) (items_view rest)
      → AreItemsOrderingOf (items_view l.item-items) (items_view (l.made.items ++ rest));
  room : (vec_len l.made ≡ l.item-index) × (length l.item-items ≤ vec_capacity l.made);
}

abbrev pub invariant-members_ordered-loop-member : goal.invariant-members_ordered-loop-member
invariant-members_ordered-loop-member l =
    IsOrderingSoFar (members_view l.member-items) (members_view (drop l.member-index l.member-items)) (members_view l.made.items)
