use Rattle.std.proofs.Common.{◌≡◌, drop}
use Rattle.json.specs.Value.{items_view, members_view}
use Rattle.tokei_json_tree.specs.Unordered.{are_items_in_range, are_members_in_range}
use Rattle.tokei_json_tree.proofs.ranges.+is_in_range.Given as goal

abbrev pub invariant-are_items_in_range-loop-item : goal.invariant-are_items_in_range-loop-item
invariant-are_items_in_range-loop-item l =
    are_items_in_range (items_view l.item-items) ≡ are_items_in_range (items_view (drop l.item-index l.item-items))

abbrev pub invariant-are_members_in_range-loop-member : goal.invariant-are_members_in_range-loop-member
invariant-are_members_in_range-loop-member l =
    are_members_in_range (members_view l.member-items) ≡ are_members_in_range (members_view (drop l.member-index l.member-items))
