use Rattle.std.proofs.Common.{drop}
use Rattle.json.specs.Value.{items_view}
use Rattle.tokei_json_tree.specs.Orderings.{AreItemsOrderingOf}
use Rattle.tokei_json_tree.proofs.Plain.{ArePlainUpTo}
use Rattle.tokei_json_tree.proofs.ordering.+is_plain.Given as goal

abbrev pub invariant-are_items_plain-loop-item : goal.invariant-are_items_plain-loop-item
invariant-are_items_plain-loop-item l =
    AreItemsOrderingOf (items_view (drop l.item-index l.item-items)) (items_view (drop l.item-index l.item-items))
    → AreItemsOrderingOf (items_view l.item-items) (items_view l.item-items)

abbrev pub invariant-are_members_plain-loop-member : goal.invariant-are_members_plain-loop-member
invariant-are_members_plain-loop-member l = ArePlainUpTo _ l.member-items l.member-index l.last
