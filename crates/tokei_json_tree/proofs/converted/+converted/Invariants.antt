use Rattle.std.proofs.Common.{◌+◌, ◌≤◌, ◌≡◌, ◌++◌, drop, length, vec_len, vec_capacity}
use Rattle.json.specs.Value.{items_view, members_view}
use Rattle.serde_json.specs.View.{items_view as data_items_view}
use Rattle.serde_json.specs.View.{members_view as data_members_view}
use Rattle.tokei_json_tree.proofs.Conversions.{AreItemsOf, AreMembersOf}
use Rattle.tokei_json_tree.proofs.converted.+converted.Given as goal

abbrev pub invariant-items_converted-loop-item : goal.invariant-items_converted-loop-item
invariant-items_converted-loop-item l = record {
  made : (rest : _) → AreItemsOf (data_items_view (drop l.item-index l.item-items)) (items_view rest)
      → AreItemsOf (data_items_view l.item-items) (items_view (l.made.items ++ rest));
  room : (vec_len l.made ≡ l.item-index) × (length l.item-items ≤ vec_capacity l.made);
}

abbrev pub invariant-members_converted-loop-key : goal.invariant-members_converted-loop-key
invariant-members_converted-loop-key l = record {
  made : (rest : _) → AreMembersOf (data_members_view l.key-iterator) (members_view rest)
      → AreMembersOf (data_members_view l.members.entries) (members_view (l.made.items ++ rest));
  room : vec_len l.made + length l.key-iterator ≤ vec_capacity l.made;
}
