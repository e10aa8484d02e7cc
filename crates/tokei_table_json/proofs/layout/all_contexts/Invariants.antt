use Rattle.std.proofs.Common.{drop}
use Rattle.json.specs.Value.{items_view}
use Rattle.tokei_json_tree.specs.Ordered.{AreItemsOrdered}
use Rattle.tokei_table_json.specs.Layout.{is_context}
use Rattle.tokei_table_json.proofs.Left.{ItemsLeft}
use Rattle.tokei_table_json.proofs.layout.all_contexts.Given as goal

abbrev pub invariant-loop-item : goal.invariant-loop-item
invariant-loop-item l = record {
  ordered : AreItemsOrdered (items_view (drop l.item-index l.item-items));
  value : ItemsLeft (is_context l.html) l.item-items l.item-index;
}
