use Rattle.std.proofs.Common.{drop}
use Rattle.json.specs.Value.{items_view}
use Rattle.tokei_json_tree.specs.Ordered.{AreItemsOrdered}
use Rattle.tokei_table_json.specs.Escaped.{is_escaped_context}
use Rattle.tokei_table_json.proofs.Left.{ItemsLeft}
use Rattle.tokei_table_json.proofs.escaped.all_escaped_contexts.Given as goal

abbrev pub invariant-loop-item : goal.invariant-loop-item
invariant-loop-item l = record {
  ordered : AreItemsOrdered (items_view (drop l.item-index l.item-items));
  value : ItemsLeft is_escaped_context l.item-items l.item-index;
}
