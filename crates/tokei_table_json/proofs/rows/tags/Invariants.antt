use Rattle.std.proofs.Common.{◌≡◌, ◌++◌, drop}
use Rattle.json.specs.Value.{items_view}
use Rattle.tokei_json_tree.specs.Ordered.{AreItemsOrdered}
use Rattle.tokei_json_tree.specs.TreeData.{items_data}
use Rattle.tokei_table_row.specs.RowOf.{tokens_of}
use Rattle.tokei_table_json.specs.Rows.{tags_in}
use Rattle.tokei_table_json.proofs.rows.tags.Given as goal

abbrev pub invariant-loop-item : goal.invariant-loop-item
invariant-loop-item l = record {
  ordered : AreItemsOrdered (items_view (drop l.item-index l.item-items));
  value : tags_in (items_data (items_view l.item-items))
      ≡ tokens_of l.out.items ++ tags_in (items_data (items_view (drop l.item-index l.item-items)));
}
