use Rattle.std.proofs.Common.{◌≡◌, ◌++◌, drop}
use Rattle.json.specs.Value.{items_view}
use Rattle.tokei_json_tree.specs.TreeData.{items_data}
use Rattle.tokei_table_row.specs.RowOf.{tokens_of}
use Rattle.tokei_table_json.specs.Rows.{texts_of}
use Rattle.tokei_table_json.proofs.rows.texts.Given as goal

abbrev pub invariant-loop-item : goal.invariant-loop-item
invariant-loop-item l =
    texts_of (items_data (items_view l.item-items))
    ≡ tokens_of l.out.items ++ texts_of (items_data (items_view (drop l.item-index l.item-items)))
