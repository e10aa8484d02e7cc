use Rattle.std.proofs.Common.{◌≡◌, ◌++◌, drop}
use Rattle.json.specs.Value.{items_view}
use Rattle.tokei_json_tree.specs.TreeData.{items_data}
use Rattle.tokei_table_row.specs.RowOf.{pairs_of}
use Rattle.tokei_table_json.specs.Rows.{pairs_in}
use Rattle.tokei_table_json.proofs.rows.pairs.Given as goal

abbrev pub invariant-loop-item : goal.invariant-loop-item
invariant-loop-item l =
    pairs_in (items_data (items_view l.item-items))
    ≡ pairs_of l.out.items ++ pairs_in (items_data (items_view (drop l.item-index l.item-items)))
