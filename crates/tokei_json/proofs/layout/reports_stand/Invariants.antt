use Rattle.json.specs.Value.{items_view}
use Rattle.tokei_json_tree.specs.Ordered.{AreItemsOrdered}
use Rattle.tokei_json_tree.specs.TreeData.{items_data}
use Rattle.tokei_json_tree.specs.Shapes.{all_items}
use Rattle.tokei_json.specs.Layout.{is_report}
use Rattle.tokei_json_tree.proofs.Left.{AskedLeft}
use Rattle.tokei_json.proofs.layout.reports_stand.Given as goal

abbrev pub invariant-loop-item : goal.invariant-loop-item
invariant-loop-item l =
    AskedLeft (λ xs. all_items is_report (items_data (items_view xs))) (λ xs. AreItemsOrdered (items_view xs)) l.item-items l.item-index
