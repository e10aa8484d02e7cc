use Rattle.json.specs.Value.{items_view}
use Rattle.tokei_json_tree.specs.Ordered.{AreItemsOrdered}
use Rattle.tokei_json_tree.specs.TreeData.{items_data}
use Rattle.tokei_json_tree.specs.Shapes.{all_items}
use Rattle.tokei_json.specs.LanguageMaps.{passes, report_passes}
use Rattle.tokei_json_tree.proofs.Left.{AskedLeft}
use Rattle.tokei_json.proofs.language_maps.reports_pass.Given as goal

abbrev pub invariant-loop-item : goal.invariant-loop-item
invariant-loop-item l =
    AskedLeft (λ xs. all_items (report_passes (passes l.table l.test)) (items_data (items_view xs))) (λ xs. AreItemsOrdered (items_view xs)) l.item-items l.item-index
