use Rattle.std.proofs.Common.{◌++◌, map}
use Rattle.json.specs.Value.{items_view}
use Rattle.tokei_earlier.specs.ReadReports.{all_reports_in}
use Rattle.tokei_json_tree.specs.Ordered.{AreItemsOrdered}
use Rattle.tokei_json_tree.specs.TreeData.{items_data}
use Rattle.tokei_stats.specs.Reports.{report_of}
use Rattle.tokei_json_tree.proofs.Left.{Left}
use Rattle.tokei_earlier.proofs.reading.all_reports_in.Given as goal

abbrev pub invariant-loop-item : goal.invariant-loop-item
invariant-loop-item l =
    Left (all_reports_in l.table (items_data (items_view l.item-items)))
    (λ xs. map report_of l.reports.items ++ all_reports_in l.table (items_data (items_view xs)))
    (λ xs. AreItemsOrdered (items_view xs)) l.item-items l.item-index
