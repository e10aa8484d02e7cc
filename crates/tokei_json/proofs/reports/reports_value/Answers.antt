use Rattle.std.proofs.Common.{◌≡◌, ◌+◌, List, [], ◌∷◌, ◌++◌, drop, map, append_assoc, append-nil, sym, ap, ◌∙◌, arith}
use Rattle.std.proofs.lemmas.List.{drop_more, drop_all, map-append}
use Rattle.serde_json.specs.Data.{array}
use Rattle.serde_json.specs.View.{view, items_of}
use Rattle.serde_json.proofs.Views.{view-Array}
use Rattle.tokei_json.specs.ReportData.{report_data}
use Rattle.tokei_stats.specs.Reports.{report_of}
use Rattle.tokei_stats.specs.declared.report.Report.{Report}
use Rattle.tokei_json.proofs.reports.reports_value.Goals as goal

pub loop-report-preserved : goal.loop-report-preserved
loop-report-preserved c =
    let rows = c.args.table.now in
    let l = c.loop-report in
    let xs = c.deref-report-items.result.now in
    let x = c.report-item.result in
    let v = c.in_ok-value.value in
    let done = map view l.items.items in
    let left = map (report_data rows) (map report_of (drop (l.report-index + 1) xs)) in
    let here : drop l.report-index xs ≡ x ∷ drop (l.report-index + 1) xs = drop_more xs l.report-index x (omega arith) ∙ ap (λ y. y ∷ drop (l.report-index + 1) xs) (sym c.report-item.is) in
    let pushed : map view c.push.new.self.items ++ left ≡ done ++ report_data rows (report_of x) ∷ left =
    ap (λ vs. map view vs ++ left) c.in_ok-push.ensures.items ∙ ap (λ ds. ds ++ left) (map-append view l.items.items (v ∷ []))
    ∙ append_assoc done (view v ∷ []) left ∙ ap (λ d. done ++ d ∷ left) c.in_ok-value.ensures in
    l.invariant ∙ ap (λ ys. done ++ map (report_data rows) (map report_of ys)) here ∙ sym pushed

pub returns : goal.returns
returns c =
    let l = c.loop-report in
    let xs = c.deref-report-items.result.now in
    let shown = λ (rs : List Report). map (report_data c.args.table.now) (map report_of rs) in
    let none : drop l.report-index xs ≡ [] = drop_all l.report-index xs (omega arith) in
    let all = l.invariant ∙ ap (λ rs. map view l.items.items ++ shown rs) none ∙ append-nil (map view l.items.items) in
    view-Array l.items ∙ ap (λ ds. array (items_of ds)) (sym all ∙ ap shown c.deref-report-items.ensures.value)

pub loop-report-init : goal.loop-report-init
loop-report-init c =
    let xs = c.deref-report-items.result.now in
    sym (ap (λ vs. map view vs ++ map (report_data c.args.table.now) (map report_of xs)) c.in_ok-items.ensures.items)
