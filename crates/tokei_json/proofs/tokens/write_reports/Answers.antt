use Rattle.std.proofs.Common.{◌≡◌, ◌+◌, List, [], ◌∷◌, drop, map, sym, ap, ◌∙◌, subst, arith}
use Rattle.std.proofs.lemmas.List.{drop_more, drop_all}
use Rattle.std.proofs.lemmas.Result.{on_ok_weaker}
use Rattle.serde_json.specs.Data.{item, no_items}
use Rattle.serde_json.specs.View.{items_of}
use Rattle.tokei_json.specs.ReportData.{report_data, reports_data}
use Rattle.tokei_json.proofs.Writing.{lacks_all_items, lacks_fewer_items, array_written, member_of, LacksItems}
use Rattle.tokei_stats.specs.Reports.{report_of}
use Rattle.tokei_stats.specs.declared.report.Report.{Report}
use Rattle.tokei_json.proofs.tokens.write_reports.Goals as goal

pub loop-report-init : goal.loop-report-init
loop-report-init c = lacks_all_items _ _

pub loop-report-preserved : goal.loop-report-preserved
loop-report-preserved c =
    let rows = c.args.table.now in
    let l = c.loop-report in
    let xs = c.args.reports.now in
    let x = c.report-item.result in
    let shown = λ (ys : List Report). items_of (map (report_data rows) (map report_of ys)) in
    let here : drop l.report-index xs ≡ x ∷ drop (l.report-index + 1) xs = drop_more xs l.report-index x (omega arith) ∙ ap (λ y. y ∷ drop (l.report-index + 1) xs) (sym c.report-item.is) in
    let left : LacksItems (shown xs) (item (report_data rows (report_of x)) (shown (drop (l.report-index + 1) xs))) c.begin_array.new.self l.out =
    subst (λ ys. LacksItems (shown xs) (shown ys) c.begin_array.new.self l.out) here l.invariant in
    lacks_fewer_items (shown xs) (report_data rows (report_of x)) (shown (drop (l.report-index + 1) xs)) c.begin_array.new.self l.out c.write_report.new.out left c.in_ok-write_report.ensures

pub returns : goal.returns
returns c =
    let rows = c.args.table.now in
    let l = c.loop-report in
    let xs = c.args.reports.now in
    let shown = λ (ys : List Report). items_of (map (report_data rows) (map report_of ys)) in
    let first = c.key.new.self in
    let none : drop l.report-index xs ≡ [] = drop_all l.report-index xs (omega arith) in
    let left : LacksItems (shown xs) no_items c.begin_array.new.self l.out = subst (λ ys. LacksItems (shown xs) (shown ys) c.begin_array.new.self l.out) none l.invariant in
    on_ok_weaker c.end_array.result (λ e.
    member_of c.args.name.now (reports_data rows (map report_of xs)) c.args.out.now first c.end_array.new.self
    c.in_ok-key.ensures.ok c.in_ok-key.ensures.room.0
    (array_written (shown xs) first c.begin_array.new.self l.out c.end_array.new.self c.in_ok-begin_array.ensures.ok
    c.in_ok-begin_array.ensures.room.0 left e c.end_array.ensures.room.0)) c.end_array.ensures.ok
