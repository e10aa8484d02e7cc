use Rattle.std.proofs.Common.{◌≡◌, ◌+◌, ◌∷◌, ◌++◌, map, sym, ap, ◌∙◌, subst, drop}
use Rattle.std.proofs.lemmas.List.{append-nil}
use Rattle.json.specs.Value.{items_view}
use Rattle.tokei_earlier.specs.ReadReports.{all_reports_in}
use Rattle.tokei_json_tree.specs.TreeData.{items_data}
use Rattle.tokei_stats.specs.Reports.{report_of}
use Rattle.tokei_json_tree.proofs.Left.{from, none_left}
use Rattle.tokei_earlier.proofs.Pushed.{pushed}
use Rattle.tokei_earlier.proofs.reading.all_reports_in.Goals as goal

pub report_in-requires : goal.report_in-requires
report_in-requires c = (from c.loop-item.invariant c.item-item.result c.loop-item-test.true c.item-item.is).ordered.0

pub loop-item-preserved : goal.loop-item-preserved
loop-item-preserved c =
    let before = c.loop-item.reports.items in
    let read = c.in_ok-report_in in
    let n = from c.loop-item.invariant c.item-item.result c.loop-item-test.true c.item-item.is in
    let behind = all_reports_in c.args.table.now (items_data (items_view (drop (c.loop-item.item-index + 1) c.deref-item-items.result.now))) in
    let longer = ap (λ rs. map report_of rs ++ behind) c.in_ok-push.ensures.items ∙ pushed report_of before read.field-0 behind in
    record { same = n.same ∙ sym (longer ∙ ap (λ r. map report_of before ++ r ∷ behind) read.ensures); ordered = n.ordered.1 }

pub returns : goal.returns
returns c =
    let read = map report_of c.loop-item.reports.items in
    sym (subst (λ ys. all_reports_in c.args.table.now (items_data (items_view ys)) ≡ read) c.deref-item-items.ensures.value
    (none_left c.loop-item.invariant c.loop-item-test.false ∙ append-nil read))
