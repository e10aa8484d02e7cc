use Rattle.std.proofs.Common.{refl, sym, ap, ◌∙◌, subst, option_map}
use Rattle.json.specs.Value.{value_view}
use Rattle.std.specs.Prelude.{IfSome}
use Rattle.tokei_json_tree.specs.Ordered.{IsOrdered}
use Rattle.tokei_json_tree.specs.TreeData.{data_of}
use Rattle.tokei_json_tree.specs.Shapes.{stands_and}
use Rattle.tokei_json.specs.Layout.{are_reports, is_report}
use Rattle.tokei_json_tree.proofs.Left.{array_seen, failed, from, none_left, passed}
use Rattle.tokei_json.proofs.layout.reports_stand.Goals as goal

pub loop-item-init : goal.loop-item-init
loop-item-init c =
    let seen = array_seen _ _ _ c.in-Array.is c.deref-item-items.ensures.value in
    record { same = refl; ordered = subst IsOrdered seen (subst (λ o. IfSome o (λ v. IsOrdered (value_view v.now))) c.in-Some.is c.requires) }

pub is_report-requires : goal.is_report-requires
is_report-requires c = (from c.loop-item.invariant c.item-item.result c.loop-item-test.true c.item-item.is).ordered.0

pub loop-item-preserved : goal.loop-item-preserved
loop-item-preserved c =
    let x = c.item-item.result in
    let n = from c.loop-item.invariant x c.loop-item-test.true c.item-item.is in
    passed n (is_report (data_of (value_view x))) refl (sym c.is_report.ensures ∙ c.if-not-is_report.false) n.ordered.1

pub returns-then-not-is_report : goal.returns-then-not-is_report
returns-then-not-is_report c =
    let x = c.item-item.result in
    let n = from c.loop-item.invariant x c.loop-item-test.true c.item-item.is in
    let seen = array_seen _ _ _ c.in-Array.is c.deref-item-items.ensures.value in
    sym (ap (λ m. stands_and are_reports (option_map (λ v. data_of (value_view v.now)) m)) c.in-Some.is ∙ ap (λ j. are_reports (data_of j)) seen
    ∙ failed n (is_report (data_of (value_view x))) refl (sym c.is_report.ensures ∙ c.if-not-is_report.true))

pub returns-after-loop-item : goal.returns-after-loop-item
returns-after-loop-item c =
    let seen = array_seen _ _ _ c.in-Array.is c.deref-item-items.ensures.value in
    sym (ap (λ m. stands_and are_reports (option_map (λ v. data_of (value_view v.now)) m)) c.in-Some.is ∙ ap (λ j. are_reports (data_of j)) seen
    ∙ none_left c.loop-item.invariant c.loop-item-test.false)
