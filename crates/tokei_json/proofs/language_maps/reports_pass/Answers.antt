use Rattle.std.proofs.Common.{refl, sym, ap, ◌∙◌, subst, option_map}
use Rattle.std.specs.Prelude.{IfSome}
use Rattle.json.specs.Value.{value_view}
use Rattle.tokei_json_tree.specs.Ordered.{IsOrdered}
use Rattle.tokei_json_tree.specs.TreeData.{data_of}
use Rattle.tokei_json_tree.specs.Shapes.{absent_or}
use Rattle.tokei_json.specs.LanguageMaps.{passes, report_passes, reports_pass}
use Rattle.tokei_json_tree.proofs.Left.{array_seen, failed, from, none_left, passed}
use Rattle.tokei_json.proofs.language_maps.reports_pass.Goals as goal

pub loop-item-init : goal.loop-item-init
loop-item-init c =
    let seen = array_seen _ _ _ c.in-Array.is c.deref-item-items.ensures.value in
    record { same = refl; ordered = subst IsOrdered seen (subst (λ o. IfSome o (λ v. IsOrdered (value_view v.now))) c.in-Some.is c.requires) }

pub report_passes-requires : goal.report_passes-requires
report_passes-requires c = (from c.loop-item.invariant c.item-item.result c.loop-item-test.true c.item-item.is).ordered.0

pub loop-item-preserved : goal.loop-item-preserved
loop-item-preserved c =
    let test = passes c.args.table.now c.args.test in
    let x = c.item-item.result in
    let n = from c.loop-item.invariant x c.loop-item-test.true c.item-item.is in
    passed n (report_passes test (data_of (value_view x))) refl (sym c.report_passes.ensures ∙ c.if-not-report_passes.false) n.ordered.1

pub returns-then-not-report_passes : goal.returns-then-not-report_passes
returns-then-not-report_passes c =
    let test = passes c.args.table.now c.args.test in
    let x = c.item-item.result in
    let n = from c.loop-item.invariant x c.loop-item-test.true c.item-item.is in
    let seen = array_seen _ _ _ c.in-Array.is c.deref-item-items.ensures.value in
    sym (ap (λ m. absent_or (reports_pass test) (option_map (λ v. data_of (value_view v.now)) m)) c.in-Some.is ∙ ap (λ j. reports_pass test (data_of j)) seen
    ∙ failed n (report_passes test (data_of (value_view x))) refl (sym c.report_passes.ensures ∙ c.if-not-report_passes.true))

pub returns-after-loop-item : goal.returns-after-loop-item
returns-after-loop-item c =
    let test = passes c.args.table.now c.args.test in
    let seen = array_seen _ _ _ c.in-Array.is c.deref-item-items.ensures.value in
    sym (ap (λ m. absent_or (reports_pass test) (option_map (λ v. data_of (value_view v.now)) m)) c.in-Some.is ∙ ap (λ j. reports_pass test (data_of j)) seen
    ∙ none_left c.loop-item.invariant c.loop-item-test.false)
