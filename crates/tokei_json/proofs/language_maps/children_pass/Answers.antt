use Rattle.std.proofs.Common.{◌&&◌, refl, sym, ap, ◌∙◌, subst, option_map}
use Rattle.std.specs.Prelude.{IfSome}
use Rattle.json.specs.Value.{members_view, value_view}
use Rattle.tokei_json_tree.specs.Ordered.{IsOrdered}
use Rattle.tokei_json_tree.specs.TreeData.{data_of, members_data}
use Rattle.tokei_json_tree.specs.Shapes.{absent_or}
use Rattle.tokei_json.specs.LanguageMaps.{children_pass, lists_pass, passes, reports_pass}
use Rattle.tokei_json_tree.proofs.Left.{failed, from, none_left, object_seen, passed}
use Rattle.tokei_json.proofs.language_maps.children_pass.Goals as goal

pub loop-member-init : goal.loop-member-init
loop-member-init c =
    let seen = object_seen _ _ _ c.in-Object.is c.deref-member-items.ensures.value in
    record { same = refl; ordered = (subst IsOrdered seen (subst (λ o. IfSome o (λ v. IsOrdered (value_view v.now))) c.in-Some.is c.requires)).1 }

pub reports_pass-requires : goal.reports_pass-requires
reports_pass-requires c = (from c.loop-member.invariant c.member-item.result c.loop-member-test.true c.member-item.is).ordered.0

pub loop-member-preserved : goal.loop-member-preserved
loop-member-preserved c =
    let test = passes c.args.table.now c.args.test in
    let x = c.member-item.result in
    let n = from c.loop-member.invariant x c.loop-member-test.true c.member-item.is in
    passed n (reports_pass test (data_of (value_view x.1))) refl (sym c.reports_pass.ensures ∙ c.if-not-reports_pass.false) n.ordered.1

pub returns-then-not-reports_pass : goal.returns-then-not-reports_pass
returns-then-not-reports_pass c =
    let test = passes c.args.table.now c.args.test in
    let x = c.member-item.result in
    let xs = c.deref-member-items.result.now in
    let n = from c.loop-member.invariant x c.loop-member-test.true c.member-item.is in
    let seen = object_seen _ _ xs c.in-Object.is c.deref-member-items.ensures.value in
    let itself = ap (λ j. test (data_of j)) (sym seen) ∙ sym c.passes.ensures ∙ c.if-not-passes.false in
    sym (ap (λ m. absent_or (children_pass test) (option_map (λ v. data_of (value_view v.now)) m)) c.in-Some.is ∙ ap (λ j. children_pass test (data_of j)) seen
    ∙ ap (λ b. b && lists_pass test (members_data (members_view xs))) itself
    ∙ failed n (reports_pass test (data_of (value_view x.1))) refl (sym c.reports_pass.ensures ∙ c.if-not-reports_pass.true))

pub returns-after-loop-member : goal.returns-after-loop-member
returns-after-loop-member c =
    let test = passes c.args.table.now c.args.test in
    let xs = c.deref-member-items.result.now in
    let seen = object_seen _ _ xs c.in-Object.is c.deref-member-items.ensures.value in
    let itself = ap (λ j. test (data_of j)) (sym seen) ∙ sym c.passes.ensures ∙ c.if-not-passes.false in
    sym (ap (λ m. absent_or (children_pass test) (option_map (λ v. data_of (value_view v.now)) m)) c.in-Some.is ∙ ap (λ j. children_pass test (data_of j)) seen
    ∙ ap (λ b. b && lists_pass test (members_data (members_view xs))) itself
    ∙ none_left c.loop-member.invariant c.loop-member-test.false)
