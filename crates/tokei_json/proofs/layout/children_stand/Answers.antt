use Rattle.std.proofs.Common.{refl, sym, ap, ◌∙◌, subst, option_map}
use Rattle.json.specs.Value.{value_view}
use Rattle.std.specs.Prelude.{IfSome}
use Rattle.tokei_json_tree.specs.Ordered.{IsOrdered}
use Rattle.tokei_json_tree.specs.TreeData.{data_of}
use Rattle.tokei_json_tree.specs.Shapes.{stands_and}
use Rattle.tokei_json.specs.Layout.{are_children, are_reports}
use Rattle.tokei_json_tree.proofs.Left.{failed, from, none_left, object_seen, passed}
use Rattle.tokei_json.proofs.layout.children_stand.Goals as goal

pub loop-member-init : goal.loop-member-init
loop-member-init c =
    let seen = object_seen _ _ _ c.in-Object.is c.deref-member-items.ensures.value in
    record { same = refl; ordered = (subst IsOrdered seen (subst (λ o. IfSome o (λ v. IsOrdered (value_view v.now))) c.in-Some.is c.requires)).1 }

pub reports_stand-requires : goal.reports_stand-requires
reports_stand-requires c = (from c.loop-member.invariant c.member-item.result c.loop-member-test.true c.member-item.is).ordered.0

pub loop-member-preserved : goal.loop-member-preserved
loop-member-preserved c =
    let x = c.member-item.result in
    let n = from c.loop-member.invariant x c.loop-member-test.true c.member-item.is in
    passed n (are_reports (data_of (value_view x.1))) refl (sym c.reports_stand.ensures ∙ c.if-not-reports_stand.false) n.ordered.1

pub returns-then-not-reports_stand : goal.returns-then-not-reports_stand
returns-then-not-reports_stand c =
    let x = c.member-item.result in
    let n = from c.loop-member.invariant x c.loop-member-test.true c.member-item.is in
    let seen = object_seen _ _ _ c.in-Object.is c.deref-member-items.ensures.value in
    sym (ap (λ m. stands_and are_children (option_map (λ v. data_of (value_view v.now)) m)) c.in-Some.is ∙ ap (λ j. are_children (data_of j)) seen
    ∙ failed n (are_reports (data_of (value_view x.1))) refl (sym c.reports_stand.ensures ∙ c.if-not-reports_stand.true))

pub returns-after-loop-member : goal.returns-after-loop-member
returns-after-loop-member c =
    let seen = object_seen _ _ _ c.in-Object.is c.deref-member-items.ensures.value in
    sym (ap (λ m. stands_and are_children (option_map (λ v. data_of (value_view v.now)) m)) c.in-Some.is ∙ ap (λ j. are_children (data_of j)) seen
    ∙ none_left c.loop-member.invariant c.loop-member-test.false)
