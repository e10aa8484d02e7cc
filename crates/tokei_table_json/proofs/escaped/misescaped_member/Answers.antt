use Rattle.std.proofs.Common.{refl, sym, ap, ◌∙◌, subst}
use Rattle.std.specs.Prelude.{not}
use Rattle.json.specs.Value.{members_view}
use Rattle.tokei_json_tree.specs.TreeData.{members_data}
use Rattle.tokei_table_json.specs.MemberEscapes.{keeps_escapes}
use Rattle.tokei_table_json.specs.MemberLayout.{all_members}
use Rattle.tokei_table_json.proofs.Left.{member_ordered, member_passes, member_fails, members_pass}
use Rattle.tokei_json_tree.specs.Ordered.{AreMembersOrdered}
use Rattle.tokei_table_json.proofs.escaped.misescaped_member.Goals as goal

pub keeps_escapes-requires : goal.keeps_escapes-requires
keeps_escapes-requires c = member_ordered c.deref-entry-items.result.now c.loop-entry.entry-index c.entry-item.result c.loop-entry-test.true c.entry-item.is c.loop-entry.invariant.ordered

pub loop-entry-preserved : goal.loop-entry-preserved
loop-entry-preserved c =
    let test = keeps_escapes c.args.html in
    member_passes (all_members test) test (λ k d ms. refl) c.deref-entry-items.result.now c.loop-entry.entry-index c.loop-entry.invariant
    c.entry-item.result c.loop-entry-test.true c.entry-item.is c.keeps_escapes.result c.keeps_escapes.ensures c.if-not-keeps_escapes.false

pub returns-then-not-keeps_escapes : goal.returns-then-not-keeps_escapes
returns-then-not-keeps_escapes c =
    let test = keeps_escapes c.args.html in
    sym (ap (λ xs. not (all_members test (members_data (members_view xs)))) (sym c.deref-entry-items.ensures.value)
    ∙ ap not (member_fails (all_members test) test (λ k d ms. refl) c.deref-entry-items.result.now c.loop-entry.entry-index c.loop-entry.invariant
    c.entry-item.result c.loop-entry-test.true c.entry-item.is c.keeps_escapes.result c.keeps_escapes.ensures c.if-not-keeps_escapes.true))

pub returns : goal.returns
returns c =
    let test = keeps_escapes c.args.html in
    sym (ap (λ xs. not (all_members test (members_data (members_view xs)))) (sym c.deref-entry-items.ensures.value)
    ∙ ap not (members_pass (all_members test) test (λ k d ms. refl) c.deref-entry-items.result.now c.loop-entry.entry-index c.loop-entry.invariant
    c.loop-entry-test.false refl))

pub loop-entry-init : goal.loop-entry-init
loop-entry-init c = record {
  ordered = subst (λ ys. AreMembersOrdered (members_view ys)) (sym c.deref-entry-items.ensures.value) c.requires;
  value = refl;
}
