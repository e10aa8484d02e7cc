use Rattle.std.proofs.Common.{◌≡◌, refl, sym, ap, ◌∙◌, subst}
use Rattle.std.specs.Prelude.{not}
use Rattle.json.proofs.Trees.{view-Object}
use Rattle.json.specs.Json as json
use Rattle.json.specs.Value.{value_view, members_view}
use Rattle.tokei_json_tree.specs.Ordered.{IsOrdered, AreMembersOrdered}
use Rattle.tokei_json_tree.specs.TreeData.{members_data}
use Rattle.tokei_table_json.specs.Layout.{are_languages, is_language}
use Rattle.tokei_table_json.proofs.Left.{member_ordered, member_passes, member_fails, members_pass}
use Rattle.tokei_table_json.proofs.layout.unfit_entry.Goals as goal

pub is_language-requires : goal.is_language-requires
is_language-requires c = member_ordered c.deref-entry-items.result.now c.loop-entry.entry-index c.entry-item.result c.loop-entry-test.true c.entry-item.is c.loop-entry.invariant.ordered

pub is_html-requires : goal.is_html-requires
is_html-requires c = member_ordered c.deref-entry-items.result.now c.loop-entry.entry-index c.entry-item.result c.loop-entry-test.true c.entry-item.is c.loop-entry.invariant.ordered

pub unfit_member-member-requires : goal.unfit_member-member-requires
unfit_member-member-requires c =
    let seen : value_view c.entry-item.result.1 ≡ json.object (members_view c.in-Object.members.items) = ap value_view c.in-Object.is ∙ view-Object c.in-Object.members in
    (subst IsOrdered seen (member_ordered c.deref-entry-items.result.now c.loop-entry.entry-index c.entry-item.result c.loop-entry-test.true c.entry-item.is c.loop-entry.invariant.ordered)).1

pub loop-entry-preserved : goal.loop-entry-preserved
loop-entry-preserved c =
    member_passes are_languages (λ k d. is_language d) (λ k d ms. refl) c.deref-entry-items.result.now c.loop-entry.entry-index c.loop-entry.invariant
    c.entry-item.result c.loop-entry-test.true c.entry-item.is c.is_language.result c.is_language.ensures c.if-not-is_language.false

pub returns-then-not-is_language : goal.returns-then-not-is_language
returns-then-not-is_language c =
    sym (ap (λ xs. not (are_languages (members_data (members_view xs)))) (sym c.deref-entry-items.ensures.value)
    ∙ ap not (member_fails are_languages (λ k d. is_language d) (λ k d ms. refl) c.deref-entry-items.result.now c.loop-entry.entry-index c.loop-entry.invariant
    c.entry-item.result c.loop-entry-test.true c.entry-item.is c.is_language.result c.is_language.ensures c.if-not-is_language.true))

pub returns : goal.returns
returns c =
    sym (ap (λ xs. not (are_languages (members_data (members_view xs)))) (sym c.deref-entry-items.ensures.value)
    ∙ ap not (members_pass are_languages (λ k d. is_language d) (λ k d ms. refl) c.deref-entry-items.result.now c.loop-entry.entry-index c.loop-entry.invariant
    c.loop-entry-test.false refl))

pub loop-entry-init : goal.loop-entry-init
loop-entry-init c = record {
  ordered = subst (λ ys. AreMembersOrdered (members_view ys)) (sym c.deref-entry-items.ensures.value) c.requires;
  value = refl;
}
