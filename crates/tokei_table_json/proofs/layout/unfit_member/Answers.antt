use Rattle.std.proofs.Common.{refl, sym, ap, ◌∙◌, subst}
use Rattle.std.specs.Prelude.{not}
use Rattle.json.specs.Value.{members_view}
use Rattle.tokei_json_tree.specs.TreeData.{members_data}
use Rattle.tokei_table_json.specs.MemberLayout.{all_members, fits}
use Rattle.tokei_table_json.proofs.Left.{member_ordered, member_passes, member_fails, members_pass}
use Rattle.tokei_json_tree.specs.Ordered.{AreMembersOrdered}
use Rattle.tokei_table_json.proofs.layout.unfit_member.Goals as goal

pub fits-requires : goal.fits-requires
fits-requires c = member_ordered c.deref-entry-items.result.now c.loop-entry.entry-index c.entry-item.result c.loop-entry-test.true c.entry-item.is c.loop-entry.invariant.ordered

pub loop-entry-preserved : goal.loop-entry-preserved
loop-entry-preserved c =
    let test = fits c.args.html in
    member_passes (all_members test) test (λ k d ms. refl) c.deref-entry-items.result.now c.loop-entry.entry-index c.loop-entry.invariant
    c.entry-item.result c.loop-entry-test.true c.entry-item.is c.fits.result c.fits.ensures c.if-not-fits.false

pub returns-then-not-fits : goal.returns-then-not-fits
returns-then-not-fits c =
    let test = fits c.args.html in
    sym (ap (λ xs. not (all_members test (members_data (members_view xs)))) (sym c.deref-entry-items.ensures.value)
    ∙ ap not (member_fails (all_members test) test (λ k d ms. refl) c.deref-entry-items.result.now c.loop-entry.entry-index c.loop-entry.invariant
    c.entry-item.result c.loop-entry-test.true c.entry-item.is c.fits.result c.fits.ensures c.if-not-fits.true))

pub returns : goal.returns
returns c =
    let test = fits c.args.html in
    sym (ap (λ xs. not (all_members test (members_data (members_view xs)))) (sym c.deref-entry-items.ensures.value)
    ∙ ap not (members_pass (all_members test) test (λ k d ms. refl) c.deref-entry-items.result.now c.loop-entry.entry-index c.loop-entry.invariant
    c.loop-entry-test.false refl))

pub loop-entry-init : goal.loop-entry-init
loop-entry-init c = record {
  ordered = subst (λ ys. AreMembersOrdered (members_view ys)) (sym c.deref-entry-items.ensures.value) c.requires;
  value = refl;
}
