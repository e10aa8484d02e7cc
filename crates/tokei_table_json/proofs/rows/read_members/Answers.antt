use Rattle.std.proofs.Common.{◌+◌, drop, sym, ap, ◌∙◌, subst, refl}
use Rattle.std.proofs.lemmas.List.{drop_all}
use Rattle.json.specs.Value.{members_view}
use Rattle.tokei_json_tree.specs.TreeData.{members_data}
use Rattle.tokei_table_row.specs.RowOf.{row_of}
use Rattle.tokei_table_json.specs.Filled.{filled}
use Rattle.tokei_table_json.proofs.Left.{members_here, member_ordered, members_ordered}
use Rattle.tokei_json_tree.specs.Ordered.{AreMembersOrdered}
use Rattle.tokei_table_json.proofs.rows.read_members.Goals as goal

pub read_member-requires : goal.read_member-requires
read_member-requires c = member_ordered c.deref-entry-items.result.now c.loop-entry.entry-index c.entry-item.result c.loop-entry-test.true c.entry-item.is c.loop-entry.invariant.ordered

pub loop-entry-preserved : goal.loop-entry-preserved
loop-entry-preserved c =
    let l = c.loop-entry in
    let xs = c.deref-entry-items.result.now in
    let x = c.entry-item.result in
    let behind = members_data (members_view (drop (l.entry-index + 1) xs)) in
    record {
      ordered = members_ordered xs l.entry-index x c.loop-entry-test.true c.entry-item.is l.invariant.ordered;
      value = ap (filled c.args.html behind) c.in_ok-read_member.ensures
          ∙ sym (ap (λ ms. filled c.args.html (members_data ms) (row_of l.row)) (members_here xs l.entry-index x c.loop-entry-test.true c.entry-item.is))
          ∙ l.invariant.value;
    }

pub returns : goal.returns
returns c =
    let l = c.loop-entry in
    let xs = c.deref-entry-items.result.now in
    sym (ap (λ ys. filled c.args.html (members_data (members_view ys)) (row_of l.row)) (drop_all l.entry-index xs c.loop-entry-test.false))
    ∙ l.invariant.value
    ∙ ap (λ ys. filled c.args.html (members_data (members_view ys)) (row_of c.args.row.now)) c.deref-entry-items.ensures.value

pub loop-entry-init : goal.loop-entry-init
loop-entry-init c = record {
  ordered = subst (λ ys. AreMembersOrdered (members_view ys)) (sym c.deref-entry-items.ensures.value) c.requires;
  value = refl;
}
