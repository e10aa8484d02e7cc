use Rattle.std.proofs.Common.{◌∙◌, ap, subst, sym}
use Rattle.std.proofs.lemmas.List.{drop_all}
use Rattle.json.specs.Value.{value_view, members_view}
use Rattle.tokei_json_tree.specs.Ordered.{AreMembersOrdered}
use Rattle.tokei_json_tree.specs.TreeData.{data_of, members_data}
use Rattle.tokei_table_row.specs.RowOf.{row_of}
use Rattle.tokei_table.specs.KeyOrder.{IsInKeyOrder}
use Rattle.tokei_table_json.specs.Rows.{row_in, rows_in}
use Rattle.tokei_table_json.proofs.KeyOrder.{in_key_order}
use Rattle.tokei_table_json.proofs.Left.{members_here, member_ordered, members_ordered}
use Rattle.tokei_table_json.proofs.Made.{none_made, one_made, all_made}
use Rattle.tokei_table_json.proofs.MembersOnce.{in_order}
use Rattle.tokei_table_json.proofs.rows.rows.Goals as goal

pub row-requires : goal.row-requires
row-requires c = member_ordered c.deref-entry-items.result.now c.loop-entry.entry-index c.entry-item.result c.loop-entry-test.true c.entry-item.is c.loop-entry.invariant.ordered

pub loop-entry-preserved : goal.loop-entry-preserved
loop-entry-preserved c =
    let l = c.loop-entry in
    let xs = c.deref-entry-items.result.now in
    let x = c.entry-item.result in
    let y = row_in x.0.now (data_of (value_view x.1)) in
    record {
      ordered = members_ordered xs l.entry-index x c.loop-entry-test.true c.entry-item.is l.invariant.ordered;
      value = one_made row_of l.out.items c.push.new.self.items c.in_ok-row.field-0 y _ _ _ l.invariant.value
          (ap (λ ms. rows_in (members_data ms)) (members_here xs l.entry-index x c.loop-entry-test.true c.entry-item.is))
          c.in_ok-push.ensures.items c.in_ok-row.ensures;
    }

pub returns-clause-value : goal.returns-clause-value
returns-clause-value c =
    let l = c.loop-entry in
    let xs = c.deref-entry-items.result.now in
    all_made row_of l.out.items _ _ l.invariant.value
    (ap (λ ys. rows_in (members_data (members_view ys))) (drop_all l.entry-index xs c.loop-entry-test.false))
    ∙ ap (λ ys. rows_in (members_data (members_view ys))) c.deref-entry-items.ensures.value

pub returns-clause-ordered : goal.returns-clause-ordered
returns-clause-ordered c =
    let ms = members_view c.args.members.now.items in
    subst IsInKeyOrder (sym (returns-clause-value c)) (in_key_order (members_data ms) (in_order ms c.requires.keys))

pub loop-entry-init : goal.loop-entry-init
loop-entry-init c =
    let xs = c.deref-entry-items.result.now in
    record {
      ordered = subst (λ ys. AreMembersOrdered (members_view ys)) (sym c.deref-entry-items.ensures.value) c.requires.ordered;
      value = none_made row_of c.in_ok-out.out.items (rows_in (members_data (members_view xs))) c.in_ok-out.ensures.items;
    }
