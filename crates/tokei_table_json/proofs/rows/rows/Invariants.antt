use Rattle.std.proofs.Common.{◌≡◌, ◌++◌, map, drop}
use Rattle.json.specs.Value.{members_view}
use Rattle.tokei_json_tree.specs.Ordered.{AreMembersOrdered}
use Rattle.tokei_json_tree.specs.TreeData.{members_data}
use Rattle.tokei_table_row.specs.RowOf.{row_of}
use Rattle.tokei_table_json.specs.Rows.{rows_in}
use Rattle.tokei_table_json.proofs.rows.rows.Given as goal

abbrev pub invariant-loop-entry : goal.invariant-loop-entry
invariant-loop-entry l = record {
  ordered : AreMembersOrdered (members_view (drop l.entry-index l.entry-items));
  value : rows_in (members_data (members_view l.entry-items))
      ≡ map row_of l.out.items ++ rows_in (members_data (members_view (drop l.entry-index l.entry-items)));
}
