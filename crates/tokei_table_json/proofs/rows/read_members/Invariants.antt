use Rattle.std.proofs.Common.{◌≡◌, drop}
use Rattle.json.specs.Value.{members_view}
use Rattle.tokei_json_tree.specs.Ordered.{AreMembersOrdered}
use Rattle.tokei_json_tree.specs.TreeData.{members_data}
use Rattle.tokei_table_row.specs.RowOf.{row_of}
use Rattle.tokei_table_json.specs.Filled.{filled}
use Rattle.tokei_table_json.proofs.rows.read_members.Given as goal

abbrev pub invariant-loop-entry : goal.invariant-loop-entry
invariant-loop-entry l = record {
  ordered : AreMembersOrdered (members_view (drop l.entry-index l.entry-items));
  value : filled l.html (members_data (members_view (drop l.entry-index l.entry-items))) (row_of l.row)
      ≡ filled l.html (members_data (members_view l.entry-items)) (row_of l.initial.row);
}
