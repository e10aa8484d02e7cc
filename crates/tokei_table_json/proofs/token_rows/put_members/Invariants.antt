use Rattle.std.proofs.Common.{length}
use Rattle.tokei_table_row.specs.RowOf.{row_of}
use Rattle.tokei_table_json.proofs.NextRows.{MembersRead}
use Rattle.tokei_table_json.proofs.token_rows.put_members.Given as goal

abbrev pub invariant-loop-key : goal.invariant-loop-key
invariant-loop-key l = MembersRead 124 l.initial.reader l.reader l.last (row_of l.initial.row) (row_of l.row)

abbrev pub decreases-loop-key : goal.decreases-loop-key
decreases-loop-key l = length l.reader
