use Rattle.std.proofs.Common.{length, map}
use Rattle.tokei_table_row.specs.RowOf.{row_of}
use Rattle.tokei_table_json.proofs.NextRows.{RowsRead}
use Rattle.tokei_table_json.proofs.token_rows.next_rows.Given as goal

abbrev pub invariant-loop-made : goal.invariant-loop-made
invariant-loop-made l = RowsRead 125 l.initial.reader l.reader l.last (map row_of l.made.items)

abbrev pub decreases-loop-made : goal.decreases-loop-made
decreases-loop-made l = length l.reader
