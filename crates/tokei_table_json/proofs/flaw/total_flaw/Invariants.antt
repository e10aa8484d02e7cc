use Rattle.std.proofs.Common.{◌≡◌, drop, map}
use Rattle.std.specs.List.{list_any}
use Rattle.tokei_table_row.specs.RowOf.{row_of}
use Rattle.tokei_table_rules.specs.RowNames.{is_total}
use Rattle.tokei_table_json.proofs.flaw.total_flaw.Given as goal

abbrev pub invariant-loop-row : goal.invariant-loop-row
invariant-loop-row l =
    list_any is_total (map row_of (drop l.row-index l.rows)) ≡ list_any is_total (map row_of l.rows)
