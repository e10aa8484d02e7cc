use Rattle.std.proofs.Common.{◌≡◌, drop, map}
use Rattle.std.specs.List.{list_any}
use Rattle.tokei_table_row.specs.RowOf.{row_of}
use Rattle.tokei_table_rules.specs.RowNames.{shares_name}
use Rattle.tokei_table_json.proofs.flaw.clash.Given as goal

abbrev pub invariant-loop-earlier : goal.invariant-loop-earlier
invariant-loop-earlier l =
    list_any (shares_name (row_of l.row)) (map row_of (drop l.earlier-index l.earlier-items))
    ≡ list_any (shares_name (row_of l.row)) (map row_of l.earlier-items)
