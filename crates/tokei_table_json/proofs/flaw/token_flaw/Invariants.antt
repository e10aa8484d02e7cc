use Rattle.std.proofs.Common.{◌≡◌, drop, map}
use Rattle.std.specs.List.{list_all}
use Rattle.tokei_table_row.specs.RowOf.{row_of}
use Rattle.tokei_table_rules.specs.Tokens.{has_tokens}
use Rattle.tokei_table_json.proofs.flaw.token_flaw.Given as goal

abbrev pub invariant-loop-row : goal.invariant-loop-row
invariant-loop-row l =
    list_all has_tokens (map row_of (drop l.row-index l.rows)) ≡ list_all has_tokens (map row_of l.rows)
