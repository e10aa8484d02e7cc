use Rattle.std.proofs.Common.{◌≡◌, drop, map}
use Rattle.tokei_table_row.specs.RowOf.{row_of}
use Rattle.tokei_table_rules.specs.Fallbacks.{has_key}
use Rattle.tokei_table_rules.proofs.well_formed.has_key.Given as goal

abbrev pub invariant-loop-row : goal.invariant-loop-row
invariant-loop-row l = has_key (map row_of (drop l.row-index l.rows)) l.key ≡ has_key (map row_of l.rows) l.key
