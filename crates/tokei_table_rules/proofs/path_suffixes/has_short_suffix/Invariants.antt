use Rattle.std.proofs.Common.{◌≡◌, drop, map}
use Rattle.std.specs.List.{list_any}
use Rattle.tokei_table_row.specs.RowOf.{row_of}
use Rattle.tokei_table_rules.specs.PathSuffixes.{has_short_suffix}
use Rattle.tokei_table_rules.proofs.path_suffixes.has_short_suffix.Given as goal

abbrev pub invariant-loop-row : goal.invariant-loop-row
invariant-loop-row l = list_any has_short_suffix (map row_of (drop l.row-index l.rows)) ≡ list_any has_short_suffix (map row_of l.rows)
