use Rattle.std.proofs.Common.{◌≡◌, ◌++◌, drop, map}
use Rattle.tokei_table_rules.specs.Extended.{extensions_of}
use Rattle.tokei_table_row.specs.RowOf.{row_of}
use Rattle.tokei_table_rules.proofs.extend.all_extensions.Given as goal

abbrev pub invariant-loop-row : goal.invariant-loop-row
invariant-loop-row l =
    l.known ++ extensions_of (map row_of (drop l.row-index l.rows)) ≡ extensions_of (map row_of l.rows)
