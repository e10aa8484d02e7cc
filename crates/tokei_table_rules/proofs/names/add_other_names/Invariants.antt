use Rattle.std.proofs.Common.{◌≡◌, ◌++◌, drop, map}
use Rattle.tokei_table_row.specs.RowOf.{row_of}
use Rattle.tokei_table_rules.specs.MetNames.{words_of}
use Rattle.tokei_table_rules.specs.RowNames.{other_names_of}
use Rattle.tokei_table_rules.proofs.names.add_other_names.Given as goal

abbrev pub invariant-loop-row : goal.invariant-loop-row
invariant-loop-row l =
    words_of l.texts.items ++ other_names_of (map row_of (drop l.row-index l.rows))
    ≡ words_of l.initial.texts.items ++ other_names_of (map row_of l.rows)
