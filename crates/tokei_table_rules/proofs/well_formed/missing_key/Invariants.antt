use Rattle.std.proofs.Common.{◌≡◌, drop, map}
use Rattle.std.specs.List.{list_all}
use Rattle.tokei_table_row.specs.RowOf.{row_of}
use Rattle.tokei_table_rules.specs.Fallbacks.{has_key}
use Rattle.tokei_table_rules.specs.MetNames.{words_of}
use Rattle.tokei_table_rules.proofs.well_formed.missing_key.Given as goal

abbrev pub invariant-loop-key : goal.invariant-loop-key
invariant-loop-key l =
    list_all (has_key (map row_of l.rows)) (words_of (drop l.key-index l.keys))
    ≡ list_all (has_key (map row_of l.rows)) (words_of l.keys)
