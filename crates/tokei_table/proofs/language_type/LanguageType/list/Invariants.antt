use Rattle.std.proofs.Common.{◌≡◌, ◌++◌, drop, map}
use Rattle.tokei_table.specs.Listed.{listed, languages_from}
use Rattle.tokei_table_row.specs.RowOf.{row_of}
use Rattle.tokei_table.proofs.language_type.LanguageType.list.Given as goal

abbrev pub invariant-loop-i : goal.invariant-loop-i
invariant-loop-i l =
    map listed l.out.items ++ languages_from l.i (map row_of (drop l.i l.rows)) ≡ languages_from 0 (map row_of l.rows)
