use Rattle.std.proofs.Common.{◌≡◌, ◌++◌, drop, map}
use Rattle.tokei_table_row.specs.RowOf.{row_of}
use Rattle.tokei_table_rules.specs.TextIndex.{entries_from, texts_of}
use Rattle.tokei_table_rules.proofs.text_index.entries_of.Given as goal

abbrev pub invariant-loop-place : goal.invariant-loop-place
invariant-loop-place l =
    l.entries.items ++ entries_from (texts_of l.kind) l.place (map row_of (drop l.place l.rows))
    ≡ entries_from (texts_of l.kind) 0 (map row_of l.rows)
