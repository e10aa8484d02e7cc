use Rattle.std.proofs.Common.{◌≡◌, ◌++◌, drop}
use Rattle.tokei_table_row.specs.RowOf.{tokens_of}
use Rattle.tokei_table_rules.specs.TextIndex.{entries_of}
use Rattle.tokei_table_rules.proofs.text_index.add_entries.Given as goal

abbrev pub invariant-loop-text : goal.invariant-loop-text
invariant-loop-text l =
    l.entries.items ++ entries_of l.place (tokens_of (drop l.text-index l.texts))
    ≡ l.initial.entries.items ++ entries_of l.place (tokens_of l.texts)
