use Rattle.std.proofs.Common.{◌≡◌, ◌++◌, drop, map}
use Rattle.tokei_table_row.specs.RowOf.{tokens_of}
use Rattle.tokei_table_rules.specs.PathSuffixes.{tail_of}
use Rattle.tokei_table_rules.specs.TextIndex.{entries_of}
use Rattle.tokei_table_rules.proofs.text_index.add_tails.Given as goal

abbrev pub invariant-loop-text : goal.invariant-loop-text
invariant-loop-text l =
    l.entries.items ++ entries_of l.place (map tail_of (tokens_of (drop l.text-index l.texts)))
    ≡ l.initial.entries.items ++ entries_of l.place (map tail_of (tokens_of l.texts))
