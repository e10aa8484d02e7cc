use Rattle.std.proofs.Common.{◌≡◌, drop}
use Rattle.std.specs.List.{list_any}
use Rattle.tokei_table_row.specs.RowOf.{tokens_of}
use Rattle.tokei_table_rules.specs.PathSuffixes.{is_short}
use Rattle.tokei_table_rules.proofs.path_suffixes.has_short.Given as goal

abbrev pub invariant-loop-text : goal.invariant-loop-text
invariant-loop-text l = list_any is_short (tokens_of (drop l.text-index l.texts)) ≡ list_any is_short (tokens_of l.texts)
