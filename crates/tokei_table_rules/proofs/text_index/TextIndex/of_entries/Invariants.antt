use Rattle.std.proofs.Common.{drop}
use Rattle.tokei_table_rules.proofs.TextGroups.{AreReached}
use Rattle.tokei_table_rules.proofs.text_index.TextIndex.of_entries.Given as goal

abbrev pub invariant-loop-group : goal.invariant-loop-group
invariant-loop-group l = AreReached l.entries (drop l.group-index l.entries) l.ends.items l.places.items
