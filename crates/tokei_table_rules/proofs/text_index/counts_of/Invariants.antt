use Rattle.std.proofs.Common.{drop}
use Rattle.tokei_table_rules.proofs.TextGroups.{AreCounted}
use Rattle.tokei_table_rules.proofs.text_index.counts_of.Given as goal

abbrev pub invariant-loop-group : goal.invariant-loop-group
invariant-loop-group l = AreCounted l.entries (drop l.group-index l.entries) l.counts.items
