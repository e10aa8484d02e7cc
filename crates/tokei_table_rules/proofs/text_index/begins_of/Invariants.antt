use Rattle.tokei_table_rules.proofs.TextGroups.{AreSummed}
use Rattle.tokei_table_rules.proofs.text_index.begins_of.Given as goal

abbrev pub invariant-loop-group : goal.invariant-loop-group
invariant-loop-group l = AreSummed l.entries l.group l.end l.begins.items
