use Rattle.std.proofs.Common.{◌≡◌, ◌++◌, drop}
use Rattle.tokei_table_row.specs.RowOf.{tokens_of}
use Rattle.tokei_table_rules.proofs.extend.add_known.Given as goal

abbrev pub invariant-loop-text : goal.invariant-loop-text
invariant-loop-text l = l.known ++ tokens_of (drop l.text-index l.texts) ≡ l.initial.known ++ tokens_of l.texts
