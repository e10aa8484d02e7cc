use Rattle.std.proofs.Common.{◌≡◌, ◌++◌, drop}
use Rattle.tokei_table_rules.specs.Extended.{gained}
use Rattle.tokei_table_rules.specs.MetNames.{words_of}
use Rattle.tokei_table_row.specs.RowOf.{tokens_of}
use Rattle.tokei_table_rules.proofs.extend.gained.Given as goal

abbrev pub invariant-loop-extension : goal.invariant-loop-extension
invariant-loop-extension l = record {
  known : l.known ≡ l.initial.known ++ tokens_of l.out.items;
  rest : tokens_of l.out.items ++ gained l.known (words_of (drop l.extension-index l.listed))
      ≡ gained l.initial.known (words_of l.listed);
}
