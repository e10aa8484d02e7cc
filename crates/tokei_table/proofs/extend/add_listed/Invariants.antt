use Rattle.std.proofs.Common.{◌≡◌, ◌++◌, drop}
use Rattle.tokei_table_row.specs.RowOf.{tokens_of}
use Rattle.tokei_table_rules.specs.MetNames.{words_of}
use Rattle.tokei_table.proofs.extend.add_listed.Given as goal

abbrev pub invariant-loop-text : goal.invariant-loop-text
invariant-loop-text l =
    words_of l.out.items ++ tokens_of (drop l.text-index l.texts) ≡ words_of l.initial.out.items ++ tokens_of l.texts
