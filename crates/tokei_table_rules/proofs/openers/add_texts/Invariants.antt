use Rattle.std.proofs.Common.{◌≡◌, ◌++◌, drop}
use Rattle.tokei_table_row.specs.RowOf.{tokens_of}
use Rattle.tokei_table_rules.proofs.openers.add_texts.Given as goal

abbrev pub invariant-loop-text : goal.invariant-loop-text
invariant-loop-text l =
    tokens_of l.out.items ++ tokens_of (drop l.text-index l.texts) ≡ tokens_of l.initial.out.items ++ tokens_of l.texts
