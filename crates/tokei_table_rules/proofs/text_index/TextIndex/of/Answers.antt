use Rattle.std.proofs.Common.{◌∙◌, sym, subst}
use Rattle.tokei_table_rules.specs.TextIndex.{begin_of, HasForEach}
use Rattle.tokei_table_rules.proofs.text_index.TextIndex.of.Goals as goal

pub of_entries-requires-clause-begins : goal.of_entries-requires-clause-begins
of_entries-requires-clause-begins c =
    subst (λ es. HasForEach (λ g. begin_of g es) c.in_ok-begins.begins.items)
    (c.deref.ensures.value ∙ sym c.deref-2.ensures.value) c.in_ok-begins.ensures
