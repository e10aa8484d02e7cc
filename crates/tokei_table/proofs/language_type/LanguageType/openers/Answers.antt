use Rattle.std.proofs.Common.{◌≡◌, true, ◌∙◌, ap}
use Rattle.std.specs.List.{list_all}
use Rattle.tokei_table_row.specs.FirstOpener.{is_nonempty}
use Rattle.tokei_table_rules.specs.Openers.{openers}
use Rattle.tokei_table_row.specs.RowOf.{row_of, tokens_of}
use Rattle.tokei_table_rules.proofs.Nonempty.{openers_nonempty, if_ok_more}
use Rattle.tokei_table.proofs.language_type.LanguageType.openers.Goals as goal

pub returns-clause-nonempty : goal.returns-clause-nonempty
returns-clause-nonempty c =
    if_ok_more c.openers.result (λ v. tokens_of v.items ≡ openers (row_of c.syntax.result.now))
    (λ v. list_all is_nonempty (tokens_of v.items) ≡ true)
    (λ v e. ap (list_all is_nonempty) e ∙ openers_nonempty
    (row_of c.syntax.result.now) c.syntax.ensures.tokens) c.openers.ensures
