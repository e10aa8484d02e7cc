use Rattle.std.proofs.Common.{◌∙◌, ap}
use Rattle.tokei_table_rules.specs.Lookups.{first_where, has_name_in_any_case}
use Rattle.tokei_table_rules.proofs.OfTable.{first_within, same_within}
use Rattle.tokei_table.proofs.language_type.LanguageType.from_str.Goals as goal

pub returns-clause-of_table : goal.returns-clause-of_table
returns-clause-of_table c =
    same_within c.args.table.now c.language.result
    (first_where (has_name_in_any_case c.args.word.now) c.args.table.now)
    (c.language.ensures ∙ c.with_name_in_any_case.ensures
    ∙ ap (first_where (has_name_in_any_case c.args.word.now)) c.indexed_rows.ensures)
    (first_within (has_name_in_any_case c.args.word.now) c.args.table.now)
