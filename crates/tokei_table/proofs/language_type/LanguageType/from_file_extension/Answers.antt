use Rattle.std.proofs.Common.{◌∙◌, ap}
use Rattle.tokei_table_rules.specs.Lookups.{first_where, has_extension}
use Rattle.tokei_table_rules.proofs.OfTable.{first_within, same_within}
use Rattle.tokei_table.proofs.language_type.LanguageType.from_file_extension.Goals as goal

pub returns-clause-of_table : goal.returns-clause-of_table
returns-clause-of_table c =
    same_within c.args.table.now c.language.result (first_where (has_extension c.args.extension.now) c.args.table.now)
    (c.language.ensures ∙ c.with_extension.ensures
    ∙ ap (λ t. first_where (has_extension t) c.indexed_rows.result.now) c.as_bytes.ensures.value
    ∙ ap (first_where (has_extension c.args.extension.now)) c.indexed_rows.ensures)
    (first_within (has_extension c.args.extension.now) c.args.table.now)
