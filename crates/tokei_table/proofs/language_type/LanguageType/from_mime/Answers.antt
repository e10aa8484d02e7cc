use Rattle.std.proofs.Common.{◌∙◌, ap, map}
use Rattle.tokei_table_rules.specs.Lookups.{first_where, has_mime}
use Rattle.tokei_table_row.specs.RowOf.{row_of}
use Rattle.tokei_table_rules.proofs.OfTable.{first_within, same_within}
use Rattle.tokei_table.proofs.language_type.LanguageType.from_mime.Goals as goal

pub returns-clause-of_table : goal.returns-clause-of_table
returns-clause-of_table c =
    same_within c.args.table.now c.language.result (first_where (has_mime c.args.mime.now) c.args.table.now)
    (c.language.ensures ∙ c.with_mime.ensures
    ∙ ap (λ t. first_where (has_mime t) (map row_of c.rows.result.now)) c.as_bytes.ensures.value
    ∙ ap (first_where (has_mime c.args.mime.now)) c.rows.ensures)
    (first_within (has_mime c.args.mime.now) c.args.table.now)
