use Rattle.std.proofs.Common.{◌∙◌, ap}
use Rattle.tokei_table_rules.specs.Shebangs.{from_shebang, head_line}
use Rattle.tokei_table_rules.proofs.OfTable.{line_within, same_within}
use Rattle.tokei_table.proofs.language_type.LanguageType.from_shebang_bytes.Goals as goal

pub returns-clause-of_table : goal.returns-clause-of_table
returns-clause-of_table c =
    same_within c.args.table.now c.language.result (from_shebang c.args.table.now c.args.head.now)
    (c.language.ensures ∙ c.in_head.ensures ∙ ap (λ rs. from_shebang rs c.args.head.now) c.rows.ensures)
    (line_within c.args.table.now (head_line c.args.head.now))
