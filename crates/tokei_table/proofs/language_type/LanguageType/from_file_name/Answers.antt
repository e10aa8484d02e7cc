use Rattle.std.proofs.Common.{ap, ◌∙◌, rules}
use Rattle.tokei_table_rules.specs.Lookups.{from_lowered_name}
use Rattle.tokei_table.proofs.Lowered.{is_lowered}
use Rattle.tokei_table.proofs.language_type.LanguageType.from_file_name.Goals as goal

pub returns-then-is_lowered-clause-value : goal.returns-then-is_lowered-clause-value
returns-then-is_lowered-clause-value c =
    let rows = c.args.table.now in
    c.of_lowered.ensures.value ∙ ap (from_lowered_name rows) (c.as_bytes.ensures.value ∙ is_lowered c.args.name.now (search rules))
