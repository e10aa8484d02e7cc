use Rattle.std.proofs.Common.{◌∙◌, ap}
use Rattle.tokei_table_rules.specs.Lookups.{from_lowered_name}
use Rattle.tokei_table_rules.proofs.OfTable.{name_within, same_within}
use Rattle.tokei_table.proofs.lookups.of_lowered.Goals as goal

pub returns-clause-of_table : goal.returns-clause-of_table
returns-clause-of_table c =
    same_within c.args.table.now c.language.result (from_lowered_name c.args.table.now c.args.name.now)
    (c.language.ensures ∙ c.in_lowered_name.ensures
    ∙ ap (λ rs. from_lowered_name rs c.args.name.now) c.indexed_rows.ensures)
    (name_within c.args.table.now c.args.name.now)
