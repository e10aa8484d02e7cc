use Rattle.std.proofs.Common.{◌∙◌, ap, sym, arith}
use Rattle.std.proofs.lemmas.Grind.{common_steps}
use Rattle.std.specs.String.{string_bytes}
use Rattle.tokei_table_rules.specs.MetNames.{is_met}
use Rattle.tokei_table_rules.proofs.MetNames.{met_by_first, met_by_second}
use Rattle.tokei_table_rules.proofs.names.add_names.Goals as goal

pub returns-then-key_met-clause-added : goal.returns-then-key_met-clause-added
returns-then-key_met-clause-added c = grind (arith, common_steps)

pub returns-else-key_met-clause-added : goal.returns-else-key_met-clause-added
returns-else-key_met-clause-added c = grind (arith, common_steps)

pub returns-then-key_met-clause-met : goal.returns-then-key_met-clause-met
returns-then-key_met-clause-met c =
    let met = is_met c.args.names.now in
    met_by_first c.is_met-key_met.result _ (met (string_bytes c.args.row.now.name))
    (c.is_met-key_met.ensures ∙ ap met c.as_str-key.ensures.value) c.if-key_met.true

pub returns-else-key_met-clause-met : goal.returns-else-key_met-clause-met
returns-else-key_met-clause-met c =
    let met = is_met c.args.names.now in
    met_by_second c.is_met-name_met.result (met (string_bytes c.args.row.now.key)) _
    (c.is_met-name_met.ensures ∙ ap met c.as_str-name.ensures.value)
    (sym (c.is_met-key_met.ensures ∙ ap met c.as_str-key.ensures.value) ∙ c.if-key_met.false)
