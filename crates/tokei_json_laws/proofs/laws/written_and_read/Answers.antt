use Rattle.std.proofs.Common.{ap, ◌∙◌}
use Rattle.tokei_languages.specs.Seen.{languages_of}
use Rattle.tokei_earlier.specs.Outcome.{outcome_of_value}
use Rattle.tokei_earlier.specs.declared.error.InputError.TheVariants.{Memory, Overflow}
use Rattle.tokei_json_laws.proofs.ReadDocument.{value_back, answered, never_refused}
use Rattle.tokei_json_laws.proofs.laws.written_and_read.Goals as goal

pub returns-in-Ok-clause-same : goal.returns-in-Ok-clause-same
returns-in-Ok-clause-same c =
    let rows = c.args.table.now in
    let es = languages_of c.args.languages.now in
    answered languages_of c.from_value.result _ es
    (ap (outcome_of_value rows) c.in-Ok.ensures.value ∙ value_back rows es c.len-count.ensures.well_formed c.requires c.languages_are_in_order.ensures)
    c.from_value.ensures.languages

pub returns-in-Ok-clause-refused : goal.returns-in-Ok-clause-refused
returns-in-Ok-clause-refused c =
    let rows = c.args.table.now in
    let es = languages_of c.args.languages.now in
    never_refused Memory Overflow c.from_value.result _ es
    (ap (outcome_of_value rows) c.in-Ok.ensures.value ∙ value_back rows es c.len-count.ensures.well_formed c.requires c.languages_are_in_order.ensures)
    c.from_value.ensures.refused
