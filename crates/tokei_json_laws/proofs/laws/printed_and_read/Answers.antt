use Rattle.std.proofs.Common.{ap, ◌∙◌}
use Rattle.serde_json.specs.Read.{read}
use Rattle.tokei_languages.specs.Seen.{languages_of}
use Rattle.tokei_earlier.specs.declared.error.InputError.TheVariants.{Memory, Overflow}
use Rattle.tokei_json_laws.proofs.Depth.{document_within}
use Rattle.tokei_json_laws.proofs.ReadDocument.{value_back, text_back, answered, never_refused}
use Rattle.tokei_json_laws.proofs.laws.printed_and_read.Goals as goal

pub returns-in-Ok-clause-same : goal.returns-in-Ok-clause-same
returns-in-Ok-clause-same c =
    let rows = c.args.table.now in
    let es = languages_of c.args.languages.now in
    answered languages_of c.parse.result _ es
    (text_back rows es c.as_str.result.now (c.as_str.ensures.value ∙ c.in-Ok.ensures.text)
    (ap read c.as_str.ensures.value ∙ c.in-Ok.ensures.reads_back (document_within rows es 60 c.requires.shallow))
    (value_back rows es c.len-count.ensures.well_formed c.requires.known c.languages_are_in_order.ensures))
    c.parse.ensures.languages

pub returns-in-Ok-clause-refused : goal.returns-in-Ok-clause-refused
returns-in-Ok-clause-refused c =
    let rows = c.args.table.now in
    let es = languages_of c.args.languages.now in
    never_refused Memory Overflow c.parse.result _ es
    (text_back rows es c.as_str.result.now (c.as_str.ensures.value ∙ c.in-Ok.ensures.text)
    (ap read c.as_str.ensures.value ∙ c.in-Ok.ensures.reads_back (document_within rows es 60 c.requires.shallow))
    (value_back rows es c.len-count.ensures.well_formed c.requires.known c.languages_are_in_order.ensures))
    c.parse.ensures.refused
