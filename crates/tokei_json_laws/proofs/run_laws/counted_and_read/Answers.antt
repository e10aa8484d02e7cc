use Rattle.std.proofs.Common.{ap, ◌∙◌}
use Rattle.serde_json.specs.Read.{read}
use Rattle.tokei_config.specs.Seen.{settings_of}
use Rattle.tokei_files.specs.Configs.{kept_by}
use Rattle.tokei_languages.specs.Seen.{languages_of}
use Rattle.tokei_walk.specs.Walks.{texts_of}
use Rattle.tokei_earlier.specs.declared.error.InputError.TheVariants.{Memory, Overflow}
use Rattle.tokei_json_laws.specs.RunDocuments.{languages_counted}
use Rattle.tokei_json_laws.proofs.ReadDocument.{answered, never_refused}
use Rattle.tokei_json_laws.proofs.RunLanguages.{counted_read_back, printed_back}
use Rattle.tokei_json_laws.proofs.run_laws.counted_and_read.Goals as goal

pub returns-in-Ok-clause-told : goal.returns-in-Ok-clause-told
returns-in-Ok-clause-told g c = λ t e.
    let rows = c.args.table.now in
    let s = settings_of c.args.config.now in
    let files = kept_by s t (texts_of c.args.paths.now) (texts_of c.args.ignored.now) in
    let well = c.len-count.ensures.well_formed in
    answered languages_of c.parse.result _ (languages_counted rows s t files)
    (printed_back rows (languages_counted rows s t files) (languages_of c.in_ok-languages.languages) c.as_str.result.now well
    (counted_read_back rows well s t files) (c.in_ok-languages.ensures.told t e)
    (c.as_str.ensures.value ∙ c.in-Ok.ensures.text) (λ h. ap read c.as_str.ensures.value ∙ c.in-Ok.ensures.reads_back h))
    c.parse.ensures.languages

pub returns-in-Ok-clause-refused : goal.returns-in-Ok-clause-refused
returns-in-Ok-clause-refused g c = λ t e.
    let rows = c.args.table.now in
    let s = settings_of c.args.config.now in
    let files = kept_by s t (texts_of c.args.paths.now) (texts_of c.args.ignored.now) in
    let well = c.len-count.ensures.well_formed in
    never_refused Memory Overflow c.parse.result _ (languages_counted rows s t files)
    (printed_back rows (languages_counted rows s t files) (languages_of c.in_ok-languages.languages) c.as_str.result.now well
    (counted_read_back rows well s t files) (c.in_ok-languages.ensures.told t e)
    (c.as_str.ensures.value ∙ c.in-Ok.ensures.text) (λ h. ap read c.as_str.ensures.value ∙ c.in-Ok.ensures.reads_back h))
    c.parse.ensures.refused
