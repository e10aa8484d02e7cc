use Rattle.std.proofs.Common.{◌≡◌, ◌≢◌, Ok, Err, IfErr, IfOk, sym, ap, ◌∙◌, subst}
use Rattle.tokei_languages.specs.Seen.{languages_of}
use Rattle.tokei_earlier.specs.Outcome.{outcome_of_text}
use Rattle.tokei_earlier.specs.declared.error.InputError.TheVariants.{Memory}
use Rattle.tokei_earlier.proofs.Bytes.{text_of_bytes, bytes_refused}
use Rattle.tokei_earlier.proofs.document.parse_bytes.Goals as goal

pub returns-in-Ok-clause-languages : goal.returns-in-Ok-clause-languages
returns-in-Ok-clause-languages c =
    let here = c.in-Ok.ensures.cases in
    subst (λ o. IfOk c.from_text.result (λ ls. o ≡ Ok (languages_of ls)))
    (ap (outcome_of_text c.args.table.now) here.0 ∙ sym (text_of_bytes c.args.table.now c.args.bytes.now here.1))
    c.from_text.ensures.languages

pub returns-in-Ok-clause-refused : goal.returns-in-Ok-clause-refused
returns-in-Ok-clause-refused c =
    let here = c.in-Ok.ensures.cases in
    subst (λ o. IfErr c.from_text.result (λ e. (e ≢ Memory) → o ≡ Err e))
    (ap (outcome_of_text c.args.table.now) here.0 ∙ sym (text_of_bytes c.args.table.now c.args.bytes.now here.1))
    c.from_text.ensures.refused

pub returns-in-Err-clause-refused : goal.returns-in-Err-clause-refused
returns-in-Err-clause-refused c = λ _. bytes_refused c.args.table.now c.args.bytes.now c.in-Err.ensures.cases.0
