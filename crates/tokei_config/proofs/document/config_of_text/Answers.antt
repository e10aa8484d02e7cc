use Rattle.std.proofs.Common.{◌≡◌, ◌∙◌, Option, Some, None, IfOk, ap, option_map, subst, sym, unwrap_or}
use Rattle.std.proofs.lemmas.Bool.{false≢true}
use Rattle.toml.specs.View.{table_view}
use Rattle.tokei_config.proofs.FileTexts.{text_cause, text_settings}
use Rattle.tokei_config.specs.Seen.{settings_of}
use Rattle.tokei_config.specs.Settings.{Settings, empty}
use Rattle.tokei_config.specs.declared.flaws.Cause.{Cause}
use Rattle.tokei_config.specs.declared.flaws.Cause.TheVariants.{BadSetting}
use Rattle.tokei_config.proofs.document.config_of_text.Goals as goal

pub returns-in-Ok-config_in-clause-config : goal.returns-in-Ok-config_in-clause-config
returns-in-Ok-config_in-clause-config c =
    let read = text_settings c.args.table.now c.args.text.now (Some (table_view c.in-Ok.members)) c.in-Ok.ensures.ok in
    ap (λ s. Some s) (ap (λ o. unwrap_or o empty) (sym c.in-Ok-config_in.ensures.0) ∙ read)

pub returns-in-Ok-config_in-clause-cause : goal.returns-in-Ok-config_in-clause-cause
returns-in-Ok-config_in-clause-cause c =
    ap (option_map BadSetting) (sym c.in-Ok-config_in.ensures.1) ∙ text_cause c.args.table.now c.args.text.now (Some (table_view c.in-Ok.members)) c.in-Ok.ensures.ok

pub returns-in-Err-Bad-clause-config : goal.returns-in-Err-Bad-clause-config
returns-in-Err-Bad-clause-config c =
    let bad = rw c.in-Err-Bad.field-0-is at c.in-Err-Bad.ensures in
    let read = text_settings c.args.table.now c.args.text.now (Some (table_view c.in-Ok.members)) c.in-Ok.ensures.ok in
    c.bad_setting.ensures.config ∙ ap (λ s. Some s) (ap (λ o. unwrap_or o empty) (sym bad.0) ∙ read)

pub returns-in-Err-Bad-clause-cause : goal.returns-in-Err-Bad-clause-cause
returns-in-Err-Bad-clause-cause c =
    let bad = rw c.in-Err-Bad.field-0-is at c.in-Err-Bad.ensures in
    c.bad_setting.ensures.cause ∙ ap (option_map BadSetting) (sym bad.1) ∙ text_cause c.args.table.now c.args.text.now (Some (table_view c.in-Ok.members)) c.in-Ok.ensures.ok

pub returns-clause-config : goal.returns-clause-config
returns-clause-config c =
    let none = c.in-Err.ensures.refused (λ m. false≢true (c.if-is_memory.ensures.1 m)) in
    subst (λ (s : Settings). IfOk c.not_toml.result (λ r. option_map settings_of r.config ≡ Some s)) (text_settings c.args.table.now c.args.text.now None none) c.not_toml.ensures.config

pub returns-clause-cause : goal.returns-clause-cause
returns-clause-cause c =
    let none = c.in-Err.ensures.refused (λ m. false≢true (c.if-is_memory.ensures.1 m)) in
    subst (λ (o : Option Cause). IfOk c.not_toml.result (λ r. option_map (λ w. w.cause) r.reason ≡ o)) (text_cause c.args.table.now c.args.text.now None none) c.not_toml.ensures.cause
