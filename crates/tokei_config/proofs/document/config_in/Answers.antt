use Rattle.std.proofs.Common.{◌∙◌, option_map, sym}
use Rattle.std.proofs.lemmas.Result.{err_from_is_err_and}
use Rattle.toml.specs.View.{table_view}
use Rattle.tokei_config.proofs.SettingReads.{languages_refused, setting_read, setting_refused, settings_read, types_refused, value_refused}
use Rattle.tokei_config.specs.Seen.{additions_of}
use Rattle.tokei_config.specs.declared.flaws.Setting.TheVariants as setting
use Rattle.tokei_config.proofs.document.config_in.Goals as goal

pub returns-in_err-values : goal.returns-in_err-values
returns-in_err-values c =
    let p = err_from_is_err_and c.from_residual.result c.from_residual.ensures.1 in
    rw (p.1, p.2) (value_refused c.args.table.now (table_view c.args.members.now) c.in_err-values.field-0.0 c.in_err-values.ensures.refused)

pub returns-in_err-types : goal.returns-in_err-types
returns-in_err-types c =
    let p = err_from_is_err_and c.from_residual-in_err-types.result c.from_residual-in_err-types.ensures.1 in
    let types = setting_refused (option_map (λ v. v.items)) _ setting.Types c.types_at.result c.in_err-types.field-0.0 c.types_at.ensures (sym c.in_err-types.was ∙ c.at.ensures) in
    rw (p.1, p.2) (types_refused c.args.table.now (table_view c.args.members.now) c.in_ok-values.values c.in_ok-values.ensures.are_read c.in_err-types.field-0.0 types)

pub returns-in_err-languages : goal.returns-in_err-languages
returns-in_err-languages c =
    let p = err_from_is_err_and c.from_residual-in_err-languages.result c.from_residual-in_err-languages.ensures.1 in
    let types = setting_read (option_map (λ v. v.items)) _ setting.Types c.types_at.result c.in_ok-types.types c.types_at.ensures (sym c.in_ok-types.was ∙ c.at.ensures) in
    let languages = setting_refused (option_map (λ m. additions_of m.entries)) _ setting.Languages c.languages_at.result c.in_err-languages.field-0.0 c.languages_at.ensures
    (sym c.in_err-languages.was ∙ c.at-2.ensures) in
    rw (p.1, p.2) (languages_refused c.args.table.now (table_view c.args.members.now) c.in_ok-values.values c.in_ok-values.ensures.are_read _ types c.in_err-languages.field-0.0 languages)

pub returns : goal.returns
returns c =
    let types = setting_read (option_map (λ v. v.items)) _ setting.Types c.types_at.result c.in_ok-types.types c.types_at.ensures (sym c.in_ok-types.was ∙ c.at.ensures) in
    let languages = setting_read (option_map (λ m. additions_of m.entries)) _ setting.Languages c.languages_at.result c.in_ok-languages.languages c.languages_at.ensures
    (sym c.in_ok-languages.was ∙ c.at-2.ensures) in
    settings_read c.args.table.now (table_view c.args.members.now) c.in_ok-values.values c.in_ok-values.ensures.are_read _ types _ languages
