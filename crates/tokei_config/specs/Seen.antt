-- The code's configuration as the definitions see it.
use Rattle.std.specs.Prelude.{ℕ, List, map, string_bytes, option_map}
use Rattle.tokei_config.specs.Settings.{Settings}
use Rattle.tokei_config.specs.Languages.{Addition}
use Rattle.tokei_config.specs.declared.config.Config.{Config}
use Rattle.tokei_config.specs.declared.language_config.LanguageConfig.{LanguageConfig}

-- The extensions that a language gains.
abbrev pub extensions_of : LanguageConfig → List (List ℕ)
extensions_of gain = map string_bytes gain.extensions.items

-- What is added to each language.
abbrev pub additions_of : List (ℕ × LanguageConfig) → List Addition
additions_of es = map (λ e. (e.0, extensions_of e.1)) es

-- Each member under its own name.
abbrev pub settings_of : Config → Settings
settings_of config = record {
  columns = config.columns;
  hidden = config.hidden;
  no_ignore = config.no_ignore;
  no_ignore_parent = config.no_ignore_parent;
  no_ignore_dot = config.no_ignore_dot;
  no_ignore_vcs = config.no_ignore_vcs;
  treat_doc_strings_as_comments = config.treat_doc_strings_as_comments;
  sort = config.sort;
  types = option_map (λ v. v.items) config.types;
  languages = option_map (λ m. additions_of m.entries) config.languages;
}
