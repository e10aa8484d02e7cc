-- The options that stand above the configuration files.
use Rattle.std.specs.Prelude.{ℕ, ◌==◌, List, Bool, true, Option, Some, flat_map, filter_map, map, option_map}
use Rattle.std.specs.Prelude.{string_bytes, if◌then◌else◌}
use Rattle.std.specs.List.{slice_split}
use Rattle.std.specs.Option.{option_or}
use Rattle.tokei_config.specs.Settings.{Settings}
use Rattle.tokei_table_row.specs.Row.{Row}
use Rattle.tokei_table.specs.Lookups.{first_where, has_name_in_any_case}
use Rattle.tokei_cli.specs.declared.cli.Cli.{Cli}

-- the language that a piece of a word names, in any case
abbrev pub language_named : List Row → List ℕ → Option ℕ
language_named rows piece = first_where (has_name_in_any_case piece) rows

-- the byte of a comma, `,`
abbrev pub comma : ℕ
comma = 44

-- the languages of a word, between its commas; a piece that names none is passed over
abbrev pub languages_in : List Row → List ℕ → List ℕ
languages_in rows word = filter_map (language_named rows) (slice_split (λ b. b == comma) word)

-- the languages of all words
abbrev pub languages_named : List Row → List (List ℕ) → List ℕ
languages_named rows words = flat_map (languages_in rows) words

-- a switch is on where its option is given
abbrev pub switched : Bool → Option Bool → Option Bool
switched given configured = if given then Some true else configured

-- the languages of the option for types, where it is given
abbrev pub types_of : List Row → Cli → Option (List ℕ)
types_of rows line = option_map (λ v. languages_named rows (map string_bytes v.items)) line.types

-- the settings under the options: five switches and the types, all else as it is configured
abbrev pub overridden : List Row → Cli → Settings → Settings
overridden rows line settings = record settings {
  hidden = switched line.hidden settings.hidden;
  no_ignore = switched line.no_ignore settings.no_ignore;
  no_ignore_parent = switched line.no_ignore_parent settings.no_ignore_parent;
  no_ignore_dot = switched line.no_ignore_dot settings.no_ignore_dot;
  no_ignore_vcs = switched line.no_ignore_vcs settings.no_ignore_vcs;
  types = option_or (types_of rows line) settings.types;
}
