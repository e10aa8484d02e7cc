-- The settings of a configuration file.
use Rattle.std.specs.Prelude.{ℕ, List, Bool, ◌&&◌, Option, Some, None, is_some, unwrap_or, option_and_then, if◌then◌else◌, codes}
use Rattle.toml.specs.Data.{Members, get_member, as_bool}
use Rattle.toml.specs.Parse.{parse_document}
use Rattle.tokei_config.specs.Settings.{Settings, empty}
use Rattle.tokei_config.specs.Members.{optional, as_count, as_sort, as_languages}
use Rattle.tokei_config.specs.Languages.{as_additions}
use Rattle.tokei_options.specs.declared.sort.Sort.{Sort}
use Rattle.tokei_table.specs.Row.{Row}

-- The value of a member that can be read.
abbrev pub value_of : {X : Type 0} → Option (Option X) → Option X
value_of found = unwrap_or found None

-- A member that is true or false, by its key.
abbrev pub flag : List ℕ → Members → Option (Option Bool)
flag key ms = optional as_bool (get_member key ms)

-- How many columns wide the report is.
abbrev pub columns_in : Members → Option (Option ℕ)
columns_in ms = optional as_count (get_member (codes "columns") ms)

-- The column that the languages are sorted by.
abbrev pub sort_in : Members → Option (Option Sort)
sort_in ms = optional as_sort (get_member (codes "sort") ms)

-- The only languages that are counted, by their numbers in the table.
abbrev pub types_in : List Row → Members → Option (Option (List ℕ))
types_in rows ms = optional (as_languages rows) (get_member (codes "types") ms)

-- The extensions that each language gains, by its number in the table.
abbrev pub languages_in : List Row → Members → Option (Option (List (ℕ × List (List ℕ))))
languages_in rows ms = optional (as_additions rows) (get_member (codes "languages") ms)

-- Whether none of the members that are there is of a wrong kind or names what isn't known.
abbrev pub is_readable : List Row → Members → Bool
is_readable rows ms =
    is_some (columns_in ms)
    && (is_some (flag (codes "hidden") ms)
    && (is_some (flag (codes "no_ignore") ms)
    && (is_some (flag (codes "no_ignore_parent") ms)
    && (is_some (flag (codes "no_ignore_dot") ms)
    && (is_some (flag (codes "no_ignore_vcs") ms)
    && (is_some (flag (codes "treat_doc_strings_as_comments") ms)
    && (is_some (sort_in ms)
    && (is_some (types_in rows ms)
    && is_some (languages_in rows ms)))))))))

-- The settings that the members make, a member that is missing being none.
abbrev pub readable_settings : List Row → Members → Settings
readable_settings rows ms = record {
  columns = value_of (columns_in ms);
  hidden = value_of (flag (codes "hidden") ms);
  no_ignore = value_of (flag (codes "no_ignore") ms);
  no_ignore_parent = value_of (flag (codes "no_ignore_parent") ms);
  no_ignore_dot = value_of (flag (codes "no_ignore_dot") ms);
  no_ignore_vcs = value_of (flag (codes "no_ignore_vcs") ms);
  treat_doc_strings_as_comments = value_of (flag (codes "treat_doc_strings_as_comments") ms);
  sort = value_of (sort_in ms);
  types = value_of (types_in rows ms);
  languages = value_of (languages_in rows ms);
}

-- The settings of the members of a file; nothing where one of the ten can't be read. Other members
-- are passed over.
abbrev pub settings_in : List Row → Members → Option Settings
settings_in rows ms = if is_readable rows ms then Some (readable_settings rows ms) else None

-- The settings of what TOML makes of a text.
abbrev pub settings_of_reading : List Row → Option Members → Settings
settings_of_reading rows found = unwrap_or (option_and_then (settings_in rows) found) empty

-- The settings of a file's text; none where it isn't TOML, or where one of its members can't be
-- read.
unfoldable pub settings_of_text : List Row → List ℕ → Settings
settings_of_text rows text = settings_of_reading rows (parse_document text)
