-- The configuration files of a known tree.
use Rattle.std.specs.Prelude.{ℕ, List, ◌++◌, Option, Some, None, option_and_then, string_bytes, String, if◌then◌else◌, codes}
use Rattle.std.specs.Option.{option_or}
use Rattle.std.specs.Global.{Global}
use Rattle.std.specs.Str.{is_utf8}
use Rattle.tokei_config.specs.Document.{settings_of_text}
use Rattle.tokei_config.specs.Settings.{Settings, empty, first_of_each}
use Rattle.tokei_config.specs.declared.files.ConfigDirs.{ConfigDirs}
use Rattle.tokei_folders.specs.Answers.{node_content}
use Rattle.tokei_folders.specs.Tree.{Names, Tree, names_of, node_at}
use Rattle.tokei_table.specs.Row.{Row}

-- Bytes that are UTF-8 are a text.
abbrev pub as_text : List ℕ → Option (List ℕ)
as_text bytes = if is_utf8 bytes then Some bytes else None

-- The text of the file of that name in a folder, where it can be read as UTF-8.
abbrev pub text_at : Tree → Names → List ℕ → Option (List ℕ)
text_at tree folder name = option_and_then as_text
    (node_content (node_at tree (folder ++ names_of name)))

-- The text of a folder's configuration file: `tokei.toml`, or `.tokeirc` where that can't be read
-- as UTF-8.
abbrev pub file_text : Tree → Names → Option (List ℕ)
file_text tree folder =
    option_or (text_at tree folder (codes "tokei.toml")) (text_at tree folder (codes ".tokeirc"))

-- The settings of a file's text; none without a file.
abbrev pub settings_of_file : List Row → Option (List ℕ) → Settings
settings_of_file rows None = empty
settings_of_file rows (Some text) = settings_of_text rows text

-- The settings of a folder; none without a folder.
abbrev pub settings_of_folder : List Row → Tree → Option (String Global) → Settings
settings_of_folder rows tree None = empty
settings_of_folder rows tree (Some place) =
    settings_of_file rows (file_text tree (names_of (string_bytes place)))

-- The configuration: of each member the first that is there of the current folder, the home folder
-- and the one for configuration.
abbrev pub configuration : List Row → Tree → ConfigDirs → Settings
configuration rows tree dirs =
    first_of_each (settings_of_folder rows tree dirs.current)
    (first_of_each (settings_of_folder rows tree dirs.home)
    (settings_of_folder rows tree dirs.config))
