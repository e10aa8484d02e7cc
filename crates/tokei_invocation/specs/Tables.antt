-- The table of languages that a command line or an environment names.
use Rattle.std.specs.Prelude.{ℕ, List, Option, option_map, unwrap_or, Result, codes}
use Rattle.std.specs.Option.{option_or}
use Rattle.tokei_cli.specs.CommandLines.{table_of}
use Rattle.tokei_cli.specs.declared.cli.Cli.{Cli}
use Rattle.tokei_folders.specs.Answers.{node_content}
use Rattle.tokei_folders.specs.Tree.{Tree, names_of, node_at}
use Rattle.tokei_invocation.specs.declared.environment.Env.{Env}
use Rattle.tokei_invocation.specs.Directories.{text_of}
use Rattle.tokei_table_json.specs.declared.error.TableError.{TableError}
use Rattle.tokei_table_json.specs.Outcome.{outcome}
use Rattle.tokei_table.specs.Row.{Row}

-- the table in the current folder, for where neither of them names one
abbrev pub default_table : List ℕ
default_table = codes "languages.json"

-- the place of the table: that of the option, else that of the environment
abbrev pub place_of_table : Env → Cli → List ℕ
place_of_table env line = unwrap_or (option_or (table_of line) (text_of env.table)) default_table

-- the content of the file at a place, where one stands there that can be read
abbrev pub content_at : Tree → List ℕ → Option (List ℕ)
content_at tree place = node_content (node_at tree (names_of place))

-- what reading the table at a place answers, where a file stands there that can be read
abbrev pub table_at : Tree → List ℕ → Option (Result (List Row) TableError)
table_at tree place = option_map outcome (content_at tree place)
