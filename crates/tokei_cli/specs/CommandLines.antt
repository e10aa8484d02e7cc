-- A command line as read, and what it answers where nothing is counted.
use Rattle.std.specs.Prelude.{ℕ, List, Option, option_map, map, string_bytes}
use Rattle.tokei_cli.specs.declared.cli.Cli.{Cli}
use Rattle.tokei_cli.specs.declared.cli_error.CliError.{CliError}
use Rattle.tokei_cli.specs.declared.cli_error.CliError.TheVariants.{Memory, Refused, Asked}

-- the exit status of a command line that isn't run
abbrev pub status_of : CliError → ℕ
status_of Memory = 1
status_of (Refused text) = 2
status_of (Asked text) = 0

-- the files and folders to be counted
abbrev pub inputs_of : Cli → List (List ℕ)
inputs_of line = map string_bytes line.input.items

-- the patterns of what is left out
abbrev pub excludes_of : Cli → List (List ℕ)
excludes_of line = map string_bytes line.exclude.items

-- where earlier results are read from
abbrev pub file_input_of : Cli → Option (List ℕ)
file_input_of line = option_map string_bytes line.file_input

-- the file of the table of languages, where one is named
abbrev pub table_of : Cli → Option (List ℕ)
table_of line = option_map string_bytes line.table
