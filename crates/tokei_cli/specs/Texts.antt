-- What a command line answers where nothing is counted: the text of help or of the version where
-- that was asked for, else why it is refused. For each of them memory may run out.
use Rattle.std.specs.Prelude.{◌≡◌, ℕ, List, string_bytes, ⊤, ◌⊎◌}
use Rattle.clap.specs.declared.error.kind.ErrorKind.{ErrorKind}
use Rattle.clap.specs.declared.error.kind.ErrorKind.TheVariants.{DisplayHelp, DisplayVersion, OutOfMemory}
use Rattle.tokei_cli.specs.declared.cli_error.CliError.{CliError}
use Rattle.tokei_cli.specs.declared.cli_error.CliError.TheVariants.{Memory, Refused, Asked}
use Rattle.tokei_cli.specs.declared.help.TheConstants.{HELP, VERSION_LINE}

-- the text of help
unfoldable pub help_text : List ℕ
help_text = HELP.now

-- the line of the version
unfoldable pub version_line : List ℕ
version_line = VERSION_LINE.now

-- this text was asked for
abbrev pub Shows : List ℕ → CliError → Type 0
Shows shown Memory = ⊤
Shows shown (Refused text) = ⊥
Shows shown (Asked text) = string_bytes text ≡ shown

-- no text was asked for
abbrev pub Refuses : CliError → Type 0
Refuses Memory = ⊤
Refuses (Refused text) = ⊤
Refuses (Asked text) = ⊥

-- what each kind of error answers
abbrev pub Answers : ErrorKind → CliError → Type 0
Answers DisplayHelp error = Shows help_text error
Answers DisplayVersion error = Shows version_line error
Answers OutOfMemory error = error ≡ Memory
Answers kind error = Refuses error

-- a text that may be asked for
abbrev pub IsAskedFor : List ℕ → Type 0
IsAskedFor text = (text ≡ help_text) ⊎ (text ≡ version_line)

-- a text that was asked for is that of help or of the version
abbrev pub IsShown : CliError → Type 0
IsShown Memory = ⊤
IsShown (Refused text) = ⊤
IsShown (Asked text) = IsAskedFor (string_bytes text)
