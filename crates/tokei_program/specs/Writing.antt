-- What the program writes where it did what was asked.
use Rattle.std.specs.Prelude.{◌≡◌, ◌≢◌, ℕ, List, [], Bool, true, false, Option, Some, Ok, ◌⊎◌}
use Rattle.std.specs.Io.KnownBytes.{Appends}
use Rattle.tokei.specs.declared.job.Job.{Job}
use Rattle.tokei.specs.Output.{Outputs}
use Rattle.tokei_cli.specs.CommandLines.{inputs_of}
use Rattle.tokei_cli.specs.declared.cli.Cli.{Cli}
use Rattle.tokei_cli.specs.Lines.{IsLineOf}
use Rattle.tokei_cli.specs.Printing.{languages_text}
use Rattle.tokei_cli.specs.Texts.{IsAskedFor}
use Rattle.tokei_folders.specs.Tree.{Tree}
use Rattle.tokei_invocation.specs.declared.environment.Env.{Env}
use Rattle.tokei_program.specs.Jobs.{IsJobOf}
use Rattle.tokei_invocation.specs.Tables.{place_of_table, table_at}
use Rattle.tokei_table.specs.Row.{Row}

-- behind what stood there a writer has what the run of a command line outputs
pub record WritesCounts (line : Cli) (env : Env) (tree : Tree)
    (input old new : Option (List ℕ)) : Type 0 where
  pub rows : List Row
  pub table : table_at tree (place_of_table env line) ≡ Some (Ok rows)
  pub job : Job
  pub is : IsJobOf rows line env tree input job
  pub outputs : Outputs job.wanted rows job tree old new

-- behind what stood there a writer has the list of the table's languages
pub record WritesList (line : Cli) (env : Env) (tree : Tree)
    (old new : Option (List ℕ)) : Type 0 where
  pub rows : List Row
  pub table : table_at tree (place_of_table env line) ≡ Some (Ok rows)
  pub appended : Appends old new (languages_text rows)

-- the list, where it is asked for, and else the counts
abbrev pub WritesBy : Bool → Cli → Env → Tree → Option (List ℕ) → Option (List ℕ) → Option (List ℕ)
    → Type 0
WritesBy true cli env tree input old new = WritesList cli env tree old new
WritesBy false cli env tree input old new = WritesCounts cli env tree input old new

-- what a command line asks for is written
pub record WritesAsked (line : Cli) (env : Env) (tree : Tree)
    (input old new : Option (List ℕ)) : Type 0 where
  pub inputs : inputs_of line ≢ []
  pub written : WritesBy line.print_languages line env tree input old new

-- what the command line of these words asks for is written
pub record WritesLine (words : List (List ℕ)) (env : Env) (tree : Tree)
    (input old new : Option (List ℕ)) : Type 0 where
  pub line : Cli
  pub spelled : IsLineOf words line
  pub asked : WritesAsked line env tree input old new

-- the text of help or of the version is written
pub record WritesText (old new : Option (List ℕ)) : Type 0 where
  pub text : List ℕ
  pub asked : IsAskedFor text
  pub appended : Appends old new text

-- either of them
abbrev pub Writes : List (List ℕ) → Env → Tree → Option (List ℕ) → Option (List ℕ) → Option (List ℕ)
    → Type 0
Writes words env tree input old new = WritesText old new ⊎ WritesLine words env tree input old new
