-- What the program says beside what was asked for: notes of what was passed over.
use Rattle.std.specs.Prelude.{◌≡◌, ℕ, List, [], Bool, true, false, Option, Some, Ok, ◌⊎◌, map}
use Rattle.std.specs.Io.KnownBytes.{Appends}
use Rattle.tokei_cli.specs.CommandLines.{excludes_of}
use Rattle.tokei_cli.specs.declared.cli.Cli.{Cli}
use Rattle.tokei_cli.specs.Lines.{IsLineOf}
use Rattle.tokei_folders.specs.Tree.{Tree}
use Rattle.tokei_invocation.specs.declared.environment.Env.{Env}
use Rattle.tokei_config.specs.declared.flaws.Flaw.{Flaw}
use Rattle.tokei.specs.declared.job.Job.{Job}
use Rattle.tokei.specs.JobNotes.{AreNotesOf}
use Rattle.tokei_invocation.specs.Configs.{AreFlaws, IsConfig}
use Rattle.tokei_invocation.specs.NotesText.{passed_text}
use Rattle.tokei_invocation.specs.Shown.{AreShown, shown_note}
use Rattle.tokei_invocation.specs.Tables.{place_of_table, table_at}
use Rattle.tokei_program.specs.Jobs.{IsJob}
use Rattle.tokei_program.specs.Writing.{WritesText}
use Rattle.tokei_table.specs.Row.{Row}
use Rattle.tokei_walk.specs.declared.kept_file.Note.{Note}
use Rattle.tokei_walk.specs.Notes.{Grows, notes_of_excludes}

-- which rows are those of a command line's table, which configuration files count as empty, and how
-- the notes of a run are shown
abbrev pub Met : Type 1
Met = Cli → List Row → List Flaw → List Note → List Note → Type 0

-- any rows and files, where the folders tell no tree; and a note may have words behind its place
abbrev pub AnyMet : Met
AnyMet c rows flaws notes as_shown = AreShown notes as_shown

-- the rows of the table's file, the configuration files that are there and count as empty, and the
-- notes of the job of a command line; and no note has words behind its place
pub record AreMet (env : Env) (tree : Tree) (line : Cli) (rows : List Row) (flaws : List Flaw)
    (notes as_shown : List Note) : Type 0 where
  pub table : table_at tree (place_of_table env line) ≡ Some (Ok rows)
  pub empty : AreFlaws rows env tree flaws
  pub job : Job
  pub members : IsJob line job
  pub config : IsConfig rows line env tree job.config
  pub noted : AreNotesOf rows job tree notes
  pub plain : as_shown ≡ map shown_note notes

-- those of a known tree
abbrev pub MetIn : Env → Tree → Met
MetIn env tree c rows flaws notes as_shown = AreMet env tree c rows flaws notes as_shown

-- a text shows what a command line passes over: the notes of a run, of which those of the excludes
-- come first, the configuration files that count as empty, and the words that name no language of
-- the table
pub record ShowsNotes (met : Met) (line : Cli) (text : List ℕ) : Type 0 where
  pub rows : List Row
  pub flaws : List Flaw
  pub notes : List Note
  pub first : Grows (notes_of_excludes (excludes_of line)) notes
  pub as_shown : List Note
  pub are : met line rows flaws notes as_shown
  pub shown : text ≡ passed_text rows line as_shown flaws

-- beside the list of languages, where it is asked for, nothing is said, and else notes
abbrev pub ShowsBy : Met → Bool → Cli → List ℕ → Type 0
ShowsBy met true cli text = text ≡ []
ShowsBy met false cli text = ShowsNotes met cli text

-- a text is what is said beside what a command line asks for
abbrev pub ShowsAsked : Met → Cli → List ℕ → Type 0
ShowsAsked met cli text = ShowsBy met cli.print_languages cli text

-- a text is what is said beside what the command line of these words asks for
pub record ShowsLine (met : Met) (words : List (List ℕ)) (text : List ℕ) : Type 0 where
  pub line : Cli
  pub spelled : IsLineOf words line
  pub shows : ShowsAsked met line text

-- nothing is said, where a writer has gained the text of help or of the version
pub record IsSilent (old new : Option (List ℕ)) (text : List ℕ) : Type 0 where
  pub asked : WritesText old new
  pub empty : text ≡ []

-- a text is what is said beside the answer to these words, which a writer has gained
abbrev pub IsBeside : Met → List (List ℕ) → Option (List ℕ) → Option (List ℕ) → List ℕ → Type 0
IsBeside met words old new text = IsSilent old new text ⊎ ShowsLine met words text

-- behind what stood there the second writer has what is said beside the answer, which the first one
-- has gained, and nothing else
pub record SaysBeside (met : Met) (words : List (List ℕ))
    (old_out new_out old_err new_err : Option (List ℕ)) : Type 0 where
  pub text : List ℕ
  pub beside : IsBeside met words old_out new_out text
  pub appended : Appends old_err new_err text
