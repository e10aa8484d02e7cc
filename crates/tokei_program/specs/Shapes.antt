-- The shape of what the program writes where it did what was asked, whatever its folders hold and
-- whether they tell a tree.
use Rattle.std.specs.Prelude.{ℕ, List, Bool, true, false, Option, ◌⊎◌}
use Rattle.std.specs.Io.KnownBytes.{Appends}
use Rattle.tokei.specs.declared.job.Job.{Job}
use Rattle.tokei.specs.Shapes.{HasShape}
use Rattle.tokei_cli.specs.declared.cli.Cli.{Cli}
use Rattle.tokei_cli.specs.Lines.{IsLineOf}
use Rattle.tokei_cli.specs.Printing.{languages_text}
use Rattle.tokei_program.specs.Choices.{Chooses}
use Rattle.tokei_program.specs.Jobs.{IsJob}
use Rattle.tokei_program.specs.Writing.{WritesText}
use Rattle.tokei_table.specs.Row.{Row}

-- behind what stood there a writer has what a run writes that the command line gives, by some table
-- and configuration, with some languages from before
pub record CountsSome (line : Cli) (old new : Option (List ℕ)) : Type 0 where
  pub rows : List Row
  pub job : Job
  pub members : IsJob line job
  pub chosen : Chooses line job.wanted job.sort job.numbers
  pub shape : HasShape job.wanted rows job old new

-- behind what stood there a writer has the list of some table's languages
pub record ListsSome (old new : Option (List ℕ)) : Type 0 where
  pub rows : List Row
  pub appended : Appends old new (languages_text rows)

-- the list, where it is asked for, and else the counts
abbrev pub AnswersBy : Bool → Cli → Option (List ℕ) → Option (List ℕ) → Type 0
AnswersBy true line old new = ListsSome old new
AnswersBy false line old new = CountsSome line old new

-- what the command line of these words asks for
pub record AnswersLine (words : List (List ℕ)) (old new : Option (List ℕ)) : Type 0 where
  pub line : Cli
  pub spelled : IsLineOf words line
  pub answers : AnswersBy line.print_languages line old new

-- that, or the text of help or of the version
abbrev pub Answers : List (List ℕ) → Option (List ℕ) → Option (List ℕ) → Type 0
Answers words old new = WritesText old new ⊎ AnswersLine words old new
