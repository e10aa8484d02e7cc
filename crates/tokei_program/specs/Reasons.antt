-- Why the program fails: of each ending with status 1, what has to be true for it to be told. In
-- each case memory may run out instead.
use Rattle.std.specs.Prelude.{◌≡◌, ◌<◌, ◌⊎◌, ℕ, List, Bool, true, false, Option, Some, Ok}
use Rattle.tokei.specs.declared.job.Job.{Job}
use Rattle.tokei.specs.Sums.{Fits}
use Rattle.tokei_cli.specs.CommandLines.{file_input_of, inputs_of}
use Rattle.tokei_cli.specs.declared.cli.Cli.{Cli}
use Rattle.tokei_cli.specs.Lines.{IsLineOf}
use Rattle.tokei_folders.specs.Tree.{Tree}
use Rattle.tokei_invocation.specs.declared.ending.Ending.{Ending}
use Rattle.tokei_invocation.specs.declared.environment.Env.{Env}
use Rattle.tokei_invocation.specs.Endings.{IsEndingAt, IsEndingOfEarlier, IsEndingOfRoots}
use Rattle.tokei_invocation.specs.Messages.{SaysOf}
use Rattle.tokei_invocation.specs.OutputEndings.{is_out_of_memory, IsEndingOfOutput}
use Rattle.tokei_invocation.specs.Tables.{content_at, place_of_table, table_at}
use Rattle.tokei_program.specs.Jobs.{IsJobOf}
use Rattle.tokei_table.specs.Row.{Row}

-- a writer has counted a further fault, where it could have
abbrev pub HasFault : {W : Type 0} → (W → ℕ) → W → W → Type 0
HasFault faults old new = faults old < 18446744073709551615 → faults old < faults new

-- no table was taken from the place of the table
abbrev pub IsEndingOfPlace : Cli → Env → Tree → Ending → Type 0
IsEndingOfPlace line env tree ending =
    IsEndingAt (place_of_table env line) (content_at tree (place_of_table env line)) ending

-- where no run was made of a command line: its earlier results weren't taken, or nothing stands at
-- one of its roots
abbrev pub IsEndingBefore : List Row → Cli → Tree → Option (List ℕ) → Type 0 → Ending → Type 0
IsEndingBefore rows line tree input Failed ending =
    (is_out_of_memory ending ≡ true)
    ⊎ (IsEndingOfEarlier rows tree input Failed (file_input_of line) ending
    ⊎ IsEndingOfRoots tree (inputs_of line) ending)

-- the run of a command line ended: a sum of it passes the greatest `usize`, or its writer had a
-- fault
pub record IsEndingOfRun (rows : List Row) (line : Cli) (env : Env) (tree : Tree)
    (input : Option (List ℕ)) (Fault : Type 0) (ending : Ending) : Type 0 where
  pub job : Job
  pub is : IsJobOf rows line env tree input job
  pub ended : IsEndingOfOutput (¬ Fits job.wanted rows job tree) Fault ending

-- the table was taken, and counting or writing failed
pub record IsEndingByTable (line : Cli) (env : Env) (tree : Tree) (input : Option (List ℕ))
    (Failed Fault : Type 0) (ending : Ending) : Type 0 where
  pub rows : List Row
  pub table : table_at tree (place_of_table env line) ≡ Some (Ok rows)
  pub ended :
      IsEndingBefore rows line tree input Failed ending
      ⊎ IsEndingOfRun rows line env tree input Fault ending

-- of a command line that asks for the list, where that is so, and else for counts
abbrev pub IsEndingBy : Bool → Cli → Env → Tree → Option (List ℕ) → Type 0 → Type 0 → Ending
    → Type 0
IsEndingBy true line env tree input Failed Fault ending =
    IsEndingOfPlace line env tree ending ⊎ IsEndingOfOutput ⊥ Fault ending
IsEndingBy false line env tree input Failed Fault ending =
    IsEndingOfPlace line env tree ending
    ⊎ IsEndingByTable line env tree input Failed Fault ending

-- of the command line of these words
pub record IsEndingOfLine (words : List (List ℕ)) (env : Env) (tree : Tree)
    (input : Option (List ℕ)) (Failed Fault : Type 0) (ending : Ending) : Type 0 where
  pub line : Cli
  pub spelled : IsLineOf words line
  pub ended : IsEndingBy line.print_languages line env tree input Failed Fault ending

-- of these words: the text of help or of the version couldn't be written, or it is that of their
-- command line
abbrev pub IsEndingOf : List (List ℕ) → Env → Tree → Option (List ℕ) → Type 0 → Type 0 → Ending
    → Type 0
IsEndingOf words env tree input Failed Fault ending =
    IsEndingOfOutput ⊥ Fault ending ⊎ IsEndingOfLine words env tree input Failed Fault ending

-- behind what stood there a writer has what is said of an ending that is true of these words, and
-- nothing else
pub record SaysWhy (words : List (List ℕ)) (env : Env) (tree : Tree) (input : Option (List ℕ))
    (Failed Fault : Type 0) (old new : Option (List ℕ)) : Type 0 where
  pub ending : Ending
  pub is : IsEndingOf words env tree input Failed Fault ending
  pub says : SaysOf ending old new
