-- What a program that has failed leaves on its first writer, where that had no fault: what it held,
-- all of what was asked for, or the first rows of a stream.
use Rattle.std.specs.Prelude.{◌≡◌, ◌<◌, ℕ, List, Option, Some, Ok, ◌⊎◌}
use Rattle.tokei.specs.declared.job.Job.{Job}
use Rattle.tokei.specs.Refused.{IsBegun}
use Rattle.tokei_cli.specs.declared.cli.Cli.{Cli}
use Rattle.tokei_cli.specs.Lines.{IsLineOf}
use Rattle.tokei_folders.specs.Tree.{Tree}
use Rattle.tokei_invocation.specs.declared.environment.Env.{Env}
use Rattle.tokei_invocation.specs.Tables.{place_of_table, table_at}
use Rattle.tokei_program.specs.Jobs.{IsJobOf}
use Rattle.tokei_program.specs.Writing.{Writes, WritesAsked, WritesCounts}
use Rattle.tokei_table.specs.Row.{Row}

-- a writer has counted no fault, and could have
abbrev pub HasNoFault : {W : Type 0} → (W → ℕ) → W → W → Type 0
HasNoFault faults old new = (faults old < 18446744073709551615) × (faults new ≡ faults old)

-- the run of a command line has written nothing of a document or a report, and of a stream nothing,
-- or its heading and the rows of the first files
pub record BeginsCounts (line : Cli) (env : Env) (tree : Tree)
    (input old new : Option (List ℕ)) : Type 0 where
  pub rows : List Row
  pub table : table_at tree (place_of_table env line) ≡ Some (Ok rows)
  pub job : Job
  pub is : IsJobOf rows line env tree input job
  pub begun : IsBegun job.wanted rows job tree old new

-- the run of the command line of these words
pub record BeginsLine (words : List (List ℕ)) (env : Env) (tree : Tree)
    (input old new : Option (List ℕ)) : Type 0 where
  pub line : Cli
  pub spelled : IsLineOf words line
  pub begins : BeginsCounts line env tree input old new

-- what a refused run of a command line leaves
abbrev pub LeavesCounts : Cli → Env → Tree → Option (List ℕ) → Option (List ℕ) → Option (List ℕ)
    → Type 0
LeavesCounts line env tree input old new =
    (new ≡ old)
    ⊎ (WritesCounts line env tree input old new ⊎ BeginsCounts line env tree input old new)

-- what is left where a command line asks for the list or for counts
abbrev pub LeavesAsked : Cli → Env → Tree → Option (List ℕ) → Option (List ℕ) → Option (List ℕ)
    → Type 0
LeavesAsked line env tree input old new =
    (new ≡ old)
    ⊎ (WritesAsked line env tree input old new ⊎ BeginsCounts line env tree input old new)

-- what is left of the answer to these words
abbrev pub Leaves : List (List ℕ) → Env → Tree → Option (List ℕ) → Option (List ℕ) → Option (List ℕ)
    → Type 0
Leaves words env tree input old new =
    (new ≡ old)
    ⊎ (Writes words env tree input old new ⊎ BeginsLine words env tree input old new)
