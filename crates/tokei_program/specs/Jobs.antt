-- The run that a command line asks for.
use Rattle.std.specs.Prelude.{◌≡◌, ℕ, List, Option}
use Rattle.tokei.specs.declared.job.Job.{Job}
use Rattle.tokei_cli.specs.CommandLines.{inputs_of, excludes_of, file_input_of}
use Rattle.tokei_cli.specs.declared.cli.Cli.{Cli}
use Rattle.tokei_folders.specs.Tree.{Tree}
use Rattle.tokei_invocation.specs.Configs.{IsConfig}
use Rattle.tokei_invocation.specs.declared.environment.Env.{Env}
use Rattle.tokei_invocation.specs.Earlier.{AreEarlier}
use Rattle.tokei_invocation.specs.Roots.{AllStand}
use Rattle.tokei_program.specs.Choices.{Chooses}
use Rattle.tokei_program.specs.Columns.{columns_of}
use Rattle.tokei_table.specs.Row.{Row}
use Rattle.tokei_walk.specs.Walks.{texts_of}

-- the members of a run that the command line gives
pub record IsJob (line : Cli) (job : Job) : Type 0 where
  pub paths : texts_of job.paths.items ≡ inputs_of line
  pub ignored : texts_of job.ignored.items ≡ excludes_of line
  pub columns : job.columns ≡ columns_of line.columns job.config.columns
  pub files : job.files ≡ line.files
  pub compact : job.compact ≡ line.compact
  pub reverse : job.reverse ≡ line.sort_reverse

-- the run of a command line, in an environment, over a known tree and what stands on standard input
pub record IsJobOf (rows : List Row) (line : Cli) (env : Env) (tree : Tree)
    (input : Option (List ℕ))
    (job : Job) : Type 0 where
  pub members : IsJob line job
  pub chosen : Chooses line job.wanted job.sort job.numbers
  pub config : IsConfig rows line env tree job.config
  pub earlier : AreEarlier rows tree input (file_input_of line) job.earlier
  pub roots : AllStand tree (inputs_of line)
