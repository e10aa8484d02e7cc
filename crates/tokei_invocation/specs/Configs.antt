-- The configuration that a command line and an environment make.
use Rattle.std.specs.Prelude.{◌≡◌, List}
use Rattle.tokei_cli.specs.declared.cli.Cli.{Cli}
use Rattle.tokei_cli.specs.Overriding.{overridden}
use Rattle.tokei_config.specs.declared.config.Config.{Config}
use Rattle.tokei_config.specs.declared.files.ConfigDirs.{ConfigDirs}
use Rattle.tokei_config.specs.declared.flaws.Flaw.{Flaw}
use Rattle.tokei_config.specs.Files.{configuration}
use Rattle.tokei_config.specs.Flaws.{flaws_of, placed_causes}
use Rattle.tokei_config.specs.Seen.{settings_of}
use Rattle.tokei_folders.specs.Tree.{Tree}
use Rattle.tokei_invocation.specs.declared.environment.Env.{Env}
use Rattle.tokei_invocation.specs.Directories.{AreDirs}
use Rattle.tokei_table.specs.Row.{Row}

-- the configuration of a user's files, with the options above it
pub record IsConfig (rows : List Row) (line : Cli) (env : Env) (tree : Tree)
    (config : Config) : Type 0 where
  pub dirs : ConfigDirs
  pub found : AreDirs env dirs
  pub settings : settings_of config ≡ overridden rows line (configuration rows tree dirs)

-- the configuration files that count as empty though they are there
pub record AreFlaws (rows : List Row) (env : Env) (tree : Tree) (flaws : List Flaw) : Type 0 where
  pub dirs : ConfigDirs
  pub found : AreDirs env dirs
  pub are : placed_causes flaws ≡ flaws_of rows tree dirs
