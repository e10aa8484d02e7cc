-- The folders in which configuration files are looked for.
use Rattle.std.specs.Prelude.{◌≡◌, ℕ, ◌==◌, List, [], ◌∷◌, ◌++◌, Bool, false, Option, None, Some, option_map, String, string_bytes, codes, if◌then◌else◌}
use Rattle.std.specs.Global.{Global}
use Rattle.tokei_config.specs.declared.files.ConfigDirs.{ConfigDirs}
use Rattle.tokei_invocation.specs.declared.environment.Env.{Env}

-- the bytes of a text, where there is one
abbrev pub text_of : Option (String Global) → Option (List ℕ)
text_of text = option_map string_bytes text

-- a place that begins with `/`
abbrev pub is_absolute : List ℕ → Bool
is_absolute [] = false
is_absolute (b ∷ bs) = b == 47

-- the folder for configuration below the user's own
abbrev pub in_home : List ℕ → List ℕ
in_home home = home ++ codes "/.config"

-- the user's folder for configuration: the one that is named, where its place is absolute, else the
-- one in the user's own
abbrev pub config_folder_of : Option (List ℕ) → Option (List ℕ) → Option (List ℕ)
config_folder_of None home = option_map in_home home
config_folder_of (Some folder) home =
    if is_absolute folder then Some folder else option_map in_home home

-- the folders of an environment
pub record AreDirs (env : Env) (dirs : ConfigDirs) : Type 0 where
  pub config :
      text_of dirs.config ≡ config_folder_of (text_of env.xdg_config_home) (text_of env.home)
  pub home : text_of dirs.home ≡ text_of env.home
  pub current : text_of dirs.current ≡ Some (codes ".")
