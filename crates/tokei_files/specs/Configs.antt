-- What a configuration says of a run: which ignore rules are obeyed, and by what files are counted.
use Rattle.std.specs.Prelude.{ℕ, Bool, false, not, ◌||◌, List, Option, unwrap_or}
use Rattle.tokei_config.specs.Settings.{Settings}
use Rattle.tokei_folders.specs.Tree.{Tree}
use Rattle.tokei_files.specs.Paths.{rows_by}
use Rattle.tokei_table.specs.Row.{Row}
use Rattle.tokei_walk.specs.declared.kept_file.KeptFile.{KeptFile}
use Rattle.tokei_walk.specs.declared.levels.Rules.{Rules}
use Rattle.tokei_walk.specs.Kept.{kept_in}
use Rattle.tokei_walk.specs.Met.{noted_in}
use Rattle.tokei_walk.specs.Noted.{Noted}
use Rattle.tokei_walk.specs.Walks.{excludes_of}
use Rattle.tokei_files.specs.Files.{Counting}

-- a switch that isn't given is off
abbrev pub is_on : Option Bool → Bool
is_on switch = unwrap_or switch false

-- which ignore rules are obeyed: without ignore files none of their kinds is, and none above the
-- roots
abbrev pub rules_of : Settings → Rules
rules_of settings = record {
  parents = not (is_on settings.no_ignore || is_on settings.no_ignore_parent);
  dot = not (is_on settings.no_ignore || is_on settings.no_ignore_dot);
  git = not (is_on settings.no_ignore || is_on settings.no_ignore_vcs);
  hidden = not (is_on settings.hidden);
}

-- by what files are counted
abbrev pub counting_by : List Row → Settings → Counting
counting_by rows settings =
    record {
      rows = rows_by rows settings;
      docs =
          is_on settings.treat_doc_strings_as_comments;
      types = settings.types;
    }

-- what the walk over these roots of a known tree notes
unfoldable pub noted_by : Settings → Tree → List (List ℕ) → List (List ℕ) → List Noted
noted_by settings tree roots excludes =
    noted_in (excludes_of excludes) (rules_of settings) tree roots

-- the files of a known tree that are counted: those below the roots that the rules keep
unfoldable pub kept_by : Settings → Tree → List (List ℕ) → List (List ℕ) → List KeptFile
kept_by settings tree roots excludes = kept_in (excludes_of excludes) (rules_of settings) tree roots
