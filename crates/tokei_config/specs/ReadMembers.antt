-- The members of a file that are read one after the other, up to the first that can't be read.
use Rattle.std.specs.Prelude.{◌≡◌, Option, Some, is_none, if◌then◌else◌, codes}
use Rattle.toml.specs.Data.{Members}
use Rattle.tokei_config.specs.Document.{columns_in, flag, sort_in}
use Rattle.tokei_config.specs.declared.document.FileFlags.{FileFlags}
use Rattle.tokei_config.specs.declared.document.SettingError.{SettingError}
use Rattle.tokei_config.specs.declared.document.SettingError.TheVariants as refused
use Rattle.tokei_config.specs.declared.document.Values.{Values}
use Rattle.tokei_config.specs.declared.flaws.Setting.{Setting}
use Rattle.tokei_config.specs.declared.flaws.Setting.TheVariants as setting

-- This setting where its member can't be read, else what is behind it.
abbrev pub bad_or : {X : Type 0} → Setting → Option X → Option Setting → Option Setting
bad_or s meant behind = if is_none meant then Some s else behind

-- The first flag for files that can't be read, else what is behind them.
abbrev pub bad_file_flag : Members → Option Setting → Option Setting
bad_file_flag ms behind =
    bad_or setting.Hidden (flag (codes "hidden") ms)
    (bad_or setting.NoIgnore (flag (codes "no_ignore") ms)
    (bad_or setting.NoIgnoreParent (flag (codes "no_ignore_parent") ms)
    (bad_or setting.NoIgnoreDot (flag (codes "no_ignore_dot") ms)
    (bad_or setting.NoIgnoreVcs (flag (codes "no_ignore_vcs") ms) behind))))

-- The first member of one value that can't be read, else what is behind them.
abbrev pub bad_value : Members → Option Setting → Option Setting
bad_value ms behind =
    bad_or setting.Columns (columns_in ms)
    (bad_file_flag ms
    (bad_or setting.TreatDocStringsAsComments (flag (codes "treat_doc_strings_as_comments") ms)
    (bad_or setting.Sort (sort_in ms) behind)))

-- A setting that is answered is the first, whatever is behind.
abbrev pub StopsAtFirst : (Option Setting → Option Setting) → SettingError → Type 0
StopsAtFirst first e =
    (s : Setting) → e ≡ refused.Bad s → (behind : Option Setting) → first behind ≡ Some s

-- These are the flags for files.
pub record AreFileFlags (ms : Members) (flags : FileFlags) : Type 0 where
  pub hidden : flag (codes "hidden") ms ≡ Some flags.hidden
  pub no_ignore : flag (codes "no_ignore") ms ≡ Some flags.no_ignore
  pub no_ignore_parent : flag (codes "no_ignore_parent") ms ≡ Some flags.no_ignore_parent
  pub no_ignore_dot : flag (codes "no_ignore_dot") ms ≡ Some flags.no_ignore_dot
  pub no_ignore_vcs : flag (codes "no_ignore_vcs") ms ≡ Some flags.no_ignore_vcs

-- These are the members of one value.
pub record AreValues (ms : Members) (values : Values) : Type 0 where
  pub columns : columns_in ms ≡ Some values.columns
  pub file_flags : AreFileFlags ms values.file_flags
  pub docs : flag (codes "treat_doc_strings_as_comments") ms
      ≡ Some values.treat_doc_strings_as_comments
  pub sort : sort_in ms ≡ Some values.sort
