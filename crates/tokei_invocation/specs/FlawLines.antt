-- The lines of configuration files that count as empty though they are there.
use Rattle.std.specs.Prelude.{ℕ, List, [], ◌++◌, codes, if◌then◌else◌, map}
use Rattle.log.specs.Level.{allows}
use Rattle.log.specs.Line.{header_text}
use Rattle.log.specs.declared.level.Level.TheVariants.{Warn}
use Rattle.tokei_cli.specs.declared.cli.Cli.{Cli}
use Rattle.tokei_config.specs.declared.flaws.Cause.{Cause}
use Rattle.tokei_config.specs.declared.flaws.Cause.TheVariants.{Unreadable, NotUtf8, NotToml, BadSetting}
use Rattle.tokei_config.specs.declared.flaws.Flaw.{Flaw}
use Rattle.tokei_config.specs.declared.flaws.Setting.{Setting}
use Rattle.tokei_config.specs.declared.flaws.Setting.TheVariants as setting
use Rattle.tokei_invocation.specs.NoteLines.{filter_of}
use Rattle.tokei_invocation.specs.Shown.{followed}
use Rattle.tokei_stats.specs.Shown.{shown}

-- what is wrong with a member
abbrev pub words_of_setting : Setting → List ℕ
words_of_setting setting.Columns = codes "'columns' is no number of columns"
words_of_setting setting.Hidden = codes "'hidden' is neither true nor false"
words_of_setting setting.NoIgnore = codes "'no_ignore' is neither true nor false"
words_of_setting setting.NoIgnoreParent = codes "'no_ignore_parent' is neither true nor false"
words_of_setting setting.NoIgnoreDot = codes "'no_ignore_dot' is neither true nor false"
words_of_setting setting.NoIgnoreVcs = codes "'no_ignore_vcs' is neither true nor false"
words_of_setting setting.TreatDocStringsAsComments =
    codes "'treat_doc_strings_as_comments' is neither true nor false"
words_of_setting setting.Sort = codes "'sort' is no column"
words_of_setting setting.Types = codes "'types' is no list of languages"
words_of_setting setting.Languages =
    codes "'languages' is no table of languages and their extensions"

-- why a file counts as empty
abbrev pub words_of_cause : Cause → List ℕ
words_of_cause Unreadable = codes "it can't be read"
words_of_cause NotUtf8 = codes "it isn't UTF-8"
words_of_cause NotToml = codes "it isn't TOML"
words_of_cause (BadSetting s) = words_of_setting s

-- the same, with what else is known of it
abbrev pub explained : Flaw → List ℕ
explained flaw = followed (words_of_cause flaw.cause) flaw.detail

-- what has happened
unfoldable pub happened : List ℕ
happened = codes "configuration counts as empty"

-- the file, and why
abbrev pub told_of : Flaw → List ℕ
told_of flaw = shown flaw.place ++ (codes ": " ++ explained flaw)

-- `[WARN  configuration counts as empty] ./tokei.toml: 'sort' is no column`
abbrev pub flaw_line : Flaw → List ℕ
flaw_line flaw = header_text Warn happened ++ told_of flaw

-- a line of each, where warnings are shown
abbrev pub flaw_lines : Cli → List Flaw → List (List ℕ)
flaw_lines line flaws = if allows (filter_of line.verbose) Warn then map flaw_line flaws else []
