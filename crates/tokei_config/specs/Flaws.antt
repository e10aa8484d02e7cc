-- Why configuration files count as empty.
use Rattle.std.specs.Prelude.{ℕ, List, [], ◌∷◌, ◌++◌, Bool, Option, Some, None, is_none, is_some, map, option_map, String, string_bytes, if◌then◌else◌, codes}
use Rattle.std.specs.Global.{Global}
use Rattle.std.specs.Str.{is_utf8}
use Rattle.toml.specs.Data.{Members}
use Rattle.toml.specs.Parse.{parse_document}
use Rattle.tokei_config.specs.Document.{columns_in, flag, sort_in, types_in, languages_in}
use Rattle.tokei_config.specs.Files.{text_at}
use Rattle.tokei_config.specs.Found.{file_found}
use Rattle.tokei_config.specs.declared.files.ConfigDirs.{ConfigDirs}
use Rattle.tokei_config.specs.declared.flaws.Cause.{Cause}
use Rattle.tokei_config.specs.declared.flaws.Cause.TheVariants.{Unreadable, NotUtf8, NotToml, BadSetting}
use Rattle.tokei_config.specs.declared.flaws.Flaw.{Flaw}
use Rattle.tokei_config.specs.declared.flaws.Setting.{Setting}
use Rattle.tokei_config.specs.declared.flaws.Setting.TheVariants as setting
use Rattle.tokei_folders.specs.Places.{joined}
use Rattle.tokei_folders.specs.Tree.{Tree, names_of, node_at}
use Rattle.tokei_table.specs.Row.{Row}

-- The first member, in this order, that is of a wrong kind or names what isn't known.
abbrev pub bad_setting : List Row → Members → Option Setting
bad_setting rows ms =
    if is_none (columns_in ms) then Some setting.Columns
    else (if is_none (flag (codes "hidden") ms) then Some setting.Hidden
    else (if is_none (flag (codes "no_ignore") ms) then Some setting.NoIgnore
    else (if is_none (flag (codes "no_ignore_parent") ms) then Some setting.NoIgnoreParent
    else (if is_none (flag (codes "no_ignore_dot") ms) then Some setting.NoIgnoreDot
    else (if is_none (flag (codes "no_ignore_vcs") ms) then Some setting.NoIgnoreVcs
    else (if is_none (flag (codes "treat_doc_strings_as_comments") ms)
    then Some setting.TreatDocStringsAsComments
    else (if is_none (sort_in ms) then Some setting.Sort
    else (if is_none (types_in rows ms) then Some setting.Types
    else (if is_none (languages_in rows ms) then Some setting.Languages else None)))))))))

-- Why what TOML makes of a text counts as empty, if it does.
abbrev pub cause_of_reading : List Row → Option Members → Option Cause
cause_of_reading rows None = Some NotToml
cause_of_reading rows (Some ms) = option_map BadSetting (bad_setting rows ms)

-- Why a text does.
unfoldable pub cause_of_text : List Row → List ℕ → Option Cause
cause_of_text rows text = cause_of_reading rows (parse_document text)

-- Why the bytes of a file do.
abbrev pub cause_of_bytes : List Row → List ℕ → Option Cause
cause_of_bytes rows bytes = if is_utf8 bytes then cause_of_text rows bytes else Some NotUtf8

-- Why what there is of a file does.
abbrev pub cause_of_found : List Row → Option (Option (List ℕ)) → Option Cause
cause_of_found rows None = None
cause_of_found rows (Some None) = Some Unreadable
cause_of_found rows (Some (Some bytes)) = cause_of_bytes rows bytes

-- Why the file of that name in a folder does.
abbrev pub cause_at : List Row → Tree → List ℕ → List ℕ → Option Cause
cause_at rows tree place name =
    cause_of_found rows (file_found (node_at tree (names_of place ++ names_of name)))

-- A file's place, and why it counts as empty.
abbrev pub PlacedCause : Type 0
PlacedCause = List ℕ × Cause

-- The file of that name, where it counts as empty though it is there.
abbrev pub flaw_at : List Row → Tree → List ℕ → List ℕ → Option PlacedCause
flaw_at rows tree place name =
    option_map (λ c. (joined place name, c)) (cause_at rows tree place name)

-- No item, or one.
abbrev pub listed : {X : Type 0} → Option X → List X
listed None = []
listed (Some x) = x ∷ []

-- The second file of a folder, which is read where the first one has no text.
abbrev pub second_flaw : List Row → Tree → List ℕ → Bool → List PlacedCause
second_flaw rows tree place first_is_text =
    if first_is_text then [] else listed (flaw_at rows tree place (codes ".tokeirc"))

-- The files of a folder that are read and count as empty.
abbrev pub flaws_in : List Row → Tree → Option (String Global) → List PlacedCause
flaws_in rows tree None = []
flaws_in rows tree (Some dir) =
    listed (flaw_at rows tree (string_bytes dir) (codes "tokei.toml"))
    ++ second_flaw rows tree (string_bytes dir)
    (is_some (text_at tree (names_of (string_bytes dir)) (codes "tokei.toml")))

-- Those of the current folder, of the home folder, and of the one for configuration.
abbrev pub flaws_of : List Row → Tree → ConfigDirs → List PlacedCause
flaws_of rows tree dirs =
    flaws_in rows tree dirs.current ++
    (flaws_in rows tree dirs.home ++ flaws_in rows tree dirs.config)

-- The place and the cause of each flaw.
abbrev pub placed_cause : Flaw → PlacedCause
placed_cause flaw = (flaw.place, flaw.cause)

-- The same of all of them, in order.
abbrev pub placed_causes : List Flaw → List PlacedCause
placed_causes = map placed_cause
