-- The rules that a folder's ignore files give, and what the rules of folders inside one another
-- decide.
use Rattle.std.specs.Prelude.{ℕ, ◌&&◌, ◌||◌, List, [], ◌∷◌, ◌++◌, Bool, true, false, Option, Some, None, is_some, if◌then◌else◌, cond, codes}
use Rattle.std.specs.List.{list_any}
use Rattle.tokei_folders.specs.declared.nodes.Node.{Node}
use Rattle.tokei_folders.specs.declared.nodes.Node.TheVariants.{File as file, Folder as folder}
use Rattle.tokei_walk.specs.declared.levels.Rules.{Rules}
use Rattle.tokei_walk.specs.declared.levels.Level.{Level}
use Rattle.tokei_walk.specs.declared.levels.IgnoreKind.{IgnoreKind}
use Rattle.tokei_walk.specs.declared.levels.IgnoreKind.TheVariants.{Tokeignore, Plain, Gitignore, GitExclude}
use Rattle.tokei_walk.specs.declared.levels.Context.{Context}
use Rattle.tokei_ignore.specs.declared.patterns.Pattern.{Pattern}
use Rattle.tokei_ignore.specs.declared.ignore_files.Verdict.{Verdict}
use Rattle.tokei_ignore.specs.declared.ignore_files.Verdict.TheVariants.{Ignore, Keep}
use Rattle.tokei_folders.specs.Ends.{without_first, begins_with}
use Rattle.tokei_ignore.specs.IgnoreFiles.{patterns_of, last_fitting, or_else}
use Rattle.tokei_ignore.specs.Patterns.{fits_entry}
use Rattle.tokei_folders.specs.Tree.{Names, Tree, node_at, dot}

-- an ignore file that is missing, is no file or can't be read gives no pattern
abbrev pub patterns_at : Option Node → List Pattern
patterns_at None = []
patterns_at (Some (folder r)) = []
patterns_at (Some (file r h content)) = cond r [] (patterns_of content)

-- the patterns of the file that these names lead to from a folder
unfoldable pub ignore_file_at : Tree → Names → Names → List Pattern
ignore_file_at tree place names = patterns_at (node_at tree (place ++ names))

-- a folder with an entry `.git` is the top of a repository
unfoldable pub has_git : Tree → Names → Bool
has_git tree names = is_some (node_at tree (names ++ codes ".git" ∷ []))

-- the rules of a folder; a kind that is switched off has no pattern
unfoldable pub level_at : Tree → Rules → Names → Level
level_at tree rules names = record {
  tokeignore = if rules.dot then ignore_file_at tree names (codes ".tokeignore" ∷ []) else [];
  ignore = if rules.dot then ignore_file_at tree names (codes ".ignore" ∷ []) else [];
  gitignore = if rules.git then ignore_file_at tree names (codes ".gitignore" ∷ []) else [];
  git_exclude =
      if rules.git && has_git tree names
      then ignore_file_at tree names (codes ".git" ∷ codes "info" ∷ codes "exclude" ∷ [])
      else [];
  git = rules.git && has_git tree names;
}

-- the patterns of a level that come from one kind of ignore file
abbrev pub patterns_from : IgnoreKind → Level → List Pattern
patterns_from Tokeignore level = level.tokeignore
patterns_from Plain level = level.ignore
patterns_from Gitignore level = level.gitignore
patterns_from GitExclude level = level.git_exclude

-- whether there is a pattern
abbrev pub has_some : List Pattern → Bool
has_some [] = false
has_some (p ∷ ps) = true

-- whether the ignore files of a folder have a pattern
abbrev pub has_patterns : Level → Bool
has_patterns level =
    has_some level.tokeignore
    || (has_some level.ignore || (has_some level.gitignore || has_some level.git_exclude))

-- from the top down: what a nearer folder decides takes the place of what those above decided; the
-- names are those from the first folder down to the entry
abbrev pub decision : IgnoreKind → List Level → Names → Bool → Option Verdict → Option Verdict
decision source [] names is_folder found = found
decision source (l ∷ ls) names is_folder found =
    decision source ls (without_first names) is_folder
    (or_else (last_fitting (patterns_from source l) names is_folder) found)

-- the folders from the nearest one with an entry `.git` on, with the names from there; none without
-- one
abbrev pub in_repository : List Level → Names → List Level × Names → List Level × Names
in_repository [] names found = found
in_repository (l ∷ ls) names found =
    in_repository ls (without_first names) (if l.git then (l ∷ ls, names) else found)

-- the levels of the repository around an entry, and the names from its folder down
abbrev pub repository : List Level → Names → List Level × Names
repository ls names = in_repository ls names ([], [])

-- the kinds of ignore files, in their order; git's two hold in the repository alone
unfoldable pub decided : List Level → Names → Bool → Option Verdict
decided ls names is_folder =
    or_else (decision Tokeignore ls names is_folder None)
    (or_else (decision Plain ls names is_folder None)
    (or_else (decision Gitignore (repository ls names).0 (repository ls names).1 is_folder None)
    (decision GitExclude (repository ls names).0 (repository ls names).1 is_folder None)))

-- where no ignore file decides, a name that begins with a dot is dropped
abbrev pub is_dropped_by : Option Verdict → Bool → Bool
is_dropped_by (Some Ignore) dotted = true
is_dropped_by (Some Keep) dotted = false
is_dropped_by None dotted = dotted

-- an exclude drops what it fits
unfoldable pub is_excluded : List Pattern → Names → Bool → Bool
is_excluded excludes shown is_folder = list_any (λ p. fits_entry p shown is_folder) excludes

-- the context with an entry's name
abbrev pub under : Context → List ℕ → Context
under context name = record context
    { names = context.names ++ name ∷ []; shown = context.shown ++ name ∷ [] }

-- whether the entry that the context's names lead to is dropped, and its own name
unfoldable pub drops_last : List Pattern → Rules → Context → List ℕ → Bool → Bool
drops_last excludes rules context name is_folder =
    if is_excluded excludes context.shown is_folder then true
    else is_dropped_by (decided context.levels context.names is_folder)
    (rules.hidden && begins_with dot name)

-- whether an entry of a folder is dropped, by its name and whether it is a folder
abbrev pub drops : List Pattern → Rules → Context → List ℕ → Bool → Bool
drops excludes rules context name is_folder =
    drops_last excludes rules (under context name) name is_folder
