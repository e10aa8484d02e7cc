-- Which ignore files of a folder are sought, by the entries that it lists.
use Rattle.std.specs.Prelude.{ℕ, ◌&&◌, List, [], ◌∷◌, Bool, if◌then◌else◌, codes}
use Rattle.std.specs.List.{list_any}
use Rattle.std.specs.Ordering.{is_eq, nat_cmp}
use Rattle.std.specs.Cmp.Lexicographic.{slice_cmp}
use Rattle.tokei_folders.specs.declared.fs.Entry.{Entry}
use Rattle.tokei_folders.specs.Tree.{Names, Tree}
use Rattle.tokei_walk.specs.declared.levels.Level.{Level}
use Rattle.tokei_walk.specs.declared.levels.Rules.{Rules}
use Rattle.tokei_walk.specs.declared.rules_files.Sought.{Sought}
use Rattle.tokei_walk.specs.Levels.{ignore_file_at}

-- an entry of this name is listed, of whatever kind
abbrev pub lists : List Entry → List ℕ → Bool
lists es name = list_any (λ e. is_eq (slice_cmp nat_cmp e.name name)) es

-- of the ignore files that the rules ask for, those that are listed
unfoldable pub listed : Rules → List Entry → Sought
listed rules es = record {
  git = rules.git && lists es (codes ".git");
  tokeignore = rules.dot && lists es (codes ".tokeignore");
  ignore = rules.dot && lists es (codes ".ignore");
  gitignore = rules.git && lists es (codes ".gitignore");
}

-- the rules that the ignore files give which are sought
unfoldable pub level_of : Tree → Sought → Names → Level
level_of tree sought names = record {
  tokeignore = if sought.tokeignore then ignore_file_at tree names (codes ".tokeignore" ∷ []) else
      [];
  ignore = if sought.ignore then ignore_file_at tree names (codes ".ignore" ∷ []) else [];
  gitignore = if sought.gitignore then ignore_file_at tree names (codes ".gitignore" ∷ []) else [];
  git_exclude =
      if sought.git then ignore_file_at tree names
      (codes ".git" ∷ codes "info" ∷ codes "exclude" ∷ [])
      else [];
  git = sought.git;
}
