-- What a walk still has to come.
use Rattle.std.specs.Prelude.{◌≡◌, ℕ, List, [], ◌∷◌, Bool, true, false, Option, Some, None, reverse, map, String, string_bytes, ◌&&◌, ◌||◌, if◌then◌else◌}
use Rattle.std.specs.Global.{Global}
use Rattle.std.specs.List.{flat_map}
use Rattle.std.specs.Str.{chars}
use Rattle.tokei_walk.specs.declared.kept_file.KeptFile.{KeptFile}
use Rattle.tokei_walk.specs.declared.levels.Rules.{Rules}
use Rattle.tokei_walk.specs.declared.levels.Level.{Level}
use Rattle.tokei_folders.specs.declared.fs.Above.{Above}
use Rattle.tokei_ignore.specs.declared.patterns.Pattern.{Pattern}
use Rattle.tokei_walk.specs.declared.stack.Stack.{Stack}
use Rattle.tokei_walk.specs.declared.walking.Walk.{Walk}
use Rattle.tokei_folders.specs.declared.fs.Kind.{Kind}
use Rattle.tokei_folders.specs.declared.fs.Kind.TheVariants.{File, Folder, Other}
use Rattle.tokei_folders.specs.Answers.{above_view, node_kind}
use Rattle.tokei_walk.specs.Descent.{of_root}
use Rattle.tokei_ignore.specs.Fits.{is_empty}
use Rattle.tokei_ignore.specs.IgnoreFiles.{patterns_in}
use Rattle.tokei_walk.specs.Levels.{level_at}
use Rattle.tokei_walk.specs.Met.{Met, files_in, notes_in}
use Rattle.tokei_walk.specs.ToMeet.{met_all}
use Rattle.tokei_walk.specs.Noted.{Noted}
use Rattle.tokei_ignore.specs.Patterns.{exclude_pattern}
use Rattle.tokei_folders.specs.Tree.{Tree, Names, names_of, node_at}

-- what a walk still meets in a tree; one that has failed meets nothing
unfoldable pub met_to_come : Tree → Walk → List Met
met_to_come tree walk = if walk.failed then [] else met_all walk.settings.excludes
    walk.settings.rules tree walk.stack walk.roots

-- the files still to come in a tree
unfoldable pub to_come : Tree → Walk → List KeptFile
to_come tree walk = files_in (met_to_come tree walk)

-- what is still to be noted in a tree
unfoldable pub noted_to_come : Tree → Walk → List Noted
noted_to_come tree walk = notes_in (met_to_come tree walk)

-- memory ran out in the walk
unfoldable pub has_failed : Walk → Bool
has_failed walk = walk.failed

-- nothing is left of a stack
abbrev pub is_spent : Stack → Bool
is_spent stack = is_empty stack.left && is_empty stack.holders

-- a walk is over: it has failed, or nothing is left of it
unfoldable pub is_over : Walk → Bool
is_over walk = walk.failed || (is_spent walk.stack && is_empty walk.roots)

-- the bytes of texts
abbrev pub texts_of : List (String Global) → List (List ℕ)
texts_of texts = map string_bytes texts

-- the answer is the first file of those to come, and the rest is left; there is none where none is
-- to come
abbrev pub Advances : List KeptFile → List KeptFile → Option KeptFile → Type 0
Advances old new None = old ≡ []
Advances old new (Some k) = old ≡ k ∷ new

-- what a descent through the roots meets, in their order
unfoldable pub descended : List Pattern → Rules → Tree → List (List ℕ) → List KeptFile
descended excludes rules tree roots = flat_map (of_root excludes rules tree) roots

-- the pattern of an exclude, where it has one
abbrev pub exclude_patterns : List ℕ → List Pattern
exclude_patterns text = patterns_in (exclude_pattern (chars text))

-- the patterns of the excludes
unfoldable pub excludes_of : List (List ℕ) → List Pattern
excludes_of texts = flat_map exclude_patterns texts

-- in no tree is a file to come
abbrev pub HasEnded : Walk → Type 0
HasEnded walk = (t : Tree) → to_come t walk ≡ []

-- a root that is a file is kept; one that is missing, a folder, or of another kind isn't one itself
abbrev pub file_of_root : Option Kind → List ℕ → Option KeptFile
file_of_root None root = None
file_of_root (Some File) root = Some (record { path = root; place = root })
file_of_root (Some Folder) root = None
file_of_root (Some Other) root = None

-- what a tree has at a root; an empty root is missing
abbrev pub RootIs : Tree → List ℕ → Option Kind → Type 0
RootIs tree root kind =
    (is_empty root ≡ true → kind ≡ None)
    × (is_empty root ≡ false → kind ≡ node_kind (node_at tree (names_of root)))

-- the names of folders above from the top down, and their rules
abbrev pub names_over : List Above → Names
names_over found = map (λ a. a.1) (map above_view (reverse found))

-- the rules of the folders that were found above, from the top down
abbrev pub levels_over : Tree → Rules → List Above → List Level
levels_over tree rules found = map (λ a. level_at tree rules a.0) (map above_view (reverse found))
