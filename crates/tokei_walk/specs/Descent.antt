-- The files that one descent through a known tree meets.
use Rattle.std.specs.Prelude.{ℕ, zero, suc, List, [], ◌∷◌, ◌++◌, Bool, true, false, Option, Some, None, Result, Ok, Err, map, if◌then◌else◌, cond}
use Rattle.std.specs.List.{flat_map}
use Rattle.tokei_folders.specs.declared.nodes.Node.{Node}
use Rattle.tokei_folders.specs.declared.nodes.Node.TheVariants.{File as file, Folder as folder}
use Rattle.tokei_folders.specs.declared.fs.Kind.{Kind}
use Rattle.tokei_folders.specs.declared.fs.Kind.TheVariants.{File, Folder, Other}
use Rattle.tokei_folders.specs.declared.fs.Entry.{Entry}
use Rattle.tokei_folders.specs.declared.fs.Fault.{Fault}
use Rattle.tokei_walk.specs.declared.kept_file.KeptFile.{KeptFile}
use Rattle.tokei_walk.specs.declared.levels.Context.{Context}
use Rattle.tokei_walk.specs.declared.levels.Rules.{Rules}
use Rattle.tokei_walk.specs.declared.levels.Level.{Level}
use Rattle.tokei_ignore.specs.declared.patterns.Pattern.{Pattern}
use Rattle.tokei_folders.specs.Answers.{list_answer}
use Rattle.tokei_folders.specs.Ends.{without_last}
use Rattle.tokei_folders.specs.Places.{joined}
use Rattle.tokei_ignore.specs.Fits.{is_empty}
use Rattle.tokei_walk.specs.Kept.{most_names}
use Rattle.tokei_walk.specs.Levels.{level_at, drops, under}
use Rattle.tokei_folders.specs.Tree.{Names, Tree, node_at, names_of, folders_above}

-- a kept file's shown path and its place are joined in the same way
abbrev pub kept : List ℕ → List KeptFile
kept place = record { path = place; place = place } ∷ []

-- with the rules of the folder itself
abbrev pub with_level : Context → Level → Context
with_level context level = record context { levels = context.levels ++ level ∷ [] }

-- what an entry gives, where `inner` is what a folder gives
abbrev pub of_kind : Kind → Bool → List ℕ → List KeptFile → List KeptFile
of_kind File dropped place inner = cond dropped [] (kept place)
of_kind Folder dropped place inner = cond dropped [] inner
of_kind Other dropped place inner = []

-- whether the kind is a folder
abbrev pub is_folder : Kind → Bool
is_folder File = false
is_folder Folder = true
is_folder Other = false

-- the files of an entry of the folder at `place`: a file itself, or those inside a folder, and
-- none where the entry is dropped
unfoldable pub of_entry : List Pattern → Rules → (Context → List ℕ → List KeptFile) → Context
    → List ℕ → Entry → List KeptFile
of_entry excludes rules inside context place entry =
    of_kind entry.kind (drops excludes rules context entry.name (is_folder entry.kind))
    (joined place entry.name)
    (inside (under context entry.name) (joined place entry.name))

-- the files of the entries, in their order
unfoldable pub of_entries : List Pattern → Rules → (Context → List ℕ → List KeptFile) → Context
    → List ℕ → List Entry → List KeptFile
of_entries excludes rules inside context place es =
    flat_map (of_entry excludes rules inside context place) es

-- a folder that can't be listed gives nothing
abbrev pub of_listing : (Context → List ℕ → List Entry → List KeptFile) → Context → List ℕ
    → Result (List Entry) Fault → List KeptFile
of_listing entries context place (Ok es) = entries context place es
of_listing entries context place (Err e) = []

-- what a folder gives, where so many levels may be entered
unfoldable pub descend : List Pattern → Rules → Tree → ℕ → Context → List ℕ → List KeptFile
descend excludes rules tree zero context place = []
descend excludes rules tree (suc n) context place =
    of_listing
    (λ d at es. of_entries excludes rules (descend excludes rules tree n)
    (with_level d (level_at tree rules (names_of at))) at es)
    context place (list_answer tree (names_of place))

-- the rules of the folders above a root, from the top down
unfoldable pub levels_above : Tree → Rules → Names → List Level
levels_above tree rules names = map (λ a. level_at tree rules a.0) (folders_above [] names)

-- the context of a root's entries, before the rules of the root itself
unfoldable pub root_context : Tree → Rules → Names → Context
root_context tree rules place = record {
  levels = if rules.parents then levels_above tree rules place else [];
  names = if rules.parents then place else [];
  shown = place;
}

-- a root that is a file is kept; one that is missing gives nothing
abbrev pub of_node : List Pattern → Rules → Tree → List ℕ → Option Node → List KeptFile
of_node excludes rules tree root None = []
of_node excludes rules tree root (Some (file r h content)) = kept root
of_node excludes rules tree root (Some (folder r)) =
    descend excludes rules tree most_names (root_context tree rules (names_of root)) root

-- the files of a root; an empty root gives nothing
unfoldable pub of_root : List Pattern → Rules → Tree → List ℕ → List KeptFile
of_root excludes rules tree root =
    if is_empty root then [] else of_node excludes rules tree root (node_at tree (names_of root))

-- the context without the last name
abbrev pub without_name : Context → Context
without_name context = record context
    { names = without_last context.names; shown = without_last context.shown }

-- the context of the folder that holds this one
abbrev pub outer : Context → Context
outer context = record {
  levels = without_last context.levels;
  names = without_last context.names;
  shown = without_last context.shown;
}
