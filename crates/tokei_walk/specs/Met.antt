-- What a walk through a known tree meets, in its order: the files that are kept, and what is noted
-- of the places that are passed over and of ignore files.
use Rattle.std.specs.Prelude.{ℕ, zero, suc, List, [], ◌∷◌, ◌++◌, Bool, Option, Some, None, Result, Ok, Err, map, if◌then◌else◌, cond}
use Rattle.std.specs.List.{flat_map}
use Rattle.tokei_folders.specs.declared.nodes.Node.{Node}
use Rattle.tokei_folders.specs.declared.nodes.Node.TheVariants.{File as file, Folder as folder}
use Rattle.tokei_folders.specs.declared.fs.Entry.{Entry}
use Rattle.tokei_folders.specs.declared.fs.Fault.{Fault}
use Rattle.tokei_folders.specs.declared.fs.Kind.{Kind}
use Rattle.tokei_folders.specs.declared.fs.Kind.TheVariants.{File, Folder, Other}
use Rattle.tokei_folders.specs.Answers.{list_answer}
use Rattle.tokei_folders.specs.Places.{joined}
use Rattle.tokei_folders.specs.Tree.{Tree, names_of, node_at}
use Rattle.tokei_ignore.specs.declared.patterns.Pattern.{Pattern}
use Rattle.tokei_ignore.specs.Fits.{is_empty}
use Rattle.tokei_walk.specs.declared.kept_file.KeptFile.{KeptFile}
use Rattle.tokei_walk.specs.declared.kept_file.NoteKind.{NoteKind}
use Rattle.tokei_walk.specs.declared.kept_file.NoteKind.TheVariants.{MissingRoot, TooDeep, Unlisted}
use Rattle.tokei_walk.specs.declared.levels.Context.{Context}
use Rattle.tokei_walk.specs.declared.levels.Rules.{Rules}
use Rattle.tokei_walk.specs.Descent.{is_folder, root_context, with_level}
use Rattle.tokei_walk.specs.Kept.{file_at, greatest_depth}
use Rattle.tokei_walk.specs.Levels.{drops, level_at, under}
use Rattle.tokei_walk.specs.Noted.{Noted, noted_above, noted_level}

-- a file is kept, or something is noted of a place
pub data Met : Type 0 where
  Keeps : KeptFile → Met
  Notes : Noted → Met

-- what is noted, as what is met
unfoldable pub as_met : List Noted → List Met
as_met noted = map (λ n. Notes n) noted

-- a kept file at a place
abbrev pub met_file : List ℕ → List Met
met_file place = Keeps (file_at place) ∷ []

-- a note of a place
abbrev pub met_note : NoteKind → List ℕ → List Met
met_note kind place = Notes (kind, names_of place) ∷ []

-- what is met of an entry, where `inner` is what is met of a folder
abbrev pub met_kind : Kind → Bool → List ℕ → List Met → List Met
met_kind File dropped place inner = cond dropped [] (met_file place)
met_kind Folder dropped place inner = cond dropped [] inner
met_kind Other dropped place inner = []

-- what is met of an entry of the folder at `place`; nothing where it is dropped
unfoldable pub met_entry : List Pattern → Rules → (Context → List ℕ → List Met) → Context
    → List ℕ → Entry → List Met
met_entry excludes rules inside context place entry =
    met_kind entry.kind (drops excludes rules context entry.name (is_folder entry.kind))
    (joined place entry.name)
    (inside (under context entry.name) (joined place entry.name))

-- what is met of the entries, in their order
unfoldable pub met_entries : List Pattern → Rules → (Context → List ℕ → List Met) → Context
    → List ℕ → List Entry → List Met
met_entries excludes rules inside context place es =
    flat_map (met_entry excludes rules inside context place) es

-- what is met of a folder, by what is met of its entries; one that can't be listed leaves a note
abbrev pub met_listing : List ℕ → (List Entry → List Met) → Result (List Entry) Fault → List Met
met_listing place entries (Ok es) = entries es
met_listing place entries (Err e) = met_note Unlisted place

-- what is met of a folder, where so many levels may be entered: what is noted of its own ignore
-- files first, and then what is met of its entries; one that may not be entered is too deep
unfoldable pub met_below : List Pattern → Rules → Tree → ℕ → Context → List ℕ → List Met
met_below excludes rules tree zero context place = met_note TooDeep place
met_below excludes rules tree (suc n) context place =
    met_listing place
    (λ es. as_met (noted_level tree rules (names_of place))
    ++ met_entries excludes rules (met_below excludes rules tree n)
    (with_level context (level_at tree rules (names_of place))) place es)
    (list_answer tree (names_of place))

-- what is met of a root that is a folder: of the folders above it first, where it can be listed
unfoldable pub met_folder : List Pattern → Rules → Tree → List ℕ → List Met
met_folder excludes rules tree root =
    met_listing root
    (λ es. as_met (noted_above tree rules (names_of root) ++ noted_level tree rules (names_of root))
    ++ met_entries excludes rules (met_below excludes rules tree greatest_depth)
    (with_level (root_context tree rules (names_of root)) (level_at tree rules (names_of root)))
    root es)
    (list_answer tree (names_of root))

-- a root that is a file is kept, and a missing one leaves a note
abbrev pub met_node : List Pattern → Rules → Tree → List ℕ → Option Node → List Met
met_node excludes rules tree root None = met_note MissingRoot root
met_node excludes rules tree root (Some (file r h content)) = met_file root
met_node excludes rules tree root (Some (folder r)) = met_folder excludes rules tree root

-- what is met of a root; an empty one is missing
unfoldable pub met_root : List Pattern → Rules → Tree → List ℕ → List Met
met_root excludes rules tree root =
    met_node excludes rules tree root
    (if is_empty root then None else node_at tree (names_of root))

-- what is met of roots, in their order
unfoldable pub met_in : List Pattern → Rules → Tree → List (List ℕ) → List Met
met_in excludes rules tree roots = flat_map (met_root excludes rules tree) roots

-- the file that is kept, if it is one
abbrev pub file_met : Met → List KeptFile
file_met (Keeps k) = k ∷ []
file_met (Notes n) = []

-- what is noted, if it is that
abbrev pub note_met : Met → List Noted
note_met (Keeps k) = []
note_met (Notes n) = n ∷ []

-- the files among what is met
unfoldable pub files_in : List Met → List KeptFile
files_in met = flat_map file_met met

-- what is noted among what is met
unfoldable pub notes_in : List Met → List Noted
notes_in met = flat_map note_met met

-- what is noted by a walk over roots, in its order
unfoldable pub noted_in : List Pattern → Rules → Tree → List (List ℕ) → List Noted
noted_in excludes rules tree roots = notes_in (met_in excludes rules tree roots)
