-- What notes say, and of which ignore files. A note says something of a place, which is known by
-- its names.
use Rattle.std.specs.Prelude.{◌≡◌, ◌&&◌, List, [], ◌∷◌, ◌++◌, Option, Some, None, map, replicate, reverse, if◌then◌else◌, cond, codes}
use Rattle.std.specs.List.{flat_map}
use Rattle.tokei_folders.specs.declared.nodes.Node.{Node}
use Rattle.tokei_folders.specs.declared.nodes.Node.TheVariants.{File as file, Folder as folder}
use Rattle.tokei_folders.specs.declared.fs.Above.{Above}
use Rattle.tokei_folders.specs.declared.fs.Listing.{Listing}
use Rattle.tokei_folders.specs.Answers.{above_view}
use Rattle.tokei_folders.specs.Tree.{Names, Tree, folders_above, names_of, node_at}
use Rattle.tokei_ignore.specs.IgnoreFiles.{bad_lines_of}
use Rattle.tokei_walk.specs.declared.kept_file.Note.{Note}
use Rattle.tokei_walk.specs.declared.kept_file.NoteKind.{NoteKind}
use Rattle.tokei_walk.specs.declared.kept_file.NoteKind.TheVariants.{BadLine, Unlisted, UnreadIgnore}
use Rattle.tokei_walk.specs.declared.levels.Rules.{Rules}
use Rattle.tokei_walk.specs.declared.rules_files.Sought.{Sought}
use Rattle.tokei_walk.specs.Levels.{has_git}

-- what is noted, and the names of the place of which that is said
abbrev pub Noted : Type 0
Noted = NoteKind × Names

-- what a note says
abbrev pub said_by : Note → Noted
said_by note = (note.kind, names_of note.place)

-- what notes say, in their order
unfoldable pub said_in : List Note → List Noted
said_in notes = map said_by notes

-- of an ignore file with these names: that it can't be read, or each of its bad lines
abbrev pub noted_file : Names → Option Node → List Noted
noted_file names None = []
noted_file names (Some (folder r)) = []
noted_file names (Some (file r h content)) =
    cond r ((UnreadIgnore, names) ∷ []) (replicate (bad_lines_of content) (BadLine, names))

-- of the ignore file that these names lead to from a folder
unfoldable pub noted_at : Tree → Names → Names → List Noted
noted_at tree place names = noted_file (place ++ names) (node_at tree (place ++ names))

-- of the ignore files of a folder which are sought, in the order in which they are read
unfoldable pub noted_of : Tree → Sought → Names → List Noted
noted_of tree sought names =
    (if sought.tokeignore then noted_at tree names (codes ".tokeignore" ∷ []) else [])
    ++ ((if sought.ignore then noted_at tree names (codes ".ignore" ∷ []) else [])
    ++ ((if sought.gitignore then noted_at tree names (codes ".gitignore" ∷ []) else [])
    ++ (if sought.git then noted_at tree names
    (codes ".git" ∷ codes "info" ∷ codes "exclude" ∷ []) else [])))

-- of a folder's ignore files; of a kind that is switched off nothing is noted
unfoldable pub noted_level : Tree → Rules → Names → List Noted
noted_level tree rules names =
    noted_of tree
    (record {
      git = rules.git && has_git tree names;
      tokeignore = rules.dot;
      ignore = rules.dot;
      gitignore = rules.git;
    })
    names

-- of what a folder lists nothing is noted, since a known tree has all of it; that it can't be
-- listed
abbrev pub noted_unlisted : Names → Option Listing → List Noted
noted_unlisted names None = (Unlisted, names) ∷ []
noted_unlisted names (Some l) = []

-- of the ignore files of the folders above a root, from the top down
unfoldable pub noted_above : Tree → Rules → Names → List Noted
noted_above tree rules names =
    if rules.parents
    then flat_map (λ a. noted_level tree rules a.0) (folders_above [] names) else []

-- of the ignore files of the folders that were found above, from the top down
abbrev pub noted_over : Tree → Rules → List Above → List Noted
noted_over tree rules found =
    flat_map (λ a. noted_level tree rules a.0) (map above_view (reverse found))

-- notes were added that say just what there is less to come
abbrev pub NotesCome : List Note → List Noted → List Note → List Noted → Type 0
NotesCome old to_come new left = said_in old ++ to_come ≡ said_in new ++ left

-- notes were added that say this
abbrev pub NotesSay : List Note → List Note → List Noted → Type 0
NotesSay old new said = said_in new ≡ said_in old ++ said
