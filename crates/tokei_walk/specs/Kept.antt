-- The files of a known tree that the ignore rules keep: a filter of all its places.
use Rattle.std.specs.Prelude.{ℕ, ◌&&◌, List, [], ◌∷◌, ◌++◌, Bool, true, false, not, nat_le, if◌then◌else◌, Option, Some, None, map, filter, length}
use Rattle.std.specs.List.{flat_map, list_all}
use Rattle.tokei_walk.specs.declared.kept_file.KeptFile.{KeptFile}
use Rattle.tokei_walk.specs.declared.levels.Context.{Context}
use Rattle.tokei_walk.specs.declared.levels.Rules.{Rules}
use Rattle.tokei_folders.specs.declared.nodes.Node.{Node}
use Rattle.tokei_folders.specs.declared.nodes.Node.TheVariants.{File as file, Folder as folder}
use Rattle.tokei_folders.specs.declared.nodes.PlacedNode.{PlacedNode}
use Rattle.tokei_ignore.specs.declared.patterns.Pattern.{Pattern}
use Rattle.tokei_folders.specs.Answers.{can_list}
use Rattle.tokei_folders.specs.Places.{joined}
use Rattle.tokei_ignore.specs.Fits.{is_empty}
use Rattle.tokei_walk.specs.Levels.{level_at, drops_last}
use Rattle.tokei_folders.specs.Tree.{Names, Tree, node_at, is_file, names_of, folders_above, below}

-- the folders whose ignore files hold for an entry below a root, each with the name that leads down
-- from it: those from the root to the entry's folder and, where the rules say so, those above the
-- root
abbrev pub chain : Rules → Names → Names → List (Names × List ℕ)
chain rules root inner =
    if rules.parents then folders_above [] (root ++ inner) else folders_above root inner

-- what decides about an entry below a root, by the names from the root down to it
unfoldable pub context_at : Tree → Rules → Names → Names → Context
context_at tree rules root inner = record {
  levels = map (λ a. level_at tree rules a.0) (chain rules root inner);
  names = if rules.parents then root ++ inner else inner;
  shown = root ++ inner;
}

-- the last of the names; of none it is empty
abbrev pub last_name : Names → List ℕ
last_name [] = []
last_name (n ∷ []) = n
last_name (n ∷ m ∷ ns) = last_name (m ∷ ns)

-- an entry below a root is dropped, whether it is a folder or not
unfoldable pub is_dropped : List Pattern → Rules → Tree → Names → Names → Bool → Bool
is_dropped excludes rules tree root inner is_folder =
    drops_last excludes rules (context_at tree rules root inner) (last_name inner) is_folder

-- the folders between a root and a place below it, by the names from the root down
abbrev pub between : Names → Names → List Names
between seen [] = []
between seen (n ∷ []) = []
between seen (n ∷ m ∷ ns) = (seen ++ n ∷ []) ∷ between (seen ++ n ∷ []) (m ∷ ns)

-- a folder below a root is entered where it can be listed and isn't dropped
abbrev pub is_entered : List Pattern → Rules → Tree → Names → Names → Bool
is_entered excludes rules tree root inner =
    can_list (node_at tree (root ++ inner)) && not (is_dropped excludes rules tree root inner true)

-- the greatest depth below a root at which a folder is entered
abbrev pub greatest_depth : ℕ
greatest_depth = 256

-- the most names that lead from a root down to a file below it; so many folders are entered on the
-- way to it, the root among them
abbrev pub most_names : ℕ
most_names = 257

-- a file below a root is kept where no more names lead down to it, the root can be listed, each
-- folder between them is entered, and the file isn't dropped
unfoldable pub is_kept_below : List Pattern → Rules → Tree → Names → Names → Bool
is_kept_below excludes rules tree root inner =
    nat_le (length inner) most_names
    && (can_list (node_at tree root)
    && (list_all (is_entered excludes rules tree root) (between [] inner)
    && not (is_dropped excludes rules tree root inner false)))

-- the names from a root down to a place; none where it doesn't lie below the root
abbrev pub names_from : Option Names → Names
names_from None = []
names_from (Some ns) = ns

-- the names from a root down to an entry of the tree; none where it doesn't lie below the root
abbrev pub names_below : Names → PlacedNode → Names
names_below root placed = names_from (below root placed.names)

-- a place of the tree is kept where it is a file below the root that is kept
unfoldable pub is_kept : List Pattern → Rules → Tree → Names → PlacedNode → Bool
is_kept excludes rules tree root placed =
    not (is_empty (names_below root placed))
    && (is_file (Some placed.node) && is_kept_below excludes rules tree root
    (names_below root placed))

-- the place to which these names lead
unfoldable pub place_below : List ℕ → Names → List ℕ
place_below place [] = place
place_below place (n ∷ ns) = place_below (joined place n) ns

-- a path is shown as its place is written: from the root's text on
abbrev pub file_at : List ℕ → KeptFile
file_at place = record { path = place; place = place }

-- the kept file of an entry of the tree below a root
abbrev pub kept_file : List ℕ → PlacedNode → KeptFile
kept_file root placed = file_at (place_below root (names_below (names_of root) placed))

-- the kept files of a root that is a folder: of all places those that are kept, in their order
unfoldable pub kept_below : List Pattern → Rules → Tree → List ℕ → List KeptFile
kept_below excludes rules tree root =
    map (kept_file root) (filter (is_kept excludes rules tree (names_of root)) tree)

-- a root that is a file is kept itself; one that is missing gives nothing
abbrev pub kept_at : List Pattern → Rules → Tree → List ℕ → Option Node → List KeptFile
kept_at excludes rules tree root None = []
kept_at excludes rules tree root (Some (file r h content)) = file_at root ∷ []
kept_at excludes rules tree root (Some (folder r)) = kept_below excludes rules tree root

-- the files that are kept of a root; an empty root gives nothing
unfoldable pub kept_of : List Pattern → Rules → Tree → List ℕ → List KeptFile
kept_of excludes rules tree root =
    if is_empty root then [] else kept_at excludes rules tree root (node_at tree (names_of root))

-- the kept files of the roots, in their order
unfoldable pub kept_in : List Pattern → Rules → Tree → List (List ℕ) → List KeptFile
kept_in excludes rules tree roots = flat_map (kept_of excludes rules tree) roots
