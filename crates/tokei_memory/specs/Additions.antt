-- What a known tree is after a place is added to it, or is none where the place can't be added.
use Rattle.std.specs.Prelude.{ℕ, List, [], ◌∷◌, ◌++◌, Bool, false, ◌||◌, if◌then◌else◌, Option, Some, None, is_some, map}
use Rattle.std.specs.Ordering.{match_ordering}
use Rattle.std.specs.List.{list_any}
use Rattle.tokei_folders.specs.declared.nodes.Node.TheVariants.{File as file, Folder as folder}
use Rattle.tokei_folders.specs.declared.nodes.PlacedNode.{PlacedNode}
use Rattle.tokei_folders.specs.Tree.{Names, Tree, names_cmp, node_at, is_file, folders_above}

-- the tree with one more place, where nothing stands there
abbrev pub placed : Tree → PlacedNode → Tree
placed [] added = added ∷ []
placed (first ∷ rest) added =
    match_ordering (names_cmp added.names first.names) (added ∷ first ∷ rest) (first ∷ rest)
    (first ∷ placed rest added)

-- with several more places, one after the other
unfoldable pub with_all : Tree → List PlacedNode → Tree
with_all tree [] = tree
with_all tree (node ∷ others) = with_all (placed tree node) others

-- a folder that refuses nothing
abbrev pub new_folder : Names → PlacedNode
new_folder names = record { names = names; node = folder false }

-- a file that refuses nothing
abbrev pub new_file : Names → List ℕ → PlacedNode
new_file names content = record { names = names; node = file false false content }

-- the folders above a place, from the top down
unfoldable pub folders_to : Names → List PlacedNode
folders_to names = map (λ above. new_folder above.0) (folders_above [] names)

-- a file stands at a place above
unfoldable pub is_below_file : Tree → Names → Bool
is_below_file tree names =
    list_any (λ above. is_file (node_at tree above.0)) (folders_above [] names)

-- a folder is added, with those above it that are missing, unless there or above a file stands
unfoldable pub with_folder : Tree → Names → Option Tree
with_folder tree names =
    if is_below_file tree names || is_file (node_at tree names) then None
    else Some (with_all tree (folders_to names ++ new_folder names ∷ []))

-- a file is added, with the folders above it that are missing, unless something stands there or a
-- file above
unfoldable pub with_file : Tree → Names → List ℕ → Option Tree
with_file tree names content =
    if is_below_file tree names || is_some (node_at tree names) then None
    else Some (with_all tree (folders_to names ++ new_file names content ∷ []))
