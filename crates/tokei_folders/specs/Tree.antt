-- A known folder tree: its places in order, and what stands at each.
use Rattle.std.specs.Prelude.{◌≡◌, ℕ, ◌==◌, List, [], ◌∷◌, ◌++◌, Bool, true, false, not, ◌&&◌, if◌then◌else◌, Option, Some, None, filter, ⊤}
use Rattle.std.specs.Ordering.{nat_cmp, is_lt, is_eq}
use Rattle.std.specs.declared.cmp.Ordering.{Ordering}
use Rattle.std.specs.Cmp.Lexicographic.{slice_cmp}
use Rattle.std.specs.List.{slice_split, list_any, list_all}
use Rattle.tokei_folders.specs.declared.nodes.Node.{Node}
use Rattle.tokei_folders.specs.declared.nodes.Node.TheVariants.{File as file, Folder as folder}
use Rattle.tokei_folders.specs.declared.nodes.PlacedNode.{PlacedNode}

-- a place, as the names from the top down to it
abbrev pub Names : Type 0
Names = List (List ℕ)

-- the places, each with what stands there
abbrev pub Tree : Type 0
Tree = List PlacedNode

-- lists of names are compared name by name, in bytes
abbrev pub names_cmp : Names → Names → Ordering
names_cmp = slice_cmp (slice_cmp nat_cmp)

-- the one list of names stands before the other
abbrev pub is_before : Names → Names → Bool
is_before names others = is_lt (names_cmp names others)

-- the names stand before those of each place of the tree
abbrev pub is_first : Names → Tree → Bool
is_first names tree = list_all (λ placed. is_before names placed.names) tree

-- each place stands before all that follow it
abbrev pub is_in_order : Tree → Bool
is_in_order [] = true
is_in_order (first ∷ rest) = is_first first.names rest && is_in_order rest

-- the byte of a dot
abbrev pub dot : ℕ
dot = 46

-- an empty piece of a place, and `.`, is no name
abbrev pub is_name : List ℕ → Bool
is_name [] = false
is_name (first ∷ []) = not (first == dot)
is_name (first ∷ second ∷ rest) = true

-- the character is a slash
abbrev pub is_slash : ℕ → Bool
is_slash byte = byte == 47

-- the names of a place
unfoldable pub names_of : List ℕ → Names
names_of place = filter is_name (slice_split is_slash place)

-- a name holds no slash
abbrev pub is_whole_name : List ℕ → Bool
is_whole_name name = is_name name && not (list_any is_slash name)

-- each name of the place is one
abbrev pub has_names : PlacedNode → Bool
has_names placed = list_all is_whole_name placed.names

-- the places stand in order, and their names are names
unfoldable pub is_sound : Tree → Bool
is_sound tree = is_in_order tree && list_all has_names tree

-- a known tree is sound
abbrev pub IsSound : Option Tree → Type 0
IsSound None = ⊤
IsSound (Some tree) = is_sound tree ≡ true

-- what stands at a place
abbrev pub node_at : Tree → Names → Option Node
node_at [] names = None
node_at (first ∷ rest) names =
    if is_eq (names_cmp first.names names) then Some first.node else node_at rest names

-- a file stands there
abbrev pub is_file : Option Node → Bool
is_file None = false
is_file (Some (file no_read no_head content)) = true
is_file (Some (folder no_list)) = false

-- the folders above a place from the top down, each with the name that leads down from it
abbrev pub folders_above : Names → Names → List (Names × List ℕ)
folders_above top [] = []
folders_above top (first ∷ rest) = (top, first) ∷ folders_above (top ++ first ∷ []) rest

-- what stands below a folder: the names from it down
abbrev pub below : Names → Names → Option Names
below [] names = Some names
below (first ∷ rest) [] = None
below (first ∷ rest) (name ∷ names) =
    if is_eq (slice_cmp nat_cmp first name) then below rest names else None
