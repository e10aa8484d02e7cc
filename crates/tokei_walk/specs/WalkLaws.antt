-- What holds of the definitions of a walk alone.
use Rattle.std.specs.Prelude.{◌≡◌, ℕ, List, Bool, true}
use Rattle.std.specs.List.{list_all}
use Rattle.tokei_walk.specs.declared.kept_file.KeptFile.{KeptFile}
use Rattle.tokei_walk.specs.declared.kept_file.Note.{Note}
use Rattle.tokei_walk.specs.declared.levels.Rules.{Rules}
use Rattle.tokei_ignore.specs.declared.patterns.Pattern.{Pattern}
use Rattle.tokei_walk.specs.Kept.{kept_in}
use Rattle.tokei_folders.specs.Tree.{Tree, is_sound, node_at, is_file, names_of}
use Rattle.tokei_walk.specs.Notes.{Grows}
use Rattle.tokei_walk.specs.Walks.{descended}

-- a descent through a sound tree meets the files that the filter of all its places keeps, in their
-- order
abbrev pub DescentMeetsKept : Type 0
DescentMeetsKept =
    (excludes : List Pattern) (rules : Rules) (t : Tree) (roots : List (List ℕ)) → is_sound t ≡ true
    → descended excludes rules t roots ≡ kept_in excludes rules t roots

-- a file stands at a kept file's place
abbrev pub is_file_of : Tree → KeptFile → Bool
is_file_of tree file = is_file (node_at tree (names_of file.place))

-- each kept file of a sound tree is a file of the tree
abbrev pub KeptAreFiles : Type 0
KeptAreFiles =
    (excludes : List Pattern) (rules : Rules) (t : Tree) (roots : List (List ℕ)) → is_sound t ≡ true
    → list_all (is_file_of t) (kept_in excludes rules t roots) ≡ true

-- notes that stay have grown, and those that grow twice have grown
pub record GrowthLasts : Type 0 where
  pub stays : (a : List Note) → Grows a a
  pub twice : (a b c : List Note) → Grows a b → Grows b c → Grows a c
