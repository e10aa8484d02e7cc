-- The files and folders that a command line names.
use Rattle.std.specs.Prelude.{◌≡◌, ℕ, List, [], ◌∷◌, Bool, true, false, is_some, All}
use Rattle.tokei_folders.specs.Tree.{Tree, names_of, node_at}

-- whether a root is named and something stands there
abbrev pub stands : Tree → List ℕ → Bool
stands tree [] = false
stands tree (b ∷ bs) = is_some (node_at tree (names_of (b ∷ bs)))

-- something stands at each root
abbrev pub AllStand : Tree → List (List ℕ) → Type 0
AllStand tree roots = All (λ root. stands tree root ≡ true) roots
