-- The entries of a folder.
use Rattle.std.proofs.Common.{◌≡◌, [], ◌∷◌, refl}
use Rattle.tokei_folders.specs.declared.nodes.Node.{Node}
use Rattle.tokei_folders.specs.Answers.{entries_in}
use Rattle.tokei_folders.specs.Tree.{Names, Tree}

-- the top is no folder's entry
pub below_top : (p : Names) (n : Node) (t : Tree) → entries_in p t ≡ entries_in p (record { names = []; node = n } ∷ t)
below_top [] n t = refl
below_top (d ∷ ds) n t = refl
