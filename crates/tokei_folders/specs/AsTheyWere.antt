-- Folders as they were, and no counted fault.
use Rattle.std.specs.Prelude.{◌≡◌, ◌<◌, ℕ, Option, Result, OnOk}
use Rattle.tokei_folders.specs.Tree.{Tree}

-- the tree that they tell is the one that it was
abbrev pub SameTree : {F : Type 0} → (F → Option Tree) → F → F → Type 0
SameTree tree old new = tree new ≡ tree old

-- the number of counted faults, where it was below the greatest `u64`, stays
abbrev pub FaultsStay : {F : Type 0} → (F → ℕ) → F → F → Type 0
FaultsStay faults old new = faults old < 18446744073709551615 → faults new ≡ faults old

-- an answer that isn't refused has passed over no fault
abbrev pub NoFault : {F A E : Type 0} → (F → ℕ) → F → F → Result A E → Type 0
NoFault faults old new result = OnOk result (FaultsStay faults old new)

-- both
pub record AsTheyWere {F A E : Type 0} (tree : F → Option Tree) (faults : F → ℕ) (old new : F)
    (result : Result A E) : Type 0 where
  pub same : SameTree tree old new
  pub honest : NoFault faults old new result
