-- What is kept of members, one by one: a member that is kept, and one that is passed over.
use Rattle.std.proofs.Common.{◌≡◌, ℕ, List, Bool, true, false, if◌then◌else◌, codes, bytes_eq, ap, ◌∙◌}
use Rattle.json.specs.Json.{Json, Members, member}
use Rattle.tokei_notebook.specs.Kept.{is_kept_in_cell, kept_in_cell, kept_of_cells, kept_in_notebook}

-- a cell's member that is kept, and one that is passed over
pub member_kept : (k : List ℕ) (j : Json) (ms : Members) → is_kept_in_cell k ≡ true → kept_in_cell (member k j ms) ≡ member k j (kept_in_cell ms)
member_kept k j ms e = ap (λ b. if b then member k j (kept_in_cell ms) else kept_in_cell ms) e

pub member_passed : (k : List ℕ) (j : Json) (ms : Members) → is_kept_in_cell k ≡ false → kept_in_cell (member k j ms) ≡ kept_in_cell ms
member_passed k j ms e = ap (λ b. if b then member k j (kept_in_cell ms) else kept_in_cell ms) e

-- a notebook's cells, its metadata, and another member
module _ (k : List ℕ) (j : Json) (ms : Members) where
  abbrev of_tests : Bool → Bool → Members
  of_tests cells metadata =
      if cells then member k (kept_of_cells j) (kept_in_notebook ms)
      else (if metadata then member k j (kept_in_notebook ms) else kept_in_notebook ms)

  pub cells_kept : bytes_eq k (codes "cells") ≡ true → kept_in_notebook (member k j ms) ≡ member k (kept_of_cells j) (kept_in_notebook ms)
  cells_kept e = ap (λ b. of_tests b (bytes_eq k (codes "metadata"))) e

  pub metadata_kept : bytes_eq k (codes "cells") ≡ false → bytes_eq k (codes "metadata") ≡ true
      → kept_in_notebook (member k j ms) ≡ member k j (kept_in_notebook ms)
  metadata_kept e f = ap (λ b. of_tests b (bytes_eq k (codes "metadata"))) e ∙ ap (of_tests false) f

  pub other_passed : bytes_eq k (codes "cells") ≡ false → bytes_eq k (codes "metadata") ≡ false
      → kept_in_notebook (member k j ms) ≡ kept_in_notebook ms
  other_passed e f = ap (λ b. of_tests b (bytes_eq k (codes "metadata"))) e ∙ ap (of_tests false) f
