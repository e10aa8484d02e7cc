-- What a walk leaves that goes on where the walked folder has nothing left.
use Rattle.std.specs.Prelude.{◌≡◌, ◌<◌, ◌≤◌, ◌+◌, ℕ, List, [], length}
use Rattle.tokei_walk.specs.declared.stack.Stack.{Stack}
use Rattle.tokei_walk.specs.declared.stack.Step.{Step}
use Rattle.tokei_walk.specs.declared.stack.Step.TheVariants.{Found, Passed, Ended}
use Rattle.tokei_walk.specs.Ranks.{all_rank}

-- the measure falls with a file; where none is found it doesn't rise, and there is one root or one
-- folder less; at the end nothing is left
abbrev pub TurnFalls : Stack → List (List ℕ) → Stack → List (List ℕ) → Step → Type 0
TurnFalls old roots new rest (Found k) = all_rank new rest < all_rank old roots
TurnFalls old roots new rest Passed =
    (all_rank new rest ≤ all_rank old roots)
    × (length rest + length new.holders < length roots + length old.holders)
TurnFalls old roots new rest Ended = (new.left ≡ []) × (new.holders ≡ []) × (rest ≡ [])
