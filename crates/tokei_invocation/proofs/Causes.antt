-- The texts that name a cause.
use Rattle.std.proofs.Common.{ℕ, List, ◌∷◌, [], ◌++◌, refl, codes}
use Rattle.tokei_invocation.specs.Messages.{IsMessage}

-- a line is a message
pub line_is_message : (cause : List ℕ) → IsMessage (codes "Error: " ++ (cause ++ 10 ∷ []))
line_is_message cause = record { cause = 32 ∷ cause; is = refl }
