-- The stretches as the walk passes them, with how many choices began so far.
use Rattle.std.specs.Prelude.{ℕ, ◌+◌, Bool, true, ◌==◌, if◌then◌else◌, List, [], ◌∷◌, ◌++◌, length, drop, None}
use Rattle.tokei_table.specs.Bytes.{newline}
use Rattle.tokei_parts.specs.Glance.{walks}
use Rattle.tokei_parts.specs.Items.{Mode}
use Rattle.tokei_embedding.specs.DocComments.{first_line}
use Rattle.tokei_parts.specs.Modes.{Mark, innermost}
use Rattle.tokei_parts.specs.Modes.Mark.{byte_at, child_at}
use Rattle.tokei_parts.specs.Stretches.{one_if}

-- a stretch that was passed: the mode at its beginning, its reach, and how many bytes and choices
-- it has
pub record Passed : Type 0 where
  pub begun : Mode
  pub reach : List ℕ
  pub size : ℕ
  pub choices : ℕ

-- The part under way began in the mode, has the bytes, and so many choices began at them.
unfoldable pub running : Mode → List ℕ → ℕ → List ℕ → List Mark → List Passed
running mode bytes made rest [] = elim bytes [
  | [] ↦ []
  | a ∷ s' ↦ record { begun = mode; reach = a ∷ s'; size = length (a ∷ s'); choices = made } ∷ []
]
running m s n t (byte_at b x c ∷ ms) =
    if b == newline
    then record {
      begun = m;
      reach = s ++ b ∷ [];
      size = length (s ++ b ∷ []);
      choices = n + one_if x;
    }
    ∷ running (innermost c) [] 0 (drop 1 t) ms
    else running m (s ++ b ∷ []) (n + one_if x) (drop 1 t) ms
running m s n t (child_at k ∷ ms) =
    record { begun = m; reach = s ++ first_line t; size = length s; choices = n }
    ∷ running None [] 0 (drop k.size t) ms

-- the choices of those that a reading walks, which skips the others or not
abbrev pub choices_made : Bool → List (List ℕ) → List Passed → ℕ
choices_made skips os [] = 0
choices_made skips os (s ∷ ss) =
    (if walks skips os s.begun s.reach then s.choices else 0) + choices_made skips os ss

-- of those that are walked by a reading that skips
abbrev pub choices_passed : List (List ℕ) → List Passed → ℕ
choices_passed = choices_made true
