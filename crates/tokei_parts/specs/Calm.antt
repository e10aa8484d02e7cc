-- Stretches within an item in which each choice takes its byte.
use Rattle.std.specs.Prelude.{◌≡◌, ℕ, ◌<◌, ◌≤◌, List, drop, None, Some}
use Rattle.tokei_table.specs.Row.{Row}
use Rattle.tokei_parts.specs.Choice.{choice}
use Rattle.tokei_parts.specs.Choice.Choice.{takes_byte}
use Rattle.tokei_parts.specs.SeenChoices.{mode_of}
use Rattle.tokei_parts.specs.declared.items.Enclosure.{Enclosure}

-- the choice at the place, which the item encloses, takes its byte
abbrev pub TakesByteAt : Row → Enclosure → List ℕ → ℕ → Type 0
TakesByteAt row item text place =
    choice row (mode_of (Some item)) None (drop place text) ≡ takes_byte

-- so does each from the place `at` to before `to`
abbrev pub IsCalm : Row → Enclosure → List ℕ → ℕ → ℕ → Type 0
IsCalm row item text at to = (p : ℕ) → at ≤ p → p < to → TakesByteAt row item text p
