-- What a reading that skips lines knows.
use Rattle.std.specs.Prelude.{◌≡◌, ℕ, ◌+◌, ◌<◌, true, List, drop}
use Rattle.std.specs.List.{list_all}
use Rattle.tokei_table.specs.Sound.{no_newline}
use Rattle.tokei_parts.specs.Glance.{opener_place}

-- none of the openers holds a newline
abbrev pub AreInLine : List (List ℕ) → Type 0
AreInLine openers = list_all no_newline openers ≡ true

-- a place behind `start` to which an earlier search came is that of the first opener from `start`
-- on, or the text's end
abbrev pub Knows : List (List ℕ) → List ℕ → ℕ → ℕ → Type 0
Knows openers text start next = start < next → next ≡ start + opener_place openers (drop start text)
