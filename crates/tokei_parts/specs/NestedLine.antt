-- A line in a comment, in which one more comment opens, or one closes that another encloses.
use Rattle.std.specs.Prelude.{◌≡◌, Bool, true, false, [], ◌∷◌, Some, drop}
use Rattle.tokei_parts.specs.Items.{Enclosure}
use Rattle.tokei_parts.specs.Modes.{Chain, innermost}
use Rattle.tokei_parts.specs.Places.{text_of}
use Rattle.tokei_parts.specs.Progress.{Goes}
use Rattle.tokei_parts.specs.ReadingOf.{row_in, blocks_of}
use Rattle.tokei_parts.specs.SeenChoices.{enclosure_of}
use Rattle.tokei_parts.specs.declared.nested_line.Turn.{Turn}
use Rattle.tokei_parts.specs.declared.place.Place.{Place}

-- the items that enclose the place behind an opener of that item, or behind a closer
abbrev pub turned_by : Bool → Enclosure → Chain → Chain
turned_by true inner chain = inner ∷ chain
turned_by false inner [] = []
turned_by false inner (around ∷ chain) = chain

-- the same behind that of the turn
abbrev pub turned : Turn → Chain → Chain
turned turn chain = turned_by turn.opens (enclosure_of turn.inner) chain

-- the choice at the place, which those items enclose, is that opener or closer
pub record IsTurn (place : Place) (chain : Chain) (turn : Turn) : Type 0 where
  pub within : innermost (turned turn chain) ≡ Some (enclosure_of turn.inner)
  pub goes : Goes (row_in place.reading.now) (blocks_of place.reading.now) place.behind_child chain
      turn.len 1 (turned turn chain) (drop place.at (text_of place))
