-- A place in a part that is read, as the definitions see it.
use Rattle.std.specs.Prelude.{◌≡◌, ℕ, ◌+◌, ◌-◌, ◌<◌, ◌≤◌, List, Option, None, drop, take, length}
use Rattle.tokei_embedding.specs.DocComments.{first_line}
use Rattle.tokei_table_row.specs.Bytes.{line_len}
use Rattle.tokei_parts.specs.Items.{Block, Mode}
use Rattle.tokei_parts.specs.Choice.{Choice, choice}
use Rattle.tokei_parts.specs.Progress.{IsPart}
use Rattle.tokei_parts.specs.ReadingOf.{row_in, blocks_of}
use Rattle.tokei_parts.specs.declared.place.Place.{Place}

-- the text of the place
abbrev pub text_of : Place → List ℕ
text_of place = place.reading.now.text.now

-- the text from a place of it on
abbrev pub text_from : Place → ℕ → List ℕ
text_from place at = drop at (text_of place)

-- the bytes of the part whose line stops there
abbrev pub part_to : Place → ℕ → List ℕ
part_to place stop = take (stop - place.start) (drop place.start (text_of place))

-- the block that can open at another place of the part
abbrev pub block_from : Place → ℕ → Option Block
block_from place at = blocks_of place.reading.now place.behind_child (text_from place at)

-- the block that can open at the place itself
abbrev pub block_here : Place → Option Block
block_here place = block_from place place.at

-- the choice at another place of the part, in a mode
abbrev pub choice_from : Place → ℕ → Mode → Choice
choice_from place at mode = choice (row_in place.reading.now) mode (block_from place at)
    (text_from place at)

-- the choice at the place itself
abbrev pub choice_here : Place → Mode → Choice
choice_here place mode = choice_from place place.at mode

-- the part is under way at the place, whose line goes to its end
pub record IsAt (place : Place) : Type 0 where
  pub part : IsPart (text_of place) place.behind_child place.start place.at
  pub line : place.end ≡ place.at + line_len (text_from place place.at)

-- a part begins where the place's does, in a line that goes to the place's end
pub record Begins (place : Place) : Type 0 where
  pub part : IsPart (text_of place) place.behind_child place.start place.start
  pub line : place.end ≡ place.start + line_len (text_from place place.start)

-- the place's line stops there: behind its newline, or with the text
abbrev pub StopsAt : Place → ℕ → Type 0
StopsAt place stop = stop ≡ place.at + length (first_line (text_from place place.at))

-- from the place to before `to` no child opens in plain text
abbrev pub Childless : Place → ℕ → Type 0
Childless place to = (q : ℕ) → place.at ≤ q → q < to → block_from place q ≡ None
