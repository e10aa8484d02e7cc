-- How far the walk of a part has come, and where a step of it leads.
use Rattle.std.specs.Prelude.{◌≡◌, ℕ, ◌+◌, ◌-◌, ◌<◌, ◌≤◌, None, length, slice_index}
use Rattle.tokei_embedding.specs.DocComments.{first_line}
use Rattle.tokei_table_row.specs.Bytes.{line_len}
use Rattle.tokei_parts.specs.Modes.{Chain}
use Rattle.tokei_parts.specs.PlainBytes.{BeginsNone}
use Rattle.tokei_parts.specs.Places.{Begins, block_from, text_from, text_of}
use Rattle.tokei_parts.specs.Progress.{IsClosable, IsPart, Leads}
use Rattle.tokei_parts.specs.ReadingOf.{row_in, blocks_of}
use Rattle.tokei_parts.specs.declared.place.Place.{Place}
use Rattle.tokei_parts.specs.Walked.{ReadsTo}
use Rattle.tokei_parts.specs.declared.walk.Move.{Move}
use Rattle.tokei_parts.specs.declared.walk.Move.TheVariants.{On, Turn, Rest, Child}
use Rattle.tokei_parts.specs.declared.walk.PartEnd.TheVariants.{Broken}
use Rattle.tokei_parts.specs.declared.walk.Reach.{Reach}

-- where the bytes before the newline were read to; a line comment takes the newline too
abbrev pub read_to : Place → ℕ → ℕ
read_to part at = at - (at - part.end)

-- where the part's line stops: behind its newline, or with the text
abbrev pub part_stop : Place → ℕ
part_stop part = part.start + length (first_line (text_from part part.start))

-- By so many steps the part leads from its begin, which the items of `chain` enclose, to the place
-- `at`, which those of `last` enclose.
pub record Reaches (part : Place) (chain last : Chain) (at steps : ℕ) : Type 0 where
  pub begins : Begins part
  pub leads : Leads (row_in part.reading.now) (blocks_of part.reading.now) part.behind_child chain
      (read_to part at - part.start) (steps - (at - part.end)) last (text_from part part.start)
  pub closable : IsClosable last
  pub under_way : IsPart (text_of part) part.behind_child part.start (read_to part at)
  pub line : part.end ≡ read_to part at + line_len (text_from part (read_to part at))
  pub few : steps ≤ at - part.start
  pub begun : at - part.end ≤ steps
  pub high : at ≤ part_stop part

-- the same, whatever enclosed the part's begin
abbrev pub IsReached : Place → Chain → Reach → Type 0
IsReached part last reach = (chain : Chain) × Reaches part chain last reach.at reach.steps

-- a part that leads to the one leads to the other
abbrev pub GoesOn : Place → Chain → Reach → Chain → Reach → Type 0
GoesOn part last reach next further = (chain : Chain)
    → Reaches part chain last reach.at reach.steps
    → Reaches part chain next further.at further.steps

-- the same, to a later place
pub record Advances (part : Place) (last : Chain) (reach : Reach) (next : Chain) (further : Reach)
    : Type 0 where
  pub on : reach.at < further.at
  pub goes_on : GoesOn part last reach next further

-- the part is broken off at that place by a child, for which it takes one step more
pub record BreaksOff (part : Place) (last : Chain) (reach : Reach) (next : Chain) (further : Reach)
    : Type 0 where
  pub same : further.at ≡ reach.at
  pub reads : (chain : Chain) → Reaches part chain last reach.at reach.steps
      → ReadsTo (row_in part.reading.now) (blocks_of part.reading.now) part.behind_child
      part.reading.now.docs_are_comments chain next part.start (text_of part) further.steps
      (Broken further.at)

-- where a choice leads, by what it does
abbrev pub StepsTo : Place → Chain → Reach → Chain → Reach → Move → Type 0
StepsTo part last reach next further (On n) = Advances part last reach next further
StepsTo part last reach next further (Turn n) = Advances part last reach next further
StepsTo part last reach next further Rest = Advances part last reach next further
StepsTo part last reach next further Child = BreaksOff part last reach next further

-- from the place `at` to before `to` no child opens in plain text
abbrev pub IsChildless : Place → ℕ → ℕ → Type 0
IsChildless part at to = (q : ℕ) → at ≤ q → q < to → block_from part q ≡ None

-- at no byte of the part before the place can a choice begin
pub record IsFront (part : Place) (front : ℕ) : Type 0 where
  pub low : part.start ≤ front
  pub high : front ≤ part.end
  pub plain : (p : ℕ) → part.start ≤ p → p < front
      → BeginsNone part.reading.now.matchers.now (slice_index (text_of part) p)
