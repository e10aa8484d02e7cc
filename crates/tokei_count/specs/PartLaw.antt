-- The law behind skipping, by the parts of a text alone: a part that isn't walked begins and ends
-- in plain text, and no child breaks it off.
use Rattle.std.specs.Prelude.{◌≡◌, ℕ, false, List, [], length, None}
use Rattle.std.specs.List.{AllByRecursion}
use Rattle.tokei_table.specs.Lookups.{row_at}
use Rattle.tokei_table.specs.Openers.{openers}
use Rattle.tokei_table.specs.Row.{Row}
use Rattle.tokei_parts.specs.Glance.{is_walked}
use Rattle.tokei_parts.specs.Modes.{Mark, marks}
use Rattle.tokei_count.specs.Languages.{languages_of}
use Rattle.tokei_parts.specs.Parts.{Part, parts_of}
use Rattle.tokei_count.specs.Steps.{items_in}
use Rattle.tokei_parts.specs.Stretches.{Stretch, stretches}
use Rattle.tokei_count.specs.WeightLaws.{HaveTokens}

-- where it isn't walked it begins and ends in plain text
abbrev pub IsInPlainText : List (List ℕ) → Part → Type 0
IsInPlainText os part = is_walked os part.begun part.bytes ≡ false → (part.begun ≡ None)
    × (part.ended ≡ None)

-- where it isn't walked it has all of its reach
abbrev pub IsUnbroken : List (List ℕ) → Stretch → Type 0
IsUnbroken os stretch = is_walked os stretch.begun stretch.reach ≡ false
    → length stretch.own ≡ length stretch.reach

-- so it is with the parts of the text `text`, whose marks these are
pub record UnwalkedStayPlain (os : List (List ℕ)) (text : List ℕ) (ms : List Mark) : Type 0 where
  pub parts : AllByRecursion (IsInPlainText os) (parts_of ms)
  pub unbroken : AllByRecursion (IsUnbroken os) (stretches None [] text ms)

-- and so with those of each text, by a table of which all texts that a count looks for are tokens
abbrev pub UnwalkedPartsStayPlain : Type 0
UnwalkedPartsStayPlain = (rows : List Row) → HaveTokens rows → (levels language : ℕ) (t : List ℕ)
    → UnwalkedStayPlain (openers (row_at rows language)) t
    (marks [] (items_in (languages_of rows) levels language t))
