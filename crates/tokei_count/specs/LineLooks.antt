-- What a look at the lines of a text shows, block after block.
use Rattle.std.specs.Prelude.{◌≡◌, ℕ, ◌+◌, ◌-◌, ◌<◌, ◌≤◌, ◌&&◌, not, Bool, true, false, List, [], ◌∷◌, drop, length, slice_index}
use Rattle.tokei_bytes.specs.Lines.{blank_after, blank_behind, flag, front_count, is_blank, newline, newline_count}
use Rattle.tokei_table.specs.Bytes.{begins_with_one}
use Rattle.tokei_table.specs.Row.{Row}
use Rattle.tokei_table.specs.Slices.{between}
use Rattle.tokei_parts.specs.Class.{keeps_columns}
use Rattle.tokei_parts.specs.CommentHeads.{any_solid_begins}
use Rattle.tokei_count.specs.declared.line_look.Look.{Look}

-- How many fronts of lines are marked bytes, where the text goes on in a line
-- that has no front yet, or has one.
abbrev pub mark_count : (ℕ → Bool) → Bool → List ℕ → ℕ
mark_count is_mark blank [] = 0
mark_count is_mark blank (b ∷ t) =
    flag ((blank && not (is_blank b)) && is_mark b)
    + mark_count is_mark (blank_behind blank b) t

-- the place is the front of its line, where `start` begins one
pub record IsFrontAt (text : List ℕ) (start place : ℕ) : Type 0 where
  pub blank : blank_after true (between text start place) ≡ true
  pub solid : is_blank (slice_index text place) ≡ false

-- a line comment stands at the place, by which its line is told
pub record HasLineComment (row : Row) (text : List ℕ) (place : ℕ) : Type 0 where
  pub line : any_solid_begins row.line_comment (drop place text) ≡ true
  pub columns : keeps_columns row.key ≡ false

-- at each front from `start` to before `to` whose byte is marked a line comment stands
abbrev pub AreTold : Row → (ℕ → Bool) → List ℕ → ℕ → ℕ → Type 0
AreTold row is_mark text start to = (p : ℕ) → start ≤ p → p < to → IsFrontAt text start p
    → is_mark (slice_index text p) ≡ true → HasLineComment row text p

-- no opener stands from `start` to before `to`
abbrev pub IsClear : List (List ℕ) → List ℕ → ℕ → ℕ → Type 0
IsClear openers text start to = (p : ℕ) → start ≤ p → p < to
    → begins_with_one openers (drop p text) ≡ false

-- the next opener behind a place, in the line of which that is
pub record IsNext (openers : List (List ℕ)) (text : List ℕ) (at to : ℕ) : Type 0 where
  pub order : at ≤ to
  pub clear : IsClear openers text at to
  pub on : newline_count (between text at to) ≡ 0
  pub opener : begins_with_one openers (drop to text) ≡ true

-- The look's numbers are those of the text from `start`, which begins a line, to before its place;
-- the line that it ended in begins at its stop.
pub record IsLook (is_mark : ℕ → Bool) (text : List ℕ) (start : ℕ) (look : Look) : Type 0 where
  pub low : start ≤ look.stop
  pub order : look.stop ≤ look.at
  pub high : look.at ≤ length text
  pub newlines : look.newlines ≡ newline_count (between text start look.at)
  pub fronts : look.fronts ≡ front_count true (between text start look.at)
  pub comments : look.comments ≡ mark_count is_mark true (between text start look.at)
  pub begun : start < look.stop → slice_index text (look.stop - 1) ≡ newline
  pub on : newline_count (between text look.stop look.at) ≡ 0
