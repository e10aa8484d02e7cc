-- What a step of the walk and the reading of a part come to.
use Rattle.std.specs.Prelude.{◌≡◌, ℕ, ◌+◌, ◌-◌, ◌<◌, ◌≤◌, Bool, List, length, drop, Option, Some}
use Rattle.tokei_table.specs.Row.{Row}
use Rattle.tokei_embedding.specs.DocComments.{first_line}
use Rattle.tokei_table_row.specs.Bytes.{line_len}
use Rattle.tokei_parts.specs.Items.{Block}
use Rattle.tokei_parts.specs.Modes.{Chain}
use Rattle.tokei_parts.specs.Progress.{IsPart, Goes, OpensChild, ReadsLine, ReadsChild, newlines}
use Rattle.tokei_parts.specs.declared.class.Class.{Class}
use Rattle.tokei_parts.specs.declared.walk.Move.{Move}
use Rattle.tokei_parts.specs.declared.walk.Move.TheVariants.{On, Turn, Rest, Child}
use Rattle.tokei_parts.specs.declared.walk.PartEnd.{PartEnd}
use Rattle.tokei_parts.specs.declared.walk.PartEnd.TheVariants.{Line, Broken}
use Rattle.tokei_parts.specs.declared.walk.PartRead.{PartRead}

-- the choice at the place `at` takes some bytes, or the rest of its line with the newline, or a
-- child opens there
abbrev pub Moves : Row → (ℕ → List ℕ → Option Block) → ℕ → Chain → Chain → List ℕ → ℕ → Move
    → Type 0
Moves row block behind chain last text at (On n) =
    Goes row block behind chain n 1 last (drop at text)
Moves row block behind chain last text at (Turn n) =
    Goes row block behind chain n 1 last (drop at text)
Moves row block behind chain last text at Rest =
    Goes row block behind chain (line_len (drop at text)) (1 - newlines (drop at text)) last
    (drop at text)
Moves row block behind chain last text at Child = (k : Block)
    × OpensChild row block behind chain k last (drop at text)

-- a child breaks off the part at the place `at`, behind `j` choices in it
pub record Breaks (row : Row) (block : ℕ → List ℕ → Option Block) (behind : ℕ)
    (docs_are_comments : Bool)
    (chain last : Chain) (start : ℕ) (text : List ℕ) (at j : ℕ) (child : Block) : Type 0 where
  pub part : IsPart text behind start at
  pub few : j ≤ at - start
  pub opens : block behind (drop at text) ≡ Some child
  pub reads : ReadsChild row block behind docs_are_comments chain (at - start) j child last
      (drop start text)
  pub inside : at < start + line_len (drop start text)

-- the part is a line of this class, which ends at the place `end`, and takes so many steps
pub record IsLine (row : Row) (block : ℕ → List ℕ → Option Block) (behind : ℕ)
    (docs_are_comments : Bool)
    (chain last : Chain) (start : ℕ) (text : List ℕ) (steps : ℕ) (class : Class) (end : ℕ) : Type
    0 where
  pub some : start < end
  pub within : end ≤ length text
  pub part : end < length text → IsPart text behind end end
  pub few : steps ≤ end - start
  pub line : end ≡ start + length (first_line (drop start text))
  pub reads : ReadsLine row block behind docs_are_comments chain (end - start) steps class last
      (drop start text)

-- how the part reads, by its end: as a line of a class, or broken off at a child, for which it
-- takes one step more
abbrev pub ReadsTo : Row → (ℕ → List ℕ → Option Block) → ℕ → Bool → Chain → Chain → ℕ → List ℕ → ℕ
    → PartEnd → Type 0
ReadsTo row block behind docs_are_comments chain last start text steps (Line class end) =
    IsLine row block behind docs_are_comments chain last start text steps class end
ReadsTo row block behind docs_are_comments chain last start text steps (Broken at) =
    (k : Block) × (j : ℕ) × (steps ≡ j + 1)
    × Breaks row block behind docs_are_comments chain last start text at j k

-- The part that begins at `start` is a line, which ends at the place `end`, or is broken off by a
-- child at the place `at`; it takes so many steps, one of them for the child.
abbrev pub Reads : Row → (ℕ → List ℕ → Option Block) → ℕ → Bool → Chain → Chain → ℕ → List ℕ
    → PartRead → Type 0
Reads row block behind docs_are_comments chain last start text read =
    ReadsTo row block behind docs_are_comments chain last start text read.steps read.end
