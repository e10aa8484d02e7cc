-- The bytes that the lines of a plain text are searched for.
use Rattle.std.specs.Prelude.{◌≡◌, ℕ, ◌<◌, ◌||◌, Bool, true, false, List}
use Rattle.tokei_bytes.specs.ByteSets.{is_in}
use Rattle.tokei_bytes.specs.Slots.{in_slots, is_slotted}
use Rattle.tokei_table.specs.Bytes.{is_blank}
use Rattle.tokei_table.specs.FirstOpener.{is_first}
use Rattle.tokei_table_search.specs.Tellers.{AreTellers}
use Rattle.tokei_parts.specs.declared.line_marks.LineMarks.{LineMarks}

-- whether lines are searched for the byte: it stands in the slot of its low half, in one of two tables
abbrev pub is_marked : LineMarks → ℕ → Bool
is_marked marks = in_slots marks.slots marks.others

-- no byte stands in the second table
abbrev pub AreInOne : LineMarks → Type 0
AreInOne marks = (x : ℕ) → is_slotted marks.others x ≡ false

-- At a byte that isn't marked no choice of the flags can begin and no opener, and the blanks are such
-- bytes.
pub record AreMarks (is_mark : ℕ → Bool) (begins : List Bool)
    (openers : List (List ℕ)) : Type 0 where
  pub choices : (x : ℕ) → x < 256 → is_mark x ≡ false → is_in begins x ≡ false
  pub none : (x : ℕ) → is_mark x ≡ false → is_first openers x ≡ false
  pub blanks : (x : ℕ) → is_blank x ≡ true → is_mark x ≡ false

-- The bytes in the tables are such, and no others; the second table has some only where it is said;
-- the other bytes tell the openers.
pub record AreLineMarks (marks : LineMarks) (begins : List Bool)
    (openers : List (List ℕ)) : Type 0 where
  pub slots : AreMarks (is_marked marks) begins openers
  pub only : (x : ℕ) → x < 256 → is_marked marks x ≡ (is_in begins x || is_first openers x)
  pub one : marks.in_one ≡ true → AreInOne marks
  pub tellers : AreTellers marks.tellers openers
