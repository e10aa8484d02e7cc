-- Parts: the text outside the children, cut behind each newline and at each child.
use Rattle.std.specs.Prelude.{ℕ, ◌-◌, ◌==◌, if◌then◌else◌, List, [], ◌∷◌, ◌++◌, length, take, drop, None}
use Rattle.tokei_table.specs.Bytes.{newline}
use Rattle.tokei_parts.specs.Items.{Mode}
use Rattle.tokei_parts.specs.Modes.{Mark, innermost}
use Rattle.tokei_parts.specs.Modes.Mark.{byte_at, child_at}

-- a part that is counted: the mode at its beginning, its bytes, the mode at its end
pub record Part : Type 0 where
  pub begun : Mode
  pub bytes : List ℕ
  pub ended : Mode

-- The parts of the marks. The part under way began in the mode, has the text so far, and is in the
-- last mode. Counted are the parts that have bytes and end with a newline or at the text's end; a
-- part that a child breaks off isn't.
unfoldable pub cut : Mode → List ℕ → Mode → List Mark → List Part
cut mode text last [] = elim text
    [ [] ↦ [] | a ∷ s' ↦ record { begun = mode; bytes = a ∷ s'; ended = last } ∷ [] ]
cut mode text last (byte_at b x c ∷ ms) =
    if b == newline
    then record { begun = mode; bytes = text ++ b ∷ []; ended = innermost c }
    ∷ cut (innermost c) [] (innermost c) ms
    else cut mode (text ++ b ∷ []) (innermost c) ms
cut mode text last (child_at k ∷ ms) = cut None [] None ms

-- the parts of a whole text, which begins plain
abbrev pub parts_of : List Mark → List Part
parts_of ms = cut None [] None ms

-- the end of a text to which bytes are added: what is behind the last newline of the bytes
abbrev pub behind_newline : List ℕ → List ℕ → List ℕ
behind_newline text [] = text
behind_newline text (b ∷ t) =
    if b == newline then behind_newline [] t else behind_newline (text ++ b ∷ []) t

-- The bytes of the part under way before a place of the text, of which `rest` is left there, where
-- so many bytes were left behind the last child: those behind that child and behind the last
-- newline.
abbrev pub part_front : List ℕ → ℕ → List ℕ → List ℕ
part_front text behind rest =
    behind_newline [] (drop (length text - behind) (take (length text - length rest) text))
