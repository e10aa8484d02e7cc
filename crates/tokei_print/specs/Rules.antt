-- The rows that part others: as many strokes as there are columns.
use Rattle.std.specs.Prelude.{ℕ, List, [], ◌∷◌, ◌++◌, codes}
use Rattle.std.specs.List.{repeat}

-- what ends each row
abbrev pub newline : List ℕ
newline = codes "\n"

-- the bytes of a heavy stroke, `━`
abbrev pub heavy : List ℕ
heavy = 226 ∷ 148 ∷ 129 ∷ []

-- the bytes of a light stroke, `─`
abbrev pub light : List ℕ
light = 226 ∷ 148 ∷ 128 ∷ []

-- heavy strokes across all columns, as a line
abbrev pub row : ℕ → List ℕ
row columns = repeat columns heavy ++ newline

-- light strokes across all columns, as a line
abbrev pub subrow : ℕ → List ℕ
subrow columns = repeat columns light ++ newline
