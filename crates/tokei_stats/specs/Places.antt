-- Texts in places of a printed row. Places count characters, and a text that is longer is not cut.
use Rattle.std.specs.Prelude.{ℕ, ◌-◌, List, ◌++◌, length, replicate, decimal}
use Rattle.std.specs.Fmt.{char_count}
use Rattle.tokei_table_row.specs.Bytes.{space}

-- left in the width
abbrev pub left_in : ℕ → List ℕ → List ℕ
left_in width text = text ++ replicate (width - char_count text) space

-- a plain decimal number right in the width; each digit is a byte
abbrev pub number_in : ℕ → ℕ → List ℕ
number_in width number = replicate (width - length (decimal number)) space ++ decimal number
