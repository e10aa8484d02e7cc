-- The decoding of a file's contents. Behind a mark FE FF or FF FE they are UTF-16, and the mark is
-- dropped; each surrogate that has no partner, and an odd last byte, is the character U+FFFD. Other
-- contents stand as they are.
use Rattle.std.specs.Prelude.{ℕ, ◌+◌, ◌*◌, ◌%◌, ◌==◌, ◌&&◌, List, [], ◌∷◌, ◌++◌, length, drop}
use Rattle.std.specs.Prelude.{Option, None, Some, if◌then◌else◌}
use Rattle.std.specs.Char.Utf16.{utf16_lossy_chars}
use Rattle.std.specs.Str.{encode_utf8_all}
use Rattle.tokei_bytes.specs.declared.decoding.ByteOrder.{ByteOrder}
use Rattle.tokei_bytes.specs.declared.decoding.ByteOrder.TheVariants.{BigEndian, LittleEndian}

-- the order of the bytes that a mark at the front names
abbrev pub order_of : List ℕ → Option ByteOrder
order_of [] = None
order_of (a ∷ []) = None
order_of (a ∷ b ∷ rest) =
    if a == 0xFE && b == 0xFF then Some BigEndian
    else if a == 0xFF && b == 0xFE then Some LittleEndian
    else None

-- the unit of two bytes
abbrev pub unit_of : ByteOrder → ℕ → ℕ → ℕ
unit_of BigEndian a second = a * 256 + second
unit_of LittleEndian a second = second * 256 + a

-- the units of the bytes, two by two
abbrev pub units_of : ByteOrder → List ℕ → List ℕ
units_of order [] = []
units_of order (a ∷ []) = []
units_of order (a ∷ b ∷ rest) = unit_of order a b ∷ units_of order rest

-- the character of a last byte that is in no unit
abbrev pub odd_byte : List ℕ → List ℕ
odd_byte bytes = if length bytes % 2 == 1 then 0xFFFD ∷ [] else []

-- the UTF-8 of the characters that the bytes spell in UTF-16
abbrev pub text_of_units : ByteOrder → List ℕ → List ℕ
text_of_units order bytes =
    encode_utf8_all (utf16_lossy_chars (units_of order bytes) ++ odd_byte bytes)

-- the contents, where their mark is known
abbrev pub decoded_by : Option ByteOrder → List ℕ → List ℕ
decoded_by None bytes = bytes
decoded_by (Some order) bytes = text_of_units order (drop 2 bytes)

-- the contents as UTF-8, by the mark at their front
abbrev pub decoded : List ℕ → List ℕ
decoded bytes = decoded_by (order_of bytes) bytes
