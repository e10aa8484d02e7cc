-- How a name is shown: what controls a terminal is escaped.
use Rattle.std.specs.Prelude.{◌≡◌, ℕ, List, ◌∷◌, ◌++◌, false, codes, encode_utf8, flat_map, if◌then◌else◌}
use Rattle.std.specs.Char.{is_control}
use Rattle.std.specs.Fmt.{digits}
use Rattle.std.specs.List.{list_any}
use Rattle.std.specs.Str.{IsUtf8, chars}

-- the byte of a backslash, `\`
abbrev pub backslash : ℕ
backslash = 92

-- a control character by its number, as `\u{1b}`
abbrev pub escaped : ℕ → List ℕ
escaped character = (backslash ∷ codes "u{") ++ (digits 16 false character ++ codes "}")

-- any other character is shown as it is
abbrev pub shown_char : ℕ → List ℕ
shown_char character = if is_control character then escaped character else encode_utf8 character

-- all characters of a text
abbrev pub shown : List ℕ → List ℕ
shown text = flat_map shown_char (chars text)

-- a text without control characters is shown as it is
abbrev pub ShowsPlain : Type 0
ShowsPlain =
    (text : List ℕ) → IsUtf8 text → list_any is_control (chars text) ≡ false → shown text ≡ text
