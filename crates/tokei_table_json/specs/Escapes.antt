-- Escapes in the texts of a table, by their characters: those of a string literal in Rust source.
use Rattle.std.specs.Prelude.{ℕ, ◌==◌, ◌&&◌, List, [], ◌∷◌, Bool, true, false, if◌then◌else◌, encode_utf8_all}
use Rattle.std.specs.Prelude.{Option, Some, None, is_some, unwrap_or}
use Rattle.std.specs.Str.{chars}

-- The character of code 0, which `\0` stands for.
abbrev pub nul : ℕ
nul = 0

-- The tab, which `\t` stands for.
abbrev pub tab : ℕ
tab = 9

-- The newline, which `\n` stands for.
abbrev pub newline : ℕ
newline = 10

-- The carriage return, which `\r` stands for.
abbrev pub carriage_return : ℕ
carriage_return = 13

-- The double quote, `"`.
abbrev pub quote_mark : ℕ
quote_mark = 34

-- The single quote, `'`.
abbrev pub apostrophe : ℕ
apostrophe = 39

-- The backslash, which begins each escape.
abbrev pub backslash : ℕ
backslash = 92

-- The character `0` behind the backslash of an escape.
abbrev pub digit_0 : ℕ
digit_0 = 48

-- The character `n` behind the backslash of an escape.
abbrev pub letter_n : ℕ
letter_n = 110

-- The character `r` behind the backslash of an escape.
abbrev pub letter_r : ℕ
letter_r = 114

-- The character `t` behind the backslash of an escape.
abbrev pub letter_t : ℕ
letter_t = 116

-- What a character behind a backslash stands for.
abbrev pub escape_value : ℕ → Option ℕ
escape_value character =
    if character == backslash then Some backslash
    else (if character == quote_mark then Some quote_mark
    else (if character == apostrophe then Some apostrophe
    else (if character == letter_t then Some tab
    else (if character == letter_r then Some carriage_return
    else (if character == letter_n then Some newline
    else (if character == digit_0 then Some nul
    else None))))))

-- Whether each backslash begins an escape; `is_escape` asks it of the characters behind a
-- backslash.
abbrev mutual
  pub is_escaped : List ℕ → Bool
  is_escaped [] = true
  is_escaped (c ∷ cs) = if c == backslash then is_escape cs else is_escaped cs

  -- Whether a known escape goes on here, behind its backslash, and what follows is escaped.
  pub is_escape : List ℕ → Bool
  is_escape [] = false
  is_escape (c ∷ cs) = is_some (escape_value c) && is_escaped cs

-- The characters after escapes; `after_backslash` has those behind a backslash.
abbrev mutual
  pub unescaped : List ℕ → List ℕ
  unescaped [] = []
  unescaped (c ∷ cs) = if c == backslash then after_backslash cs else c ∷ unescaped cs

  -- The same behind a backslash: an unknown escape stands for its own character.
  pub after_backslash : List ℕ → List ℕ
  after_backslash [] = []
  after_backslash (c ∷ cs) = unwrap_or (escape_value c) c ∷ unescaped cs

-- Whether each backslash of a text begins an escape.
abbrev pub is_escaped_text : List ℕ → Bool
is_escaped_text text = is_escaped (chars text)

-- A text after escapes.
abbrev pub unescaped_text : List ℕ → List ℕ
unescaped_text text = encode_utf8_all (unescaped (chars text))
