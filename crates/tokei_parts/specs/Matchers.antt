-- What the texts of a language are searched and walked with.
use Rattle.std.specs.Prelude.{ℕ, zero, suc, Bool, ◌||◌, ◌==◌, List, [], ◌∷◌, ◌++◌}
use Rattle.std.specs.List.{list_any}
use Rattle.tokei_table.specs.Bytes.{backslash}
use Rattle.tokei_table.specs.Families.{family_of}
use Rattle.tokei_table.specs.Family.{Family}
use Rattle.tokei_table.specs.FirstOpener.{is_first_of}
use Rattle.tokei_table.specs.Openers.{openers}
use Rattle.tokei_table.specs.Row.{Pair, Row}
use Rattle.tokei_parts.specs.PlainOpenings.{Opening, openings}

-- the byte is the first of an opener
abbrev pub begins_opener : List Pair → ℕ → Bool
begins_opener ps byte = list_any (λ p. is_first_of byte p.opener) ps

-- At the byte a choice other than a byte, a closer and a child can begin: it is a backslash, or the
-- first byte of an opener or a line comment.
abbrev pub begins_choice : Row → ℕ → Bool
begins_choice row byte =
    (byte == backslash)
    || (begins_opener row.quotes byte
    || (begins_opener row.verbatim_quotes byte || (begins_opener row.doc_quotes byte
    || (begins_opener row.multi_line_comments byte || (begins_opener row.nested_comments byte
    || list_any (is_first_of byte) row.line_comment)))))

-- In a comment one can begin: it is a backslash, or the first byte of a multi-line or nested
-- opener.
abbrev pub begins_in_comment : Row → ℕ → Bool
begins_in_comment row byte =
    (byte == backslash) || (begins_opener row.multi_line_comments byte || begins_opener
    row.nested_comments byte)

-- A comment can begin, of lines too: it is such a byte, or the first of a line comment.
abbrev pub begins_comment : Row → ℕ → Bool
begins_comment row byte = begins_in_comment row byte || list_any (is_first_of byte) row.line_comment

-- the test's answers for the bytes below n
abbrev pub flags : (ℕ → Bool) → ℕ → List Bool
flags f zero = []
flags f (suc n) = flags f n ++ f n ∷ []

-- the openers that a part is searched for, for each byte whether a choice can begin at it, in plain
-- text and in a comment, and whether a comment can, how the language opens children, and what opens
-- in plain text
pub record Matchers : Type 0 where
  pub openers : List (List ℕ)
  pub begins : List Bool
  pub begins_in_comment : List Bool
  pub begins_comment : List Bool
  pub family : Family
  pub openings : List Opening

-- the matchers that a row of the table gives
abbrev pub matchers_of : Row → Matchers
matchers_of row = record {
  openers = openers row;
  begins = flags (begins_choice row) 256;
  begins_in_comment = flags (begins_in_comment row) 256;
  begins_comment = flags (begins_comment row) 256;
  family = family_of row.key;
  openings = openings row;
}
