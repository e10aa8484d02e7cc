-- What a part counts as: the first of ten rules that fits.
use Rattle.std.specs.Prelude.{ℕ, Bool, true, false, ◌&&◌, ◌||◌, not, if◌then◌else◌, List, None, Some, codes}
use Rattle.std.specs.List.{list_any}
use Rattle.std.specs.Str.{bytes_eq}
use Rattle.tokei_table.specs.Bytes.{begins, ends, trim, all_blank}
use Rattle.tokei_table.specs.Row.{Pair, Row}
use Rattle.tokei_parts.specs.Items.{Mode}
use Rattle.tokei_parts.specs.Choice.{any_begins}
use Rattle.tokei_parts.specs.Derivation.{closer_of}
use Rattle.tokei_parts.specs.Parts.{Part}
use Rattle.tokei_parts.specs.declared.class.Class.{Class}
use Rattle.tokei_parts.specs.declared.class.Class.TheVariants.{Blank, Code, Comment}
use Rattle.tokei_parts.specs.declared.items.ItemKind.{ItemKind}
use Rattle.tokei_parts.specs.declared.items.ItemKind.TheVariants.{DocString, VerbatimString, OrdinaryString}
use Rattle.tokei_parts.specs.declared.items.ItemKind.TheVariants.{MultiLineComment}

-- the kind is that of comments that may span lines
abbrev pub is_comment : ItemKind → Bool
is_comment DocString = false
is_comment VerbatimString = false
is_comment OrdinaryString = false
is_comment MultiLineComment = true

-- the kind is that of doc strings
abbrev pub is_doc_string : ItemKind → Bool
is_doc_string DocString = true
is_doc_string VerbatimString = false
is_doc_string OrdinaryString = false
is_doc_string MultiLineComment = false

-- in plain text, inside no item
abbrev pub is_plain : Mode → Bool
is_plain None = true
is_plain (Some e) = false

-- in a comment that may span lines: it is the innermost item
abbrev pub in_comment : Mode → Bool
in_comment None = false
in_comment (Some e) = is_comment e.kind

-- in a string of any kind
abbrev pub in_string : Mode → Bool
in_string None = false
in_string (Some e) = not (is_comment e.kind)

-- in a doc string: it is the innermost item
abbrev pub in_doc_string : Mode → Bool
in_doc_string None = false
in_doc_string (Some e) = is_doc_string e.kind

-- In the languages whose comments are told by their column the head is the part as it stands, else
-- the trimmed part.
abbrev pub keeps_columns : List ℕ → Bool
keeps_columns key = bytes_eq key (codes "FortranLegacy") || bytes_eq key (codes "FortranModern")

-- the head of a part: its bytes as they stand, or trimmed
abbrev pub head_of : Row → List ℕ → List ℕ
head_of row text = if keeps_columns row.key then text else trim text

-- some pair of the list opens at the front of the text and closes at its end; opener and closer may
-- overlap
abbrev pub encloses : List Pair → List ℕ → Bool
encloses ps text = list_any (λ p. begins p.opener text && ends p.closer text) ps

-- some pair of the list opens at the front of the text, and has this closer
abbrev pub opens_with : List Pair → List ℕ → List ℕ → Bool
opens_with ps text closer = list_any (λ p. begins p.opener text && bytes_eq p.closer closer) ps

-- the mode is a comment, and a pair that opens at the head closes as the innermost comment does
abbrev pub ends_opened : Row → List ℕ → Mode → Bool
ends_opened row head mode = in_comment mode
    && (opens_with row.multi_line_comments head (closer_of mode)
    || opens_with row.nested_comments head (closer_of mode))

-- The rules, in order. `docs_are_comments` says whether doc strings are treated as comments.
-- 1. begun plain and blank: blank
-- 2. a literate language: comment
-- 3. ends in a doc string, with `docs_are_comments`: comment
-- 4. ends in any other string: code
-- 5. begun in a comment, or in a doc string with `docs_are_comments`: comment
-- 6. begun in another string: code
-- 7. the head begins with a line comment: comment
-- 8. the trimmed part begins with a multi-line or nested opener and ends with the closer of that
-- pair: comment
-- 9. ends in a comment, and the head begins with an opener whose closer is the innermost one:
-- comment
-- 10. else code
unfoldable pub class_of : Row → Bool → Part → Class
class_of row docs_are_comments part =
    if is_plain part.begun && all_blank part.bytes then Blank
    else if row.literate then Comment
    else if in_doc_string part.ended && docs_are_comments then Comment
    else if in_string part.ended then Code
    else if in_comment part.begun || (in_doc_string part.begun && docs_are_comments) then Comment
    else if in_string part.begun then Code
    else if any_begins row.line_comment (head_of row part.bytes) then Comment
    else if encloses row.multi_line_comments (trim part.bytes)
    || encloses row.nested_comments (trim part.bytes)
    then Comment
    else if ends_opened row (head_of row part.bytes) part.ended then Comment
    else Code
