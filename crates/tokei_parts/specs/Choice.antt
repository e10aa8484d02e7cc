-- The choice at a place: the first that fits there, in a string, in a comment, and in plain text.
use Rattle.std.specs.Prelude.{ℕ, Bool, true, false, ◌&&◌, ◌||◌, ◌==◌, if◌then◌else◌}
use Rattle.std.specs.Prelude.{List, [], ◌∷◌, Option, None, Some, is_some, find}
use Rattle.std.specs.List.{list_any}
use Rattle.std.specs.Str.{bytes_eq}
use Rattle.tokei_table_row.specs.Bytes.{backslash, begins}
use Rattle.tokei_table_row.specs.Row.{Pair, Row}
use Rattle.tokei_parts.specs.Items.{Block, Mode}
use Rattle.tokei_parts.specs.declared.items.ItemKind.{ItemKind}
use Rattle.tokei_parts.specs.declared.items.ItemKind.TheVariants.{DocString, VerbatimString, OrdinaryString}
use Rattle.tokei_parts.specs.declared.items.ItemKind.TheVariants.{MultiLineComment}

-- what is read at a place; where nothing else fits, the byte that stands there
pub data Choice : Type 0 where
  closes : Choice
  escapes : Choice
  child_opens : Block → Choice
  opens : ItemKind → Pair → Choice
  passes_over : Pair → Choice
  begins_line_comment : Choice
  takes_byte : Choice

-- the first pair whose opener stands at the front of the text
abbrev pub opened : List Pair → List ℕ → Option Pair
opened ps text = find (λ p. begins p.opener text) ps

-- some token stands at the front of the text
abbrev pub any_begins : List (List ℕ) → List ℕ → Bool
any_begins ps text = list_any (λ p. begins p text) ps

-- f of the value, or the default where there is none
abbrev pub or_else : {A B : Type 0} → Option A → (A → B) → B → B
or_else None f b = b
or_else (Some a) f b = f a

-- an escape is a backslash before a backslash, or before an opener of `quotes`; both are two bytes
-- long
abbrev pub is_escape : Row → List ℕ → Bool
is_escape row [] = false
is_escape row (b ∷ t) = (b == backslash) &&
    (begins (backslash ∷ []) t || is_some (opened row.quotes t))

-- the pair, with both its texts, stands in the list
abbrev pub has_pair : List Pair → Pair → Bool
has_pair qs pair = list_any (λ q. bytes_eq q.opener pair.opener && bytes_eq q.closer pair.closer) qs

-- A multi-line opener that is met inside a comment opens where `nested` is true or its pair is in
-- `nested_comments`; else it is passed over whole.
abbrev pub met_in_comment : Row → Pair → Choice
met_in_comment row pair =
    if row.nested || has_pair row.nested_comments pair then opens MultiLineComment pair else
    passes_over pair

-- in a string: its closer; an escape, unless the string is verbatim; one byte
abbrev pub choice_in_string : Row → Bool → List ℕ → List ℕ → Choice
choice_in_string row verbatim closer text =
    if begins closer text then closes
    else if (if verbatim then false else is_escape row text) then escapes
    else takes_byte

-- in a comment: an escape; the innermost closer; a multi-line opener, then a nested opener; one
-- byte
abbrev pub choice_in_comment : Row → List ℕ → List ℕ → Choice
choice_in_comment row closer text =
    if is_escape row text then escapes
    else if begins closer text then closes
    else or_else (opened row.multi_line_comments text) (met_in_comment row) (
    or_else (opened row.nested_comments text) (opens MultiLineComment) takes_byte)

-- in plain text where no string opens: a multi-line comment; a nested comment; a line comment; one
-- byte
abbrev pub comment_in_plain : Row → List ℕ → Choice
comment_in_plain row text =
    or_else (opened row.multi_line_comments text) (opens MultiLineComment) (
    or_else (opened row.nested_comments text) (opens MultiLineComment) (
    if any_begins row.line_comment text then begins_line_comment else takes_byte))

-- where no child opens and no escape stands: a doc quote; a verbatim quote; a quote; else as where
-- no string opens
abbrev pub opening_in_plain : Row → List ℕ → Choice
opening_in_plain row text =
    or_else (opened row.doc_quotes text) (opens DocString) (
    or_else (opened row.verbatim_quotes text) (opens VerbatimString) (
    or_else (opened row.quotes text) (opens OrdinaryString) (comment_in_plain row text)))

-- in plain text: an escape; a child; else as where none of both is
abbrev pub choice_in_plain : Row → Option Block → List ℕ → Choice
choice_in_plain row block text =
    if is_escape row text then escapes else or_else block child_opens (opening_in_plain row text)

-- by the kind of the item that encloses the place
abbrev pub choice_within : Row → ItemKind → List ℕ → List ℕ → Choice
choice_within row DocString closer text = choice_in_string row false closer text
choice_within row VerbatimString closer text = choice_in_string row true closer text
choice_within row OrdinaryString closer text = choice_in_string row false closer text
choice_within row MultiLineComment closer text = choice_in_comment row closer text

-- the first choice that fits at the front of the text; `block` is the child that may open there
unfoldable pub choice : Row → Mode → Option Block → List ℕ → Choice
choice row None block text = choice_in_plain row block text
choice row (Some e) block text = choice_within row e.kind e.closer text
