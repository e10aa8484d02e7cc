-- What opens an item in plain text, or begins a line comment there, in the order of choices.
use Rattle.std.specs.Prelude.{ℕ, if◌then◌else◌, List, [], ◌∷◌, ◌++◌, map, Option, None, Some}
use Rattle.tokei_table_row.specs.Bytes.{begins}
use Rattle.tokei_table_row.specs.Row.{Pair, Row}
use Rattle.tokei_parts.specs.Choice.{Choice}
use Rattle.tokei_parts.specs.Choice.Choice.{opens, begins_line_comment, takes_byte}
use Rattle.tokei_parts.specs.declared.items.ItemKind.{ItemKind}
use Rattle.tokei_parts.specs.declared.items.ItemKind.TheVariants.{DocString, VerbatimString, OrdinaryString}
use Rattle.tokei_parts.specs.declared.items.ItemKind.TheVariants.{MultiLineComment}

-- what a token opens, with its closer; a line comment is no item, and has no closer
pub record Opening : Type 0 where
  pub item : Option ItemKind
  pub pair : Pair

-- the openers of items of a kind
abbrev pub item_openings : ItemKind → List Pair → List Opening
item_openings kind ps = map (λ p. record { item = Some kind; pair = p }) ps

-- the beginnings of line comments
abbrev pub line_openings : List (List ℕ) → List Opening
line_openings ts = map (λ t. record { item = None; pair = record { opener = t; closer = [] } }) ts

-- those of a row: of two that stand at one place the first is chosen
abbrev pub openings : Row → List Opening
openings row =
    item_openings DocString row.doc_quotes
    ++ (item_openings VerbatimString row.verbatim_quotes
    ++ (item_openings OrdinaryString row.quotes
    ++ (item_openings MultiLineComment row.multi_line_comments
    ++ (item_openings MultiLineComment row.nested_comments
    ++ line_openings row.line_comment))))

-- what it chooses where its token stands
abbrev pub chosen : Option ItemKind → Pair → Choice
chosen None pair = begins_line_comment
chosen (Some kind) pair = opens kind pair

-- what the first whose token stands at the front of the text chooses, or else that choice
abbrev pub first_or : List Opening → List ℕ → Choice → Choice
first_or [] text other = other
first_or (o ∷ os) text other =
    if begins o.pair.opener text then chosen o.item o.pair else first_or os text other

-- the same, or else one byte
abbrev pub first_opening : List Opening → List ℕ → Choice
first_opening os text = first_or os text takes_byte
