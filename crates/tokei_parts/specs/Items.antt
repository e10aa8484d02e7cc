-- A text as nested items.
use Rattle.std.specs.Prelude.{ℕ, Bool, List, Option, option_map}
use Rattle.tokei_table_row.specs.Row.{Pair}
use Rattle.tokei_table_row.specs.Counts.{Counts}
use Rattle.tokei_parts.specs.declared.items.ItemKind.{ItemKind}
use Rattle.tokei_parts.specs.declared.items.ItemKind.TheVariants.{DocString, VerbatimString, OrdinaryString}
use Rattle.tokei_parts.specs.declared.items.ItemKind.TheVariants.{MultiLineComment}

-- what opens as a child: its language, its text, how many bytes of the parent it takes, and what it
-- adds to the parent's counts
pub record Block : Type 0 where
  pub language : ℕ
  pub contents : List ℕ
  pub size : ℕ
  pub share : Counts

-- a byte; an escape, of two bytes; an opener that is passed over in a comment; a string literal and
-- a comment, each with its pair, its body and whether its closer came; a line comment, through its
-- newline or to the text's end; a child, with the bytes that it takes
mutual
  pub data Item : Type 0 where
    one : ℕ → Item
    escaped : ℕ → ℕ → Item
    passed_over : Pair → Item
    string_literal : ItemKind → Pair → Items → Bool → Item
    comment : Pair → Items → Bool → Item
    line_comment : List ℕ → Item
    child : Block → List ℕ → Item

  -- items one after another
  pub data Items : Type 0 where
    none : Items
    more : Item → Items → Items

-- an item with a body, by its kind
abbrev pub enclosing_item : ItemKind → Pair → Items → Bool → Item
enclosing_item DocString pair is closed = string_literal DocString pair is closed
enclosing_item VerbatimString pair is closed = string_literal VerbatimString pair is closed
enclosing_item OrdinaryString pair is closed = string_literal OrdinaryString pair is closed
enclosing_item MultiLineComment pair is closed = comment pair is closed

-- an item that encloses a place: what it is, and its closer
pub record Enclosure : Type 0 where
  pub kind : ItemKind
  pub closer : List ℕ

-- the item that the pair opens
abbrev pub enclosure : ItemKind → Pair → Enclosure
enclosure k pair = record { kind = k; closer = pair.closer }

-- where a place stands: in the innermost item that encloses it, or plain
abbrev pub Mode : Type 0
Mode = Option Enclosure

-- the kind of the item, in plain text none
abbrev pub kind_in : Mode → Option ItemKind
kind_in mode = option_map (λ e. e.kind) mode
