-- The derivation: a recursion on the text that gives its items. It knows no lines.
use Rattle.std.specs.Prelude.{ℕ, zero, suc, ◌+◌, ◌-◌, Bool, true, false}
use Rattle.std.specs.Prelude.{List, [], ◌∷◌, length, take, Option, None, Some}
use Rattle.tokei_table.specs.Row.{Row}
use Rattle.tokei_embedding.specs.DocComments.{first_line}
use Rattle.tokei_parts.specs.Items.{Block, Item, Items, Mode, enclosing_item, enclosure}
use Rattle.tokei_parts.specs.Items.Item.{one, escaped, passed_over, line_comment, child}
use Rattle.tokei_parts.specs.Items.Items.{none, more}
use Rattle.tokei_parts.specs.Choice.{Choice, choice}
use Rattle.tokei_parts.specs.Choice.Choice.{closes, escapes, child_opens, opens, passes_over}
use Rattle.tokei_parts.specs.Choice.Choice.{begins_line_comment, takes_byte}

-- The items of a body, how many bytes they and the closer have, and whether the closer came. A body
-- ends before the first place at which its own closer is the choice, or at the text's end.
pub record Body : Type 0 where
  pub items : Items
  pub taken : ℕ
  pub closed : Bool

-- the body that has come to the text's end
abbrev pub ended : Body
ended = record { items = none; taken = 0; closed = false }

-- an item of that size, and the body that goes on behind it
abbrev pub before : Item → ℕ → Body → Body
before item size body = record
    { items = more item body.items; taken = size + body.taken; closed = body.closed }

-- behind an item that isn't closed nothing stands
abbrev pub behind : Bool → Body → Body
behind true body = body
behind false body = ended

-- the closer of the item that encloses the place, in plain text nothing
abbrev pub closer_of : Mode → List ℕ
closer_of None = []
closer_of (Some e) = e.closer

-- the first byte, as the second of an escape
abbrev pub second : List ℕ → ℕ
second [] = 0
second (b ∷ t) = b

-- The body of the mode that stands at the front of byte ∷ text, by the choice there. `go n l m` is
-- the body of mode m in the text without its first n bytes, where l bytes were left behind the last
-- child.
abbrev pub follow : Choice → ℕ → List ℕ → ℕ → Mode → (ℕ → ℕ → Mode → Body) → Body
follow closes byte text left mode go =
    record { items = none; taken = length (closer_of mode); closed = true }
follow escapes byte text left mode go = before (escaped byte (second text)) 2 (go 1 left mode)
follow (child_opens k) byte text left mode go =
    before (child k (take k.size (byte ∷ text))) k.size
    (go (k.size - 1) (length (byte ∷ text) - k.size) mode)
follow (opens k p) byte text left mode go =
    let inner : Body = go (length p.opener - 1) left (Some (enclosure k p)) in
    before (enclosing_item k p inner.items inner.closed) (length p.opener + inner.taken)
    (behind inner.closed (go (length p.opener - 1 + inner.taken) left mode))
follow (passes_over p) byte text left mode go =
    before (passed_over p) (length p.opener) (go (length p.opener - 1) left mode)
follow begins_line_comment byte text left mode go =
    before (line_comment (first_line (byte ∷ text))) (length (first_line (byte ∷ text)))
    (go (length (first_line (byte ∷ text)) - 1) left mode)
follow takes_byte byte text left mode go = before (one byte) 1 (go 0 left mode)

-- The body of the mode in the text without its first n bytes. `block l s` is the child that opens
-- at the front of s, where l bytes were left behind the last child.
unfoldable pub derive : Row → (ℕ → List ℕ → Option Block) → List ℕ → ℕ → ℕ → Mode → Body
derive row block [] size left mode = ended
derive row block (b ∷ t) (suc n) left mode = derive row block t n left mode
derive row block (b ∷ t) zero left mode =
    follow (choice row mode (block left (b ∷ t)) (b ∷ t)) b t left mode (derive row block t)

-- the items of the whole text
abbrev pub items_of : Row → (ℕ → List ℕ → Option Block) → List ℕ → Items
items_of row block text = (derive row block text 0 (length text) None).items

-- no child opens
abbrev pub no_child : ℕ → List ℕ → Option Block
no_child left text = None
