-- How the reading of a text goes on from a place: what is left of it, given the items that enclose
-- the place.
use Rattle.std.specs.Prelude.{◌≡◌, ℕ, ◌+◌, ◌-◌, ◌<◌, ◌≤◌, Bool, true, if◌then◌else◌, ⊤}
use Rattle.std.specs.Prelude.{List, [], ◌∷◌, ◌++◌, take, drop, length, Option, None, Some}
use Rattle.tokei_table.specs.Openers.{openers}
use Rattle.tokei_table.specs.Row.{Row}
use Rattle.tokei_table.specs.Sound.{is_token}
use Rattle.tokei_embedding.specs.DocComments.{first_line}
use Rattle.tokei_table.specs.Bytes.{newline, line_len}
use Rattle.tokei_parts.specs.Items.{Block}
use Rattle.tokei_parts.specs.Choice.{choice}
use Rattle.tokei_parts.specs.Choice.Choice.{child_opens}
use Rattle.tokei_parts.specs.Derivation.{Body, derive}
use Rattle.tokei_parts.specs.Modes.{Mark, Chain, innermost, marks, closing}
use Rattle.tokei_parts.specs.Parts.{cut, part_front}
use Rattle.tokei_parts.specs.Glance.{walks}
use Rattle.tokei_parts.specs.Running.{running, choices_made}
use Rattle.tokei_table_row.specs.Counts.{Counts, plus}
use Rattle.tokei_parts.specs.Tally.{tally, one_of, children}
use Rattle.tokei_parts.specs.declared.class.Class.{Class}

module _ (row : Row) (block : ℕ → List ℕ → Option Block) where
  -- the body that is under way at the front of the text, where the items of the chain enclose it
  abbrev pub body : ℕ → Chain → List ℕ → Body
  body left chain text = derive row block text 0 left (innermost chain)

  -- the marks of what is left of the text: the body that is under way, its closer, and the bodies
  -- around it
  unfoldable pub marks_ahead : ℕ → Chain → List ℕ → List Mark
  marks_ahead left [] text = marks [] (body left [] text).items
  marks_ahead left (item ∷ chain) text = marks (item ∷ chain) (body left (item ∷ chain) text).items
      ++ (if (body left (item ∷ chain) text).closed
      then closing (item ∷ chain) chain item.closer
      ++ marks_ahead left chain (drop (body left (item ∷ chain) text).taken text)
      else [])

  -- Through the bytes taken of its line the text leads from the items of the chain to those of the
  -- next one. Among these bytes and a newline behind them that no choice of its own takes, so many
  -- choices begin more than where one takes it.
  pub record Leads (left : ℕ) (chain : Chain) (taken begun : ℕ) (next : Chain)
      (text : List ℕ) : Type 0 where
    pub within : taken ≤ line_len text
    pub same : (mode : _) (seen : List ℕ)
        → cut mode seen (innermost chain) (marks_ahead left chain text)
        ≡ cut mode (seen ++ take taken text) (innermost next)
        (marks_ahead left next (drop taken text))
    pub kids : children (marks_ahead left chain text)
        ≡ children (marks_ahead left next (drop taken text))
    pub choices : (mode : _) (seen : List ℕ) (so_far : ℕ)
        → running mode seen so_far text (marks_ahead left chain text)
        ≡ running mode (seen ++ take taken text) (so_far + begun) (drop taken text)
        (marks_ahead left next (drop taken text))

-- how many newlines end the first line: one, or none where the text ends it
abbrev pub newlines : List ℕ → ℕ
newlines text = length (first_line text) - line_len text

-- no child opens at a newline
pub record OpensInLine (block : ℕ → List ℕ → Option Block) : Type 0 where
  pub none : (left : ℕ) (behind : List ℕ) → block left (newline ∷ behind) ≡ None

-- each closer of the chain is a token
abbrev pub IsClosable : Chain → Type 0
IsClosable [] = ⊤
IsClosable (item ∷ chain) = (is_token item.closer ≡ true) × IsClosable chain

module _ (row : Row) (block : ℕ → List ℕ → Option Block) (left : ℕ) where
  -- one choice leads on from the chain to the next one: by the bytes taken, at least one, all of
  -- one line; one choice begins, or for one that takes the newline behind them too none
  pub record Goes (chain : Chain) (taken begun : ℕ) (next : Chain) (text : List ℕ) : Type 0 where
    pub leads : Leads row block left chain taken begun next text
    pub some : 0 < taken
    pub within : taken ≤ line_len text
    pub closable : IsClosable next

  -- the counts of the parts that are left, given these items
  abbrev pub counts_left : Bool → Chain → List ℕ → Counts
  counts_left docs_are_comments chain text = tally row docs_are_comments
      (cut (innermost chain) [] (innermost chain) (marks_ahead row block left chain text))

  -- the children that are left, given these items
  abbrev pub children_left : Chain → List ℕ → List Block
  children_left chain text = children (marks_ahead row block left chain text)

  -- the choices that are left in the parts that a reading walks, which skips the others or not,
  -- given these items
  abbrev pub steps_left : Bool → Chain → List ℕ → ℕ
  steps_left skips chain text = choices_made skips (openers row)
      (running (innermost chain) [] 0 text (marks_ahead row block left chain text))

  -- One line: the bytes taken. It is one part, of this class, in which so many choices begin, and
  -- the text goes on from the next chain.
  pub record ReadsLine (docs_are_comments : Bool) (chain : Chain) (taken begun : ℕ) (class : Class)
      (next : Chain) (text : List ℕ) : Type 0 where
    pub some : 0 < taken
    pub within : taken ≤ length text
    pub closable : IsClosable next
    pub counts : counts_left docs_are_comments chain text
        ≡ plus (one_of class) (counts_left docs_are_comments next (drop taken text))
    pub kids : children_left chain text ≡ children_left next (drop taken text)
    pub steps : (skips : Bool) → steps_left skips chain text
        ≡ (if walks skips (openers row) (innermost chain) (take taken text) then begun else 0)
        + steps_left skips next (drop taken text)

  -- A part that a child breaks off: the child opens behind the bytes taken, at which so many
  -- choices begin, in plain text, and the text goes on behind it.
  pub record ReadsChild (docs_are_comments : Bool) (chain : Chain) (taken begun : ℕ) (child : Block)
      (next : Chain) (text : List ℕ) : Type 0 where
    pub some : 0 < child.size
    pub within : taken + child.size ≤ length text
    pub plain : next ≡ []
    pub counts : counts_left docs_are_comments chain text
        ≡ tally row docs_are_comments (cut None [] None
        (marks_ahead row block (length text - (taken + child.size)) []
        (drop (taken + child.size) text)))
    pub kids : children_left chain text ≡ child ∷ children
        (marks_ahead row block (length text - (taken + child.size)) []
        (drop (taken + child.size) text))
    pub steps : (skips : Bool) → steps_left skips chain text
        ≡ (if walks skips (openers row) (innermost chain) (first_line text) then begun else 0)
        + choices_made skips (openers row) (running None [] 0 (drop (taken + child.size) text)
        (marks_ahead row block (length text - (taken + child.size)) []
        (drop (taken + child.size) text)))

  -- the child opens at the front of the text, which is plain there
  pub record OpensChild (chain : Chain) (child : Block) (next : Chain)
      (text : List ℕ) : Type 0 where
    pub before : chain ≡ []
    pub after : next ≡ []
    pub chosen : choice row None (block left text) text ≡ child_opens child

-- what the blocks of a text are held to: none opens at a newline; each takes a byte at least and no
-- more than there are
pub record FitsBlocks (block : ℕ → List ℕ → Option Block) : Type 0 where
  pub in_line : OpensInLine block
  pub some : (left : ℕ) (text : List ℕ) (child : Block) → block left text ≡ Some child
      → 0 < child.size
  pub within : (left : ℕ) (text : List ℕ) (child : Block) → block left text ≡ Some child
      → child.size ≤ length text

-- a part of the text that began at `start` is under way at the place, where `left` bytes were left
-- behind the last child
pub record IsPart (text : List ℕ) (left start place : ℕ) : Type 0 where
  pub low : start ≤ place
  pub high : place ≤ length text
  pub behind : length text - left ≤ start
  pub front : part_front text left (drop place text) ≡ take (place - start) (drop start text)
