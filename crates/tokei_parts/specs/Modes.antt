-- The mode at each place: the items that enclose it, begun before it, and ended after it or not
-- closed.
use Rattle.std.specs.Prelude.{ℕ, Bool, true, false, if◌then◌else◌, List, [], ◌∷◌, ◌++◌, None, Some}
use Rattle.tokei_parts.specs.Items.{Block, Item, Items, Enclosure, Mode, enclosure}
use Rattle.tokei_parts.specs.Items.Item.{one, escaped, passed_over, string_literal, comment, line_comment, child}
use Rattle.tokei_parts.specs.Items.Items.{none, more}
use Rattle.tokei_parts.specs.declared.items.ItemKind.TheVariants.{MultiLineComment}

-- the items that enclose a place, the innermost first; none of them is plain text
abbrev pub Chain : Type 0
Chain = List Enclosure

-- the innermost of them
abbrev pub innermost : Chain → Mode
innermost [] = None
innermost (e ∷ c) = Some e

-- a byte, whether a choice begins at it, and the chain at the place behind it; or a child
pub data Mark : Type 0 where
  byte_at : ℕ → Bool → Chain → Mark
  child_at : Block → Mark

-- bytes inside one choice, with the chain behind each
abbrev pub inside : Chain → List ℕ → List Mark
inside chain [] = []
inside chain (b ∷ t) = byte_at b false chain ∷ inside chain t

-- bytes of one choice, with the chain behind each
abbrev pub of_choice : Chain → List ℕ → List Mark
of_choice chain [] = []
of_choice chain (b ∷ t) = byte_at b true chain ∷ inside chain t

-- the bytes of a closer, the first being the beginning of a choice or not: its item, the innermost
-- of the first chain, encloses each place before its end, and the second chain encloses that
abbrev pub closing_from : Bool → Chain → Chain → List ℕ → List Mark
closing_from flag chain last [] = []
closing_from flag chain last (b ∷ []) = byte_at b flag last ∷ []
closing_from flag chain last (b ∷ b' ∷ t) =
    byte_at b flag chain ∷ closing_from false chain last (b' ∷ t)

-- the marks of the bytes of a closer, of which the first begins a choice
abbrev pub closing : Chain → Chain → List ℕ → List Mark
closing chain last text = closing_from true chain last text

-- the bytes of the items, in order, each with the chain behind it; the chain encloses the place
-- before them
unfoldable mutual
  pub marks : Chain → Items → List Mark
  marks c none = []
  marks c (more i is) = marks_of c i ++ marks c is

  -- those of one item
  pub marks_of : Chain → Item → List Mark
  marks_of c (one b) = byte_at b true c ∷ []
  marks_of c (escaped a b) = byte_at a true c ∷ byte_at b false c ∷ []
  marks_of c (passed_over p) = of_choice c p.opener
  marks_of c (string_literal k p is closed) = of_choice (enclosure k p ∷ c) p.opener
      ++ (marks (enclosure k p ∷ c) is
      ++ (if closed then closing (enclosure k p ∷ c) c p.closer else []))
  marks_of c (comment p is closed) = of_choice (enclosure MultiLineComment p ∷ c) p.opener
      ++ (marks (enclosure MultiLineComment p ∷ c) is
      ++ (if closed then closing (enclosure MultiLineComment p ∷ c) c p.closer else []))
  marks_of c (line_comment t) = of_choice c t
  marks_of c (child k t) = child_at k ∷ []
