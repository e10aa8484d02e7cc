-- The bytes that items spell.
use Rattle.std.specs.Prelude.{◌≡◌, ℕ, ◌<◌, if◌then◌else◌, List, [], ◌∷◌, ◌++◌, Option, Some}
use Rattle.tokei_table.specs.Row.{Row}
use Rattle.tokei_table.specs.Sound.{IsSound}
use Rattle.tokei_parts.specs.Items.{Block, Item, Items}
use Rattle.tokei_parts.specs.Items.Item.{one, escaped, passed_over, string_literal, comment, line_comment, child}
use Rattle.tokei_parts.specs.Items.Items.{none, more}
use Rattle.tokei_parts.specs.Derivation.{items_of}
use Rattle.tokei_count.specs.Languages.{languages_of}
use Rattle.tokei_count.specs.Steps.{items_in}
use Rattle.tokei_count.specs.WeightLaws.{HaveTokens}

-- an item with a body spells its opener, its body and, where it is closed, its closer
unfoldable mutual
  pub spelled : Items → List ℕ
  spelled none = []
  spelled (more i is) = spelled_by i ++ spelled is

  -- the bytes of one item
  pub spelled_by : Item → List ℕ
  spelled_by (one b) = b ∷ []
  spelled_by (escaped a b) = a ∷ b ∷ []
  spelled_by (passed_over p) = p.opener
  spelled_by (string_literal k p is closed) =
      p.opener ++ (spelled is ++ (if closed then p.closer else []))
  spelled_by (comment p is closed) = p.opener ++ (spelled is ++ (if closed then p.closer else []))
  spelled_by (line_comment t) = t
  spelled_by (child k t) = t

-- each block takes a byte at least
pub record TakesBytes (block : ℕ → List ℕ → Option Block) : Type 0 where
  pub some : (l : ℕ) (t : List ℕ) (k : Block) → block l t ≡ Some k → 0 < k.size

-- the law: by sound tokens the items of a text spell it, whatever children open
abbrev pub ItemsSpellText : Type 0
ItemsSpellText =
    (r : Row) (block : ℕ → List ℕ → Option Block) (t : List ℕ) → IsSound r → TakesBytes block
    → spelled (items_of r block t) ≡ t

-- so it is with each text, by a table of which all texts that a count looks for are tokens
abbrev pub TextsAreSpelled : Type 0
TextsAreSpelled = (rows : List Row) → HaveTokens rows → (levels language : ℕ) (t : List ℕ)
    → spelled (items_in (languages_of rows) levels language t) ≡ t
