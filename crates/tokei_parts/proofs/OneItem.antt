-- What each choice does at a place which one item encloses at most.
use Rattle.std.proofs.Common.{◌≡◌, ◌∙◌, ◌-◌, ◌<◌, ℕ, List, [], ◌∷◌, Option, None, Some, ap, arith, drop, length, refl, sym, subst, zero, suc, ◌++◌}
use Rattle.tokei_table.specs.Family.TheVariants.{Plain}
use Rattle.tokei_table.specs.Families.{family_of}
use Rattle.tokei_table.specs.Lookups.{row_at}
use Rattle.tokei_table.specs.Row.{Pair, Row}
use Rattle.tokei_parts.specs.Choice.{Choice}
use Rattle.tokei_parts.specs.Choice.Choice.{begins_line_comment, closes, escapes, opens, passes_over, takes_byte}
use Rattle.tokei_parts.specs.Items.{enclosure, kind_in}
use Rattle.tokei_parts.specs.LineWalk.{chain_in, item_in, mode_in}
use Rattle.tokei_embedding.specs.DocComments.{first_line}
use Rattle.tokei_table_row.specs.Bytes.{line_len}
use Rattle.tokei_parts.specs.Modes.{innermost}
use Rattle.tokei_parts.specs.Openings.{block_by, block_in}
use Rattle.tokei_parts.specs.Parts.{part_front}
use Rattle.tokei_parts.specs.Places.{block_from, choice_from, text_of}
use Rattle.tokei_parts.specs.Progress.{OpensInLine, newlines}
use Rattle.tokei_parts.specs.Reached.{IsReached}
use Rattle.tokei_parts.specs.ReadingOf.{blocks_of, row_in}
use Rattle.tokei_parts.specs.SeenChoices.{enclosure_of, mode_of}
use Rattle.tokei_parts.specs.Tally.{blocks_at}
use Rattle.tokei_parts.specs.declared.items.Enclosure as Code
use Rattle.tokei_parts.specs.declared.items.ItemKind.{ItemKind}
use Rattle.tokei_parts.specs.declared.items.LineItem.{LineItem}
use Rattle.tokei_parts.specs.declared.place.Place.{Place}
use Rattle.tokei_parts.specs.declared.walk.Reach.{Reach}
use Rattle.tokei_parts.proofs.Blocks.{blocks_fit}
use Rattle.tokei_parts.proofs.Reaching.{reach_here}
use Rattle.tokei_parts.proofs.Stepping.{goes_byte, goes_closer, goes_escape, goes_opener, goes_pass, goes_rest, no_closer}
use Rattle.tokei_parts.proofs.Walking.{GoesIn}

-- the kind and the closer that the walk of a line keeps are those of the item
pub kind_of_item : (item : LineItem) → kind_in (mode_of (item_in item)) ≡ item.kind
kind_of_item item = by_kind item.kind
  where
    by_kind : (kind : Option ItemKind) → kind_in (mode_of (item_in (record { kind = kind; closer = item.closer }))) ≡ kind
    by_kind None = refl
    by_kind (Some k) = refl

pub mode_of_item : (item : LineItem) → mode_in item.kind item.closer.now ≡ mode_of (item_in item)
mode_of_item item = by_kind item.kind
  where
    by_kind : (kind : Option ItemKind) → mode_in kind item.closer.now ≡ mode_of (item_in (record { kind = kind; closer = item.closer }))
    by_kind None = refl
    by_kind (Some k) = refl

-- the innermost item is that one
pub innermost_in : (item : Option Code.Enclosure) → innermost (chain_in item) ≡ mode_of item
innermost_in None = refl
innermost_in (Some item) = refl

module _ (p : Place) (item : Option Code.Enclosure) (reach : Reach) (reached : IsReached p (chain_in item) reach) (more : reach.at < p.end) where
  calm : OpensInLine (blocks_of p.reading.now)
  calm = (blocks_fit p.reading.now).in_line

  some : 0 < line_len (drop reach.at (text_of p))
  some = omega (arith, more, (reach_here p reached.0 (chain_in item) reach.at reach.steps reached.1 more).line)

  -- the choice there is that of the chain
  at_chain : (x : Choice) → choice_from p reach.at (mode_of item) ≡ x → choice_from p reach.at (innermost (chain_in item)) ≡ x
  at_chain x e = ap (choice_from p reach.at) (innermost_in item) ∙ e

  pub byte_goes : choice_from p reach.at (mode_of item) ≡ takes_byte → GoesIn p (chain_in item) 1 1 (chain_in item) reach.at
  byte_goes e =
      goes_byte (row_in p.reading.now) (blocks_of p.reading.now) p.behind_child p.reading.now.sound calm (chain_in item)
      (drop reach.at (text_of p)) reached.1.closable some (at_chain takes_byte e)

  pub escape_goes : choice_from p reach.at (mode_of item) ≡ escapes → GoesIn p (chain_in item) 2 1 (chain_in item) reach.at
  escape_goes e =
      goes_escape (row_in p.reading.now) (blocks_of p.reading.now) p.behind_child p.reading.now.sound calm (chain_in item)
      (drop reach.at (text_of p)) reached.1.closable some (at_chain escapes e)

  pub pass_goes : (pair : Pair) → choice_from p reach.at (mode_of item) ≡ passes_over pair → GoesIn p (chain_in item) (length pair.opener) 1 (chain_in item) reach.at
  pass_goes pair e =
      goes_pass (row_in p.reading.now) (blocks_of p.reading.now) p.behind_child p.reading.now.sound calm (chain_in item)
      (drop reach.at (text_of p)) reached.1.closable some pair (at_chain (passes_over pair) e)

  pub rest_goes : choice_from p reach.at (mode_of item) ≡ begins_line_comment
      → GoesIn p (chain_in item) (line_len (drop reach.at (text_of p))) (1 - newlines (drop reach.at (text_of p))) (chain_in item) reach.at
  rest_goes e =
      goes_rest (row_in p.reading.now) (blocks_of p.reading.now) p.behind_child p.reading.now.sound calm (chain_in item)
      (drop reach.at (text_of p)) reached.1.closable some (at_chain begins_line_comment e)

-- the closer of the item
pub closer_goes : (p : Place) (around : Code.Enclosure) (reach : Reach) → IsReached p (chain_in (Some around)) reach → reach.at < p.end
    → choice_from p reach.at (mode_of (Some around)) ≡ closes
    → GoesIn p (chain_in (Some around)) (length around.closer.now) 1 (chain_in None) reach.at
closer_goes p around reach reached more e =
    goes_closer (row_in p.reading.now) (blocks_of p.reading.now) p.behind_child p.reading.now.sound (blocks_fit p.reading.now).in_line (enclosure_of around) []
    (drop reach.at (text_of p)) reached.1.closable (some p (Some around) reach reached more) e

-- outside items no closer is chosen
pub closer_none : (p : Place) (at : ℕ) → choice_from p at (mode_of None) ≡ closes → ⊥
closer_none p at e =
    no_closer (row_in p.reading.now) (blocks_of p.reading.now) p.behind_child p.reading.now.sound (blocks_fit p.reading.now).in_line (drop at (text_of p)) e

-- the opener of an item in plain text
pub opener_goes : (p : Place) (new : Code.Enclosure) (reach : Reach) (kind : ItemKind) (pair : Pair) → IsReached p (chain_in None) reach → reach.at < p.end
    → choice_from p reach.at (mode_of None) ≡ opens kind pair → enclosure kind pair ≡ enclosure_of new
    → GoesIn p (chain_in None) (length pair.opener) 1 (chain_in (Some new)) reach.at
opener_goes p new reach kind pair reached more e same =
    subst (λ h. GoesIn p [] (length pair.opener) 1 (h ∷ []) reach.at) same
    (goes_opener (row_in p.reading.now) (blocks_of p.reading.now) p.behind_child p.reading.now.sound (blocks_fit p.reading.now).in_line []
    (drop reach.at (text_of p)) reached.1.closable (some p None reach reached more) kind pair e)

-- in a language that opens no children no block opens
plain_by_levels : (rows : List Row) (language : ℕ) (text : List ℕ) (n : ℕ) (behind : ℕ) (rest : List ℕ) → family_of (row_at rows language).key ≡ Plain
    → blocks_at (block_in rows) n language text behind rest ≡ None
plain_by_levels rows language text zero behind rest is = refl
plain_by_levels rows language text (suc n) behind rest is =
    ap (λ f. block_by f rows language text (part_front text behind rest ++ first_line rest) (length (part_front text behind rest)) rest) is

pub block_none : (p : Place) (at : ℕ) → p.reading.now.family ≡ Plain → block_from p at ≡ None
block_none p at is =
    plain_by_levels p.reading.now.table.now p.reading.now.language (text_of p) p.reading.now.levels p.behind_child (drop at (text_of p)) (sym p.reading.now.opens ∙ is)
