-- What each choice does, for the function that takes one.
use Rattle.std.proofs.Common.{◌≡◌, ℕ, ◌-◌, ◌<◌, ◌≤◌, true, List, [], ◌∷◌, length, Option, None, arith}
use Rattle.tokei_parts.proofs.Fits.{IsLocal, FitsIn, IsClosed, choice_fits}
use Rattle.tokei_parts.proofs.Leading.{lead_byte, lead_escape, lead_pass, lead_rest, lead_opener, lead_closer}
use Rattle.tokei_parts.specs.Choice.{Choice, choice}
use Rattle.tokei_parts.specs.Choice.Choice.{closes, escapes, opens, passes_over, begins_line_comment, takes_byte}
use Rattle.tokei_parts.specs.Items.{Block, Enclosure, enclosure}
use Rattle.tokei_table_row.specs.Bytes.{line_len}
use Rattle.tokei_parts.specs.Modes.{Chain, innermost}
use Rattle.tokei_parts.specs.Progress.{Leads, Goes, OpensInLine, IsClosable, newlines}
use Rattle.tokei_parts.specs.declared.items.ItemKind.{ItemKind}
use Rattle.tokei_table.specs.Row.{Row, Pair}
use Rattle.tokei_table.specs.Sound.{is_token, IsSound}

pub top_closed : (c : Chain) → IsClosable c → IsClosed (innermost c)
top_closed [] h = tt
top_closed (h ∷ c) k = k.0

module _ (g : Row) (block : ℕ → List ℕ → Option Block) (l : ℕ) (s : IsSound g) (o : OpensInLine block) where
  -- the choice at the front of u, where the items of c enclose it
  abbrev pub chosen : Chain → List ℕ → Choice
  chosen c u = choice g (innermost c) (block l u) u

  module _ (c : Chain) (u : List ℕ) (k : IsClosable c) (some : 0 < line_len u) where
    fits : (x : Choice) → chosen c u ≡ x → FitsIn (block l u) (innermost c) u x
    fits x e = rw e at (choice_fits g (block l u) (innermost c) u s (top_closed c k))

    pub goes_byte : chosen c u ≡ takes_byte → Goes g block l c 1 1 c u
    goes_byte e = record { leads = by_text u some e; some = omega arith; within = some; closable = k }
      where
        by_text : (u : List ℕ) → 0 < line_len u → chosen c u ≡ takes_byte → Leads g block l c 1 1 c u
        by_text [] h e = absurd (omega arith)
        by_text (b ∷ t) h e = lead_byte g block l c b t h e

    pub goes_escape : chosen c u ≡ escapes → Goes g block l c 2 1 c u
    goes_escape e = record { leads = by_text u (fits escapes e) e; some = omega arith; within = fits escapes e; closable = k }
      where
        by_text : (u : List ℕ) → 2 ≤ line_len u → chosen c u ≡ escapes → Leads g block l c 2 1 c u
        by_text [] h e = absurd (omega arith)
        by_text (b ∷ t) h e = lead_escape g block l c b t h e

    pub goes_pass : (p : Pair) → chosen c u ≡ passes_over p → Goes g block l c (length p.opener) 1 c u
    goes_pass p e = let h : IsLocal p.opener u = fits (passes_over p) e in record { leads = by_text u h e; some = h.some; within = h.fits; closable = k }
      where
        by_text : (u : List ℕ) → IsLocal p.opener u → chosen c u ≡ passes_over p → Leads g block l c (length p.opener) 1 c u
        by_text [] h e = absurd (omega (arith, h.some, h.fits))
        by_text (b ∷ t) h e = lead_pass g block l c b t p h e

    pub goes_opener : (q : ItemKind) (p : Pair) → chosen c u ≡ opens q p → Goes g block l c (length p.opener) 1 (enclosure q p ∷ c) u
    goes_opener q p e = let h : IsLocal p.opener u × (is_token p.closer ≡ true) = fits (opens q p) e in record { leads = by_text u h.0 e; some = h.0.some; within = h.0.fits; closable = (h.1, k) }
      where
        by_text : (u : List ℕ) → IsLocal p.opener u → chosen c u ≡ opens q p → Leads g block l c (length p.opener) 1 (enclosure q p ∷ c) u
        by_text [] h e = absurd (omega (arith, h.some, h.fits))
        by_text (b ∷ t) h e = lead_opener g block l c b t q p h e

    pub goes_rest : chosen c u ≡ begins_line_comment → Goes g block l c (line_len u) (1 - newlines u) c u
    goes_rest e = record { leads = by_text u some e; some = some; within = omega arith; closable = k }
      where
        by_text : (u : List ℕ) → 0 < line_len u → chosen c u ≡ begins_line_comment → Leads g block l c (line_len u) (1 - newlines u) c u
        by_text [] h e = absurd (omega arith)
        by_text (b ∷ t) h e = lead_rest g block l c b t s o (top_closed c k) h e

  pub goes_closer : (h : Enclosure) (c : Chain) (u : List ℕ) → IsClosable (h ∷ c) → 0 < line_len u → chosen (h ∷ c) u ≡ closes → Goes g block l (h ∷ c) (length h.closer) 1 c u
  goes_closer h c u k some e = let j : IsLocal h.closer u = fits (h ∷ c) u k some closes e in record { leads = by_text u j e; some = j.some; within = j.fits; closable = k.1 }
    where
      by_text : (u : List ℕ) → IsLocal h.closer u → chosen (h ∷ c) u ≡ closes → Leads g block l (h ∷ c) (length h.closer) 1 c u
      by_text [] j e = absurd (omega (arith, j.some, j.fits))
      by_text (b ∷ t) j e = lead_closer g block l h c b t j e

  -- outside strings and comments no closer is chosen
  pub no_closer : (u : List ℕ) → chosen [] u ≡ closes → ⊥
  no_closer u e = let j : IsLocal [] u = rw e at (choice_fits g (block l u) None u s tt) in omega (arith, j.some)
