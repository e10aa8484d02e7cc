-- The marks of a text have no more bytes than it, and its children are what opens in it.
use Rattle.std.proofs.Common.{◌≡◌, ℕ, zero, suc, ◌-◌, ◌<◌, ◌≤◌, true, false, List, [], ◌∷◌, ◌++◌, length, drop, Option, Some, refl, sym, subst, arith, length-drop}
use Rattle.std.specs.Prelude.{⊤}
use Rattle.tokei_table.specs.Row.{Row}
use Rattle.tokei_table.specs.Sound.{IsSound}
use Rattle.tokei_parts.specs.Choice.{Choice, choice}
use Rattle.tokei_parts.specs.Choice.Choice.{closes, escapes, child_opens, opens, passes_over, begins_line_comment, takes_byte}
use Rattle.tokei_parts.specs.Derivation.{items_of, second}
use Rattle.tokei_parts.specs.Items.{Block, enclosure}
use Rattle.tokei_embedding.specs.DocComments.{first_line}
use Rattle.tokei_parts.specs.Modes.{Mark, Chain, innermost, marks, of_choice, closing}
use Rattle.tokei_parts.specs.Modes.Mark.{byte_at}
use Rattle.tokei_parts.specs.Tally.{children}
use Rattle.tokei_parts.specs.Progress.{marks_ahead, FitsBlocks, IsClosable}
use Rattle.tokei_parts.proofs.Ahead.{marks_ahead-byte, marks_ahead-escape, marks_ahead-pass, marks_ahead-rest, marks_ahead-opener, marks_ahead-closer, marks_ahead-child, marks_ahead-end}
use Rattle.tokei_parts.proofs.Childless.{within_no_child}
use Rattle.tokei_parts.proofs.Children.{children-append, children-of_choice, children-closing}
use Rattle.tokei_parts.proofs.Fits.{IsLocal, FitsIn, choice_fits}
use Rattle.tokei_parts.proofs.Lines.{first_some, first_within}
use Rattle.tokei_count.proofs.Loads.{load, load-append, load-of_choice, load-closing}
use Rattle.tokei_parts.proofs.PartFronts.{line_len_within}
use Rattle.tokei_parts.proofs.Stepping.{top_closed}

-- what is said of each block of a list
abbrev pub EachOf : (Block → Type 0) → List Block → Type 0
EachOf P [] = ⊤
EachOf P (k ∷ ks) = P k × EachOf P ks

-- the marks have no more bytes than the text, and P holds of their children
pub record IsLoaded (P : Block → Type 0) (t : List ℕ) (ms : List Mark) : Type 0 where
  pub within : load ms ≤ length t
  pub kids : EachOf P (children ms)

module _ (g : Row) (block : ℕ → List ℕ → Option Block) (s : IsSound g) (f : FitsBlocks block) (P : Block → Type 0) (held : (l : ℕ) (t : List ℕ) (k : Block) → block l t ≡ Some k → P k) where
  -- n bytes in front, in which no child opens
  in_front : (t : List ℕ) (ms rest : List Mark) (n : ℕ) → load ms ≡ n → children ms ≡ [] → n ≤ length t → IsLoaded P (drop n t) rest → IsLoaded P t (ms ++ rest)
  in_front t ms rest n e none fits h = record {
    within = omega (arith, load-append ms rest, e, h.within, length-drop n t, fits);
    kids = subst (EachOf P) (sym (children-append ms rest none)) h.kids;
  }

  left_less : (n m b : ℕ) (t : List ℕ) → suc (length t) ≤ suc n → 0 < m → length (drop m (b ∷ t)) ≤ n
  left_less n m b t h some = omega (arith, length-drop m (b ∷ t))

  local_within : (p u : List ℕ) → IsLocal p u → length p ≤ length u
  local_within p u h = omega (arith, h.fits, line_len_within u)

  -- by the choice at the front of the text, where any shorter rest is loaded
  module _ (n l b : ℕ) (t : List ℕ) (h : suc (length t) ≤ suc n) (ih : (l : ℕ) (c : Chain) (u : List ℕ) → length u ≤ n → IsClosable c → IsLoaded P u (marks_ahead g block l c u)) where
    closer_loaded : (d : Chain) → IsClosable d
        → choice g (innermost d) (block l (b ∷ t)) (b ∷ t) ≡ closes
        → FitsIn (block l (b ∷ t)) (innermost d) (b ∷ t) closes
        → IsLoaded P (b ∷ t) (marks_ahead g block l d (b ∷ t))
    closer_loaded [] k e j = absurd (omega (arith, j.some))
    closer_loaded (e' ∷ d) k e j = subst (IsLoaded P (b ∷ t)) (sym (marks_ahead-closer g block l e' d b t e))
        (in_front (b ∷ t) (closing (e' ∷ d) d e'.closer)
        (marks_ahead g block l d (drop (length e'.closer) (b ∷ t))) (length e'.closer)
        (load-closing (e' ∷ d) d e'.closer) (children-closing (e' ∷ d) d e'.closer)
        (local_within e'.closer (b ∷ t) j)
        (ih l d (drop (length e'.closer) (b ∷ t)) (left_less n (length e'.closer) b t h j.some) k.1))

    child_loaded : (d : Chain) (k : Block) → choice g (innermost d) (block l (b ∷ t)) (b ∷ t) ≡ child_opens k → block l (b ∷ t) ≡ Some k → IsLoaded P (b ∷ t) (marks_ahead g block l d (b ∷ t))
    child_loaded [] k e j =
        let rest = ih (length (b ∷ t) - k.size) [] (drop k.size (b ∷ t)) (left_less n k.size b t h (f.some l (b ∷ t) k j)) tt in
        subst (IsLoaded P (b ∷ t)) (sym (marks_ahead-child g block l b t k (f.some l (b ∷ t) k j) e))
        (record { within = omega (arith, rest.within, length-drop k.size (b ∷ t), f.within l (b ∷ t) k j); kids = (held l (b ∷ t) k j, rest.kids) })
    child_loaded (e' ∷ d) k e j = absurd (within_no_child g e' (block l (b ∷ t)) (b ∷ t) k e)

    by_choice : (c : Chain) → IsClosable c → (x : Choice)
        → choice g (innermost c) (block l (b ∷ t)) (b ∷ t) ≡ x
        → FitsIn (block l (b ∷ t)) (innermost c) (b ∷ t) x
        → IsLoaded P (b ∷ t) (marks_ahead g block l c (b ∷ t))
    by_choice c closable closes e j = closer_loaded c closable e j
    by_choice c closable escapes e j = subst (IsLoaded P (b ∷ t)) (sym (marks_ahead-escape g block l c b t e))
        (in_front (b ∷ t) (byte_at b true c ∷ byte_at (second t) false c ∷ []) (marks_ahead g block l c (drop 1 t)) 2 refl refl (omega (arith, j, line_len_within (b ∷ t)))
        (ih l c (drop 2 (b ∷ t)) (left_less n 2 b t h (omega arith)) closable))
    by_choice c closable (child_opens k) e j = child_loaded c k e j
    by_choice c closable (opens k p) e j = subst (IsLoaded P (b ∷ t)) (sym (marks_ahead-opener g block l c b t k p j.0.some e))
        (in_front (b ∷ t) (of_choice (enclosure k p ∷ c) p.opener)
        (marks_ahead g block l (enclosure k p ∷ c) (drop (length p.opener) (b ∷ t)))
        (length p.opener) (load-of_choice (enclosure k p ∷ c) p.opener)
        (children-of_choice (enclosure k p ∷ c) p.opener) (local_within p.opener (b ∷ t) j.0)
        (ih l (enclosure k p ∷ c) (drop (length p.opener) (b ∷ t)) (left_less n (length p.opener) b t h j.0.some) (j.1, closable)))
    by_choice c closable (passes_over p) e j = subst (IsLoaded P (b ∷ t)) (sym (marks_ahead-pass g block l c b t p j.some e))
        (in_front (b ∷ t) (of_choice c p.opener)
        (marks_ahead g block l c (drop (length p.opener) (b ∷ t))) (length p.opener)
        (load-of_choice c p.opener) (children-of_choice c p.opener)
        (local_within p.opener (b ∷ t) j)
        (ih l c (drop (length p.opener) (b ∷ t)) (left_less n (length p.opener) b t h j.some) closable))
    by_choice c closable begins_line_comment e j =
        let m : ℕ = length (first_line (b ∷ t)) in
        subst (IsLoaded P (b ∷ t)) (sym (marks_ahead-rest g block l c b t (first_some b t) e))
        (in_front (b ∷ t) (of_choice c (first_line (b ∷ t)))
        (marks_ahead g block l c (drop m (b ∷ t))) m (load-of_choice c (first_line (b ∷ t)))
        (children-of_choice c (first_line (b ∷ t))) (first_within (b ∷ t))
        (ih l c (drop m (b ∷ t)) (left_less n m b t h (first_some b t)) closable))
    by_choice c closable takes_byte e j = subst (IsLoaded P (b ∷ t)) (sym (marks_ahead-byte g block l c b t e))
        (in_front (b ∷ t) (byte_at b true c ∷ []) (marks_ahead g block l c t) 1 refl refl (omega arith) (ih l c t (omega arith) closable))

  loaded : (n l : ℕ) (c : Chain) (t : List ℕ) → length t ≤ n → IsClosable c → IsLoaded P t (marks_ahead g block l c t)
  loaded n l c [] h closable = rw (marks_ahead-end g block l c) (record { within = omega arith; kids = tt })
  loaded zero l c (b ∷ t) h closable = absurd (omega arith)
  loaded (suc n) l c (b ∷ t) h closable =
      by_choice n l b t h (loaded n) c closable (choice g (innermost c) (block l (b ∷ t)) (b ∷ t))
      refl (choice_fits g (block l (b ∷ t)) (innermost c) (b ∷ t) s (top_closed c closable))

  pub text_loaded : (t : List ℕ) → IsLoaded P t (marks [] (items_of g block t))
  unfolding marks_ahead
  text_loaded t = loaded (length t) (length t) [] t (omega arith) tt
