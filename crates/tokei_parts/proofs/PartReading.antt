-- What the walk of a part comes to.
use Rattle.std.proofs.Common.{◌≡◌, ℕ, suc, zero, ◌+◌, ◌-◌, ◌<◌, ◌≤◌, ◌==◌, Bool, true, false, cond, List, [], ◌∷◌, ◌++◌, length, take, drop, Option, None, Some, refl, sym, ◌∙◌, ap, subst, arith, length-drop}
use Rattle.std.proofs.lemmas.List.{drop-drop}
use Rattle.tokei_table.specs.Openers.{openers}
use Rattle.tokei_table.specs.Row.{Row}
use Rattle.tokei_table.specs.Sound.{IsSound}
use Rattle.tokei_parts.specs.Items.{Block}
use Rattle.tokei_parts.specs.Choice.{choice}
use Rattle.tokei_parts.specs.Choice.Choice.{child_opens}
use Rattle.tokei_parts.specs.Items.{Mode}
use Rattle.tokei_embedding.specs.DocComments.{first_line}
use Rattle.tokei_table_row.specs.Bytes.{line_len}
use Rattle.tokei_parts.specs.Glance.{walks}
use Rattle.tokei_parts.specs.Running.{choices_made, running}
use Rattle.tokei_parts.specs.Modes.{Mark, Chain, innermost}
use Rattle.tokei_parts.specs.Modes.Mark.{child_at}
use Rattle.tokei_parts.specs.Parts.{cut}
use Rattle.tokei_parts.specs.Tally.{tally, children}
use Rattle.tokei_parts.specs.Progress.{marks_ahead, Leads, OpensChild, FitsBlocks, IsPart, ReadsChild}
use Rattle.tokei_parts.proofs.Ahead.{marks_ahead-child}
use Rattle.tokei_parts.proofs.Fits.{choice_fits}

-- bytes of a line, and the line from there on, are the line
pub line_from : (n : ℕ) (t : List ℕ) → n ≤ line_len t → take n t ++ first_line (drop n t) ≡ first_line t
line_from zero t h = refl
line_from (suc n) [] h = absurd (omega arith)
line_from (suc n) (b ∷ t) h = by_test (b == 10) h (line_from n t)
  where
    by_test : (x : Bool) → suc n ≤ cond x 0 (suc (line_len t))
        → (n ≤ line_len t → take n t ++ first_line (drop n t) ≡ first_line t)
        → b ∷ (take n t ++ first_line (drop n t)) ≡ cond x (b ∷ []) (b ∷ first_line t)
    by_test true h f = absurd (omega arith)
    by_test false h f = ap (λ w. b ∷ w) (f (omega arith))

module _ (g : Row) (block : ℕ → List ℕ → Option Block) (fit : FitsBlocks block) (s : IsSound g) (l : ℕ) (docs_are_comments : Bool) where
  -- a child that is chosen is the block that opens there
  pub block_opens : (k : Block) (c d : Chain) (u : List ℕ) → OpensChild g block l c k d u → block l u ≡ Some k
  block_opens k c d u o = rw o.chosen at (choice_fits g (block l u) None u s tt)

  marks-opening : (k : Block) (u : List ℕ) → choice g None (block l u) u ≡ child_opens k → 0 < k.size → k.size ≤ length u
      → marks_ahead g block l [] u ≡ child_at k ∷ marks_ahead g block (length u - k.size) [] (drop k.size u)
  marks-opening k [] e some fits = absurd (omega arith)
  marks-opening k (b ∷ u) e some fits = marks_ahead-child g block l b u k some e

  cut_child : (c : Chain) (w : List ℕ) (k : Block) (ms : List Mark) → tally g docs_are_comments (cut (innermost c) w None (child_at k ∷ ms)) ≡ tally g docs_are_comments (cut None [] None ms)
  unfolding cut
  cut_child c w k ms = refl

  running_child : (m : Mode) (s : List ℕ) (n : ℕ) (t : List ℕ) (k : Block) (ms : List Mark)
      → running m s n t (child_at k ∷ ms)
      ≡ record { begun = m; reach = s ++ first_line t; size = length s; choices = n }
      ∷ running None [] 0 (drop k.size t) ms
  unfolding running
  running_child m s n t k ms = refl

  -- behind n bytes of its line a child opens
  child_read : (c d e : Chain) (n : ℕ) (k : Block) (t : List ℕ) → n ≤ length t → (j : ℕ)
      → Leads g block l c n j e t → OpensChild g block l e k d (drop n t)
      → ReadsChild g block l docs_are_comments c n j k d t
  child_read c d e n k t within j h o =
      let is_block : block l (drop n t) ≡ Some k = block_opens k e d (drop n t) o in
      let some : 0 < k.size = fit.some l (drop n t) k is_block in
      let fits : k.size ≤ length (drop n t) = fit.within l (drop n t) k is_block in
      let left : length (drop n t) ≡ length t - n = length-drop n t in
      let rest : drop k.size (drop n t) ≡ drop (n + k.size) t = drop-drop k.size n t in
      let len : length (drop n t) - k.size ≡ length t - (n + k.size) = omega (arith, left) in
      let after : List Mark = marks_ahead g block (length t - (n + k.size)) [] (drop (n + k.size) t) in
      let opened : marks_ahead g block l [] (drop n t) ≡ child_at k ∷ after =
      marks-opening k (drop n t) o.chosen some fits
      ∙ ap (λ m. child_at k ∷ marks_ahead g block m [] (drop k.size (drop n t))) len
      ∙ ap (λ w. child_at k ∷ marks_ahead g block (length t - (n + k.size)) [] w) rest in
      let none : 0 + j ≡ j = omega arith in
      let lead : Leads g block l c n j [] t = subst (λ (f : Chain). Leads g block l c n j f t) o.before h in
      record {
        some = some;
        within = omega (arith, fits, left, within);
        plain = o.after;
        counts = ap (tally g docs_are_comments) (lead.same (innermost c) []) ∙ ap (λ ms. tally g docs_are_comments (cut (innermost c) (take n t) None ms)) opened ∙ cut_child c (take n t) k after;
        kids = lead.kids ∙ ap children opened;
        steps = λ skips. ap (choices_made skips (openers g))
            (lead.choices (innermost c) [] 0 ∙ ap (λ x. running (innermost c) (take n t) x (drop n t) (marks_ahead g block l [] (drop n t))) none
            ∙ ap (running (innermost c) (take n t) j (drop n t)) opened ∙ running_child (innermost c) (take n t) j (drop n t) k after)
            ∙ ap (λ w. cond (walks skips (openers g) (innermost c) w) j 0 + choices_made skips (openers g) (running None [] 0 (drop k.size (drop n t)) after)) (line_from n t lead.within)
            ∙ ap (λ w. cond (walks skips (openers g) (innermost c) (first_line t)) j 0 + choices_made skips (openers g) (running None [] 0 w after)) rest;
      }

  -- the same by places of the text
  pub child_read_at : (c d e : Chain) (start at : ℕ) (k : Block) (text : List ℕ)
      → IsPart text l start at → (j : ℕ) → Leads g block l c (at - start) j e (drop start text)
      → OpensChild g block l e k d (drop at text)
      → ReadsChild g block l docs_are_comments c (at - start) j k d (drop start text)
  child_read_at c d e start at k text p j h o =
      let left : length (drop start text) ≡ length text - start = length-drop start text in
      let place : start + (at - start) ≡ at = omega (arith, p.low) in
      let there : drop (at - start) (drop start text) ≡ drop at text = drop-drop (at - start) start text ∙ ap (λ m. drop m text) place in
      child_read c d e (at - start) k (drop start text) (omega (arith, left, p.low, p.high)) j h (subst (OpensChild g block l e k d) (sym there) o)
