-- Each opening is a choice in a walked part.
use Rattle.std.proofs.Common.{◌≡◌, ℕ, ◌+◌, ◌<◌, ◌≤◌, Bool, true, false, cond, List, [], ◌∷◌, ◌++◌, length, take, drop, Option, None, refl, ◌∙◌, ap, arith, length-append}
use Rattle.std.proofs.lemmas.List.{append-nil, length-take-le}
use Rattle.tokei_table.specs.Openers.{openers}
use Rattle.tokei_table.specs.Row.{Row}
use Rattle.tokei_table.specs.Tokens.{has_tokens}
use Rattle.tokei_parts.specs.Derivation.{items_of}
use Rattle.tokei_parts.specs.Glance.{holds, is_walked}
use Rattle.tokei_parts.specs.Items.{Block, Mode}
use Rattle.tokei_embedding.specs.DocComments.{first_line}
use Rattle.tokei_table_row.specs.Bytes.{line_len}
use Rattle.tokei_parts.specs.Modes.{Chain, innermost}
use Rattle.tokei_count.specs.OpeningItems.{own_openings}
use Rattle.tokei_parts.specs.Progress.{marks_ahead, FitsBlocks}
use Rattle.tokei_count.specs.Steps.{own_steps}
use Rattle.tokei_parts.specs.Running.{choices_passed, Passed, running}
use Rattle.tokei_parts.proofs.Ahead.{marks_ahead-end}
use Rattle.tokei_count.proofs.ByChoices.{Takes, IsNewline, IsChild, IsCarried, by_choices}
use Rattle.tokei_parts.proofs.Cuts.{running_newline}
use Rattle.tokei_count.proofs.OpeningsAhead.{openings_ahead, openings_ahead-end}
use Rattle.tokei_parts.proofs.PartFronts.{line_len_within}
use Rattle.tokei_count.proofs.Running.{own_steps-running}
use Rattle.tokei_count.proofs.UnwalkedParts.{IsPlainSoFar, plain_first, unwalked_on, calm_on}

-- the openings o of a part are choices of it where it is walked, and else there are none
in_front : (os : List (List ℕ)) (m : Mode) (reach : List ℕ) (size n o x : ℕ) (ss : List Passed) → o ≤ n → (is_walked os m reach ≡ false → o ≡ 0) → x ≤ choices_passed os ss
    → o + x ≤ choices_passed os (record { begun = m; reach = reach; size = size; choices = n } ∷ ss)
in_front os m reach size n o x ss few none h = by_test (is_walked os m reach) none
  where
    by_test : (y : Bool) → (y ≡ false → o ≡ 0) → o + x ≤ cond y n 0 + choices_passed os ss
    by_test true none = omega (arith, few, h)
    by_test false none = omega (arith, none refl, h)

module _ (g : Row) (block : ℕ → List ℕ → Option Block) where
  -- The part under way began in mode m, and has the bytes s; n choices and o openings began at them. The text t is left,
  -- in the items of c.
  record IsUnderWay (m : Mode) (s : List ℕ) (n o : ℕ) (c : Chain) (t : List ℕ) : Type 0 where
    few : o ≤ n
    within : n ≤ length s
    plain : IsPlainSoFar (openers g) m s c t
    none : is_walked (openers g) m (s ++ first_line t) ≡ false → o ≡ 0

  -- the openings of the part under way and those that are left are choices in walked parts
  abbrev AreWalked : ℕ → Chain → List ℕ → Type 0
  AreWalked l c t = (m : Mode) (s : List ℕ) (n o : ℕ) → IsUnderWay m s n o c t → o + openings_ahead g block l c t ≤ choices_passed (openers g) (running m s n t (marks_ahead g block l c t))

  -- where a part begins
  begun : (c : Chain) (t : List ℕ) → IsUnderWay (innermost c) [] 0 0 c t
  begun c t = record { few = omega arith; within = omega arith; plain = plain_first (openers g) c t; none = λ h. refl }

  at_end : (l : ℕ) (c : Chain) → AreWalked l c []
  unfolding running
  at_end l c m [] n o w = omega (arith, w.few, w.within, openings_ahead-end g block l c)
  at_end l c m (a ∷ s) n o w =
      let none : is_walked (openers g) m (a ∷ s) ≡ false → o ≡ 0 = λ h. w.none (ap (is_walked (openers g) m) (append-nil (a ∷ s)) ∙ h) in
      let here : choices_passed (openers g) (running m (a ∷ s) n [] (marks_ahead g block l c []))
      ≡ choices_passed (openers g) (running m (a ∷ s) n [] []) =
      ap (λ ms. choices_passed (openers g) (running m (a ∷ s) n [] ms))
      (marks_ahead-end g block l c) in
      let all : o + 0 ≤ choices_passed (openers g) (running m (a ∷ s) n [] []) = in_front (openers g) m (a ∷ s) (length (a ∷ s)) n o 0 [] w.few none (omega arith) in
      omega (arith, all, here, openings_ahead-end g block l c)

  by_newline : (l : ℕ) (c : Chain) (u : List ℕ) → IsNewline g block l c u → AreWalked l c u → AreWalked l c (10 ∷ u)
  by_newline l c u h ih m s n o w =
      let line : List ℕ = s ++ 10 ∷ [] in
      let rest : List Passed = running (innermost c) [] 0 u (marks_ahead g block l c u) in
      let here : running m s n (10 ∷ u) (marks_ahead g block l c (10 ∷ u))
      ≡ record { begun = m; reach = line; size = length line; choices = n + 1 } ∷ rest =
      ap (running m s n (10 ∷ u)) h.marks
      ∙ running_newline m s n (10 ∷ u) true c (marks_ahead g block l c u) in
      let left : openings_ahead g block l c u ≤ choices_passed (openers g) rest = omega (arith, ih (innermost c) [] 0 0 (begun c u)) in
      let all = in_front (openers g) m line (length line) (n + 1) o (openings_ahead g block l c u) rest (omega (arith, w.few)) w.none left in
      omega (arith, all, ap (choices_passed (openers g)) here, h.openings)

  by_bytes : (l : ℕ) (c : Chain) (n j x : ℕ) (d : Chain) (t : List ℕ) → Takes g block l c n j x d t → AreWalked l d (drop n t) → AreWalked l c t
  by_bytes l c n j x d t h ih m s k o w =
      let s' : List ℕ = s ++ take n t in
      let some : 0 < n = h.goes.some in
      let len : length (take n t) ≡ n = length-take-le n t (omega (arith, h.goes.within, line_len_within t)) in
      let next : IsUnderWay m s' (k + j) (o + x) d (drop n t) = record {
        few = omega (arith, w.few, h.few);
        within = omega (arith, w.within, h.one, length-append s (take n t), len, some);
        plain = λ e. (calm_on g block l c n j x d t h m s w.plain e).0;
        none = λ e. omega (arith, w.none (unwalked_on g block l c n j x d t h m s e), (calm_on g block l c n j x d t h m s w.plain e).1);
      } in
      omega (arith, ih m s' (k + j) (o + x) next, ap (choices_passed (openers g)) (h.goes.leads.choices m s k), h.openings)

  by_child : (l l' : ℕ) (k : Block) (t : List ℕ) → IsChild g block l l' k t → AreWalked l' [] (drop k.size t) → AreWalked l [] t
  unfolding running
  by_child l l' k t h ih m s n o w =
      let reach : List ℕ = s ++ first_line t in
      let rest : List Passed = running None [] 0 (drop k.size t) (marks_ahead g block l' [] (drop k.size t)) in
      let here : running m s n t (marks_ahead g block l [] t) ≡ record { begun = m; reach = reach; size = length s; choices = n } ∷ rest = ap (running m s n t) h.marks in
      let left : openings_ahead g block l' [] (drop k.size t) ≤ choices_passed (openers g) rest = omega (arith, ih None [] 0 0 (begun [] (drop k.size t))) in
      let all = in_front (openers g) m reach (length s) n o (openings_ahead g block l' [] (drop k.size t)) rest w.few w.none left in
      omega (arith, all, ap (choices_passed (openers g)) here, h.openings)

  module _ (quiet : (l : ℕ) (u : List ℕ) → holds (openers g) (first_line u) ≡ false → (n : ℕ) → n < line_len u → block l (drop n u) ≡ None) where
    -- the openings of a text are at most its steps, its children apart
    pub own_openings-most : has_tokens g ≡ true → FitsBlocks block → (t : List ℕ) → own_openings g t (items_of g block t) ≤ own_steps g t (items_of g block t)
    unfolding openings_ahead marks_ahead
    own_openings-most tokens fits t =
        let all : 0 + openings_ahead g block (length t) [] t
        ≤ choices_passed (openers g)
        (running None [] 0 t (marks_ahead g block (length t) [] t)) =
        by_choices g block tokens fits quiet AreWalked carried (length t) [] t tt None [] 0 0
        (begun [] t) in
        omega (arith, all, own_steps-running g t (items_of g block t))
      where
        carried : IsCarried g block AreWalked
        carried = record { at_end = at_end; by_newline = by_newline; by_bytes = by_bytes; by_child = by_child }
