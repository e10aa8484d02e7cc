-- A part that isn't walked stays in plain text, and no child breaks it off.
use Rattle.std.proofs.Common.{◌≡◌, ℕ, ◌+◌, ◌<◌, Bool, true, false, List, [], ◌∷◌, ◌++◌, length, take, drop, Option, None, Some, refl, sym, ◌∙◌, ap, subst, append_assoc}
use Rattle.std.specs.List.{AllByRecursion}
use Rattle.std.proofs.lemmas.List.{append-nil}
use Rattle.tokei_table.specs.Openers.{openers}
use Rattle.tokei_table.specs.Row.{Row}
use Rattle.tokei_table.specs.Tokens.{has_tokens}
use Rattle.tokei_parts.specs.Derivation.{items_of}
use Rattle.tokei_parts.specs.Glance.{holds, is_walked}
use Rattle.tokei_parts.specs.Items.{Block, Mode}
use Rattle.tokei_embedding.specs.DocComments.{first_line}
use Rattle.tokei_table_row.specs.Bytes.{line_len}
use Rattle.tokei_parts.specs.Modes.{Chain, Mark, innermost, marks}
use Rattle.tokei_count.specs.PartLaw.{IsInPlainText, UnwalkedStayPlain}
use Rattle.tokei_parts.specs.Parts.{cut}
use Rattle.tokei_parts.specs.Progress.{marks_ahead, FitsBlocks}
use Rattle.tokei_parts.specs.Running.{Passed, running}
use Rattle.tokei_parts.specs.Stretches.{stretches}
use Rattle.tokei_parts.proofs.Ahead.{marks_ahead-end}
use Rattle.tokei_count.proofs.ByChoices.{Takes, IsNewline, IsChild, by_choices}
use Rattle.tokei_count.proofs.CalmChoices.{holds-behind}
use Rattle.tokei_parts.proofs.Cuts.{cut_newline, running_newline}
use Rattle.tokei_parts.proofs.PartReading.{line_from}
use Rattle.tokei_count.proofs.Running.{running-is, each-stretch}

-- a part that isn't walked begins plain and holds no opener
pub unwalked-plain : (os : List (List ℕ)) (m : Mode) (reach : List ℕ) → is_walked os m reach ≡ false → m ≡ None
unwalked-plain os None reach h = refl
unwalked-plain os (Some e) reach h = cc

pub unwalked-holds : (os : List (List ℕ)) (m : Mode) (reach : List ℕ) → is_walked os m reach ≡ false → holds os reach ≡ false
unwalked-holds os None reach h = h
unwalked-holds os (Some e) reach h = cc

-- The part under way began in mode m, and has the bytes s; the text t is left, in the items of c. Where it isn't walked
-- it is in plain text.
abbrev pub IsPlainSoFar : List (List ℕ) → Mode → List ℕ → Chain → List ℕ → Type 0
IsPlainSoFar os m s c t = is_walked os m (s ++ first_line t) ≡ false → c ≡ []

pub plain_first : (os : List (List ℕ)) (c : Chain) (t : List ℕ) → IsPlainSoFar os (innermost c) [] c t
plain_first os [] t h = refl
plain_first os (e ∷ c) t h = cc

-- where a stretch isn't walked it has all of its reach
abbrev IsWhole : List (List ℕ) → Passed → Type 0
IsWhole os s = is_walked os s.begun s.reach ≡ false → s.size ≡ length s.reach

module _ (g : Row) (block : ℕ → List ℕ → Option Block) where
  abbrev Walked : Mode → List ℕ → Bool
  Walked = is_walked (openers g)

  module _ (l : ℕ) (c : Chain) (n j x : ℕ) (d : Chain) (t : List ℕ) (h : Takes g block l c n j x d t) (m : Mode) (s : List ℕ) where
    -- through a choice the reach stays
    pub unwalked_on : Walked m ((s ++ take n t) ++ first_line (drop n t)) ≡ false → Walked m (s ++ first_line t) ≡ false
    unwalked_on e = ap (Walked m) (sym (append_assoc s (take n t) (first_line (drop n t)) ∙ ap (λ r. s ++ r) (line_from n t h.goes.within))) ∙ e

    pub calm_on : IsPlainSoFar (openers g) m s c t → Walked m ((s ++ take n t) ++ first_line (drop n t)) ≡ false → (d ≡ []) × (x ≡ 0)
    calm_on plain e =
        let before : Walked m (s ++ first_line t) ≡ false = unwalked_on e in
        h.calm (plain before) (holds-behind (openers g) s (first_line t) (unwalked-holds (openers g) m (s ++ first_line t) before))

  -- the parts and stretches that are left
  abbrev ArePlain : ℕ → Chain → List ℕ → Type 0
  ArePlain l c t = (m : Mode) (s : List ℕ) (k : ℕ) → IsPlainSoFar (openers g) m s c t
      → AllByRecursion (IsInPlainText (openers g)) (cut m s (innermost c) (marks_ahead g block l c t)) × AllByRecursion (IsWhole (openers g)) (running m s k t (marks_ahead g block l c t))

  both_plain : (m : Mode) (s : List ℕ) (c : Chain) → (Walked m s ≡ false → c ≡ []) → Walked m s ≡ false → (m ≡ None) × (innermost c ≡ None)
  both_plain m s c plain e = (unwalked-plain (openers g) m s e, ap innermost (plain e))

  at_end : (l : ℕ) (c : Chain) → ArePlain l c []
  unfolding cut running
  at_end l c m s k plain =
      subst (λ ms. AllByRecursion (IsInPlainText (openers g)) (cut m s (innermost c) ms) × AllByRecursion (IsWhole (openers g)) (running m s k [] ms)) (sym (marks_ahead-end g block l c))
      (by_bytes_left s (λ e. plain (ap (Walked m) (append-nil s) ∙ e)))
    where
      by_bytes_left : (s : List ℕ) → (Walked m s ≡ false → c ≡ []) → AllByRecursion (IsInPlainText (openers g)) (cut m s (innermost c) []) × AllByRecursion (IsWhole (openers g)) (running m s k [] [])
      by_bytes_left [] plain = (tt, tt)
      by_bytes_left (a ∷ s) plain = ((both_plain m (a ∷ s) c plain, tt), (λ e. refl, tt))

  by_newline : (l : ℕ) (c : Chain) (u : List ℕ) → IsNewline g block l c u → ArePlain l c u → ArePlain l c (10 ∷ u)
  by_newline l c u h ih m s k plain =
      let rest = ih (innermost c) [] 0 (plain_first (openers g) c u) in (
        subst (AllByRecursion (IsInPlainText (openers g)))
            (sym (ap (cut m s (innermost c)) h.marks
            ∙ cut_newline m s (innermost c) true c (marks_ahead g block l c u)))
            (both_plain m (s ++ 10 ∷ []) c plain, rest.0),
        subst (AllByRecursion (IsWhole (openers g))) (sym (ap (running m s k (10 ∷ u)) h.marks ∙ running_newline m s k (10 ∷ u) true c (marks_ahead g block l c u))) (λ e. refl, rest.1),
      )

  by_bytes : (l : ℕ) (c : Chain) (n j x : ℕ) (d : Chain) (t : List ℕ) → Takes g block l c n j x d t → ArePlain l d (drop n t) → ArePlain l c t
  by_bytes l c n j x d t h ih m s k plain =
      let rest = ih m (s ++ take n t) (k + j) (λ e. (calm_on l c n j x d t h m s plain e).0) in (
        subst (AllByRecursion (IsInPlainText (openers g))) (sym (h.goes.leads.same m s)) rest.0,
        subst (AllByRecursion (IsWhole (openers g))) (sym (h.goes.leads.choices m s k)) rest.1,
      )

  module _ (quiet : (l : ℕ) (u : List ℕ) → holds (openers g) (first_line u) ≡ false → (n : ℕ) → n < line_len u → block l (drop n u) ≡ None) where
    -- a child breaks off no part but one that is walked
    by_child : (l l' : ℕ) (k : Block) (t : List ℕ) → IsChild g block l l' k t → ArePlain l' [] (drop k.size t) → ArePlain l [] t
    unfolding cut running
    by_child l l' k t h ih m s a plain =
        let rest = ih None [] 0 (plain_first (openers g) [] (drop k.size t)) in
        let walked : Walked m (s ++ first_line t) ≡ false → length s ≡ length (s ++ first_line t) = λ e.
        let none : block l t ≡ None = quiet l t (holds-behind (openers g) s (first_line t) (unwalked-holds (openers g) m (s ++ first_line t) e)) 0 h.inside in
        let some : Some k ≡ None = sym h.opens ∙ none in
        cc in (
          subst (AllByRecursion (IsInPlainText (openers g))) (sym (ap (cut m s None) h.marks)) rest.0,
          subst (AllByRecursion (IsWhole (openers g))) (sym (ap (running m s a t) h.marks)) (walked, rest.1),
        )

    pub stay_plain : has_tokens g ≡ true → FitsBlocks block → (t : List ℕ) → UnwalkedStayPlain (openers g) t (marks [] (items_of g block t))
    unfolding marks_ahead
    stay_plain tokens fits t =
        let all =
        by_choices g block tokens fits quiet ArePlain
        (record {
          at_end = at_end;
          by_newline = by_newline;
          by_bytes = by_bytes;
          by_child = by_child;
        })
        (length t) [] t tt None [] 0 (plain_first (openers g) [] t) in
        let ms : List Mark = marks [] (items_of g block t) in
        record {
          parts = all.0;
          unbroken = each-stretch (IsWhole (openers g)) (stretches None [] t ms) (subst (AllByRecursion (IsWhole (openers g))) (running-is None [] t ms) all.1);
        }
