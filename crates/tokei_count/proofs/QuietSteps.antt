-- A text that holds no opener takes no steps.
use Rattle.std.proofs.Common.{◌≡◌, ℕ, zero, suc, ◌+◌, ◌<◌, nat_eq, Bool, true, false, ◌&&◌, ◌||◌, cond, List, [], ◌∷◌, ◌++◌, length, take, drop, Option, None, Some, is_some, option_map, refl, sym, ◌∙◌, ap, ap₂, subst, append_assoc}
use Rattle.std.proofs.lemmas.List.{append-nil, take-append-drop}
use Rattle.tokei_table.specs.Bytes.{begins, begins_with_one, line_len}
use Rattle.tokei_table.specs.FirstOpener.{first_opener}
use Rattle.tokei_table.specs.Lookups.{row_at}
use Rattle.tokei_table.specs.Openers.{openers}
use Rattle.tokei_table.specs.Row.{Row}
use Rattle.tokei_table.specs.Tokens.{has_tokens}
use Rattle.tokei_parts.specs.Derivation.{items_of}
use Rattle.tokei_parts.specs.Glance.{holds, is_walked}
use Rattle.tokei_parts.specs.Items.{Block}
use Rattle.tokei_count.specs.Languages.{is_notebook}
use Rattle.tokei_embedding.specs.DocComments.{first_line}
use Rattle.tokei_parts.specs.Modes.{Chain, marks}
use Rattle.tokei_count.specs.Languages.{languages_of}
use Rattle.tokei_count.specs.PlainReading.{blocks}
use Rattle.tokei_parts.specs.Tally.{children}
use Rattle.tokei_parts.specs.Progress.{marks_ahead, FitsBlocks}
use Rattle.tokei_count.specs.Steps.{with_children, own_steps, steps, sum_over}
use Rattle.tokei_parts.specs.Running.{choices_passed, running}
use Rattle.tokei_count.specs.WeightLaws.{HaveTokens}
use Rattle.tokei_parts.proofs.Ahead.{marks_ahead-end}
use Rattle.tokei_parts.proofs.Blocks.{by_levels}
use Rattle.tokei_count.proofs.ByChoices.{Takes, IsNewline, IsChild, by_choices}
use Rattle.tokei_count.proofs.CalmChoices.{holds-behind}
use Rattle.tokei_parts.proofs.Cuts.{running_newline}
use Rattle.tokei_parts.proofs.Lines.{take-first}
use Rattle.tokei_parts.proofs.OpenersInLines.{none_here, none_next}
use Rattle.tokei_parts.proofs.PlainBytes.{or_left, or_right}
use Rattle.tokei_count.proofs.QuietBlocks.{quiet_blocks}
use Rattle.tokei_count.proofs.Running.{own_steps-running}
use Rattle.tokei_count.proofs.Weights.{every_token}

-- what doesn't begin a text doesn't begin its front
not_begins : (p a b : List ℕ) → begins p (a ++ b) ≡ false → begins p a ≡ false
not_begins [] a b h = cc
not_begins (x ∷ p) [] b h = refl
not_begins (x ∷ p) (y ∷ a) b h = by_test (nat_eq x y) h (not_begins p a b)
  where
    by_test : (w : Bool) → (w && begins p (a ++ b)) ≡ false → (begins p (a ++ b) ≡ false → begins p a ≡ false) → (w && begins p a) ≡ false
    by_test true e f = f e
    by_test false e f = refl

none_begins_front : (os : List (List ℕ)) (a b : List ℕ) → begins_with_one os (a ++ b) ≡ false → begins_with_one os a ≡ false
unfolding begins_with_one
none_begins_front [] a b h = refl
none_begins_front (p ∷ os) a b h =
    ap (λ w. w || begins_with_one os a) (not_begins p a b (or_left (begins p (a ++ b)) (begins_with_one os (a ++ b)) h))
    ∙ none_begins_front os a b (or_right (begins p (a ++ b)) (begins_with_one os (a ++ b)) h)

-- the front of a text that holds no opener holds none
holds-front : (os : List (List ℕ)) (a b : List ℕ) → holds os (a ++ b) ≡ false → holds os a ≡ false
holds-front os [] b h = refl
holds-front os (x ∷ a) b h =
    ap (λ w. is_some (cond w (Some 0) (option_map suc (first_opener os a))))
    (none_begins_front os (x ∷ a) b (none_here os x (a ++ b) h))
    ∙ some_suc (first_opener os a) ∙ holds-front os a b (none_next os x (a ++ b) h)
  where
    some_suc : (o : Option ℕ) → is_some (option_map suc o) ≡ is_some o
    some_suc None = refl
    some_suc (Some k) = refl

holds-line : (os : List (List ℕ)) (t : List ℕ) → holds os t ≡ false → holds os (first_line t) ≡ false
holds-line os t h =
    let n : ℕ = length (first_line t) in
    ap (holds os) (sym (take-first t)) ∙ holds-front os (take n t) (drop n t) (ap (holds os) (take-append-drop n t) ∙ h)

module _ (g : Row) (block : ℕ → List ℕ → Option Block) where
  -- The part under way began in plain text, and has the bytes s. Where it and what is left hold no opener, no part that is
  -- left is walked, and no child opens.
  abbrev IsStill : ℕ → Chain → List ℕ → Type 0
  IsStill l c t = (s : List ℕ) (k : ℕ) → c ≡ [] → holds (openers g) (s ++ t) ≡ false
      → (choices_passed (openers g) (running None s k t (marks_ahead g block l c t)) ≡ 0) × (children (marks_ahead g block l c t) ≡ [])

  -- the choices of a part that begins plain and holds no opener aren't counted
  passed : (r : List ℕ) (k rest : ℕ) → holds (openers g) r ≡ false → rest ≡ 0 → cond (is_walked (openers g) None r) k 0 + rest ≡ 0
  passed r k rest h e = ap₂ (λ w n. cond w k 0 + n) h e

  at_end : (l : ℕ) (c : Chain) → IsStill l c []
  unfolding running
  at_end l c s k plain h =
      subst (λ ms. (choices_passed (openers g) (running None s k [] ms) ≡ 0) × (children ms ≡ []))
      (sym (marks_ahead-end g block l c))
      (by_bytes_left s (ap (holds (openers g)) (sym (append-nil s)) ∙ h), refl)
    where
      by_bytes_left : (s : List ℕ) → holds (openers g) s ≡ false → choices_passed (openers g) (running None s k [] []) ≡ 0
      by_bytes_left [] h = refl
      by_bytes_left (a ∷ s) h = passed (a ∷ s) k 0 h refl

  by_newline : (l : ℕ) (c : Chain) (u : List ℕ) → IsNewline g block l c u → IsStill l c u → IsStill l c (10 ∷ u)
  by_newline l (e ∷ c) u h ih s k plain q = cc
  by_newline l [] u h ih s k plain q =
      let rest = ih [] 0 refl (none_next (openers g) 10 u (holds-behind (openers g) s (10 ∷ u) q)) in
      let line : holds (openers g) (s ++ 10 ∷ []) ≡ false = holds-front (openers g) (s ++ 10 ∷ []) u (ap (holds (openers g)) (append_assoc s (10 ∷ []) u) ∙ q) in (
        ap (λ ms. choices_passed (openers g) (running None s k (10 ∷ u) ms)) h.marks
            ∙ ap (choices_passed (openers g))
            (running_newline None s k (10 ∷ u) true [] (marks_ahead g block l [] u))
            ∙ passed (s ++ 10 ∷ []) (k + 1) _ line rest.0,
        ap children h.marks ∙ rest.1,
      )

  by_bytes : (l : ℕ) (c : Chain) (n j x : ℕ) (d : Chain) (t : List ℕ) → Takes g block l c n j x d t → IsStill l d (drop n t) → IsStill l c t
  by_bytes l c n j x d t h ih s k plain q =
      let calm = h.calm plain (holds-line (openers g) t (holds-behind (openers g) s t q)) in
      let joined : (s ++ take n t) ++ drop n t ≡ s ++ t = append_assoc s (take n t) (drop n t) ∙ ap (λ r. s ++ r) (take-append-drop n t) in
      let rest = ih (s ++ take n t) (k + j) calm.0 (ap (holds (openers g)) joined ∙ q) in
      (ap (choices_passed (openers g)) (h.goes.leads.choices None s k) ∙ rest.0, h.goes.leads.kids ∙ rest.1)

  module _ (quiet : (l : ℕ) (u : List ℕ) → holds (openers g) (first_line u) ≡ false → (n : ℕ) → n < line_len u → block l (drop n u) ≡ None) where
    by_child : (l l' : ℕ) (k : Block) (t : List ℕ) → IsChild g block l l' k t → IsStill l' [] (drop k.size t) → IsStill l [] t
    by_child l l' k t h ih s a plain q =
        let none : block l t ≡ None = quiet l t (holds-line (openers g) t (holds-behind (openers g) s t q)) 0 h.inside in
        let some : Some k ≡ None = sym h.opens ∙ none in
        cc

    still : has_tokens g ≡ true → FitsBlocks block → (t : List ℕ) → holds (openers g) t ≡ false → IsStill (length t) [] t
    still tokens fits t h = by_choices g block tokens fits quiet IsStill (record { at_end = at_end; by_newline = by_newline; by_bytes = by_bytes; by_child = by_child }) (length t) [] t tt

    pub quiet_text : has_tokens g ≡ true → FitsBlocks block → (t : List ℕ) → first_opener (openers g) t ≡ None
        → (own_steps g t (items_of g block t) ≡ 0) × (children (marks [] (items_of g block t)) ≡ [])
    unfolding marks_ahead
    quiet_text tokens fits t h =
        let none : holds (openers g) t ≡ false = ap is_some h in
        let all = still tokens fits t none [] 0 refl none in
        (own_steps-running g t (items_of g block t) ∙ all.0, all.1)

-- a text that isn't a notebook takes the steps of its own, where it has no children
module _ (rows : List Row) (language : ℕ) (t : List ℕ) (lines : is_notebook (row_at rows language) ≡ false) where
  own : ℕ → ℕ
  own levels = own_steps (row_at rows language) t (items_of (row_at rows language) (blocks (languages_of rows) levels language t) t)

  kids : ℕ → List Block
  kids levels = children (marks [] (items_of (row_at rows language) (blocks (languages_of rows) levels language t) t))

  by_own : (levels : ℕ) → own levels ≡ 0 → kids levels ≡ [] → steps (languages_of rows) levels language t ≡ 0
  unfolding own kids with_children
  by_own zero none childless =
      ap (λ y. cond y 0 (own zero + length (kids zero))) lines ∙ ap₂ (λ n (ks : List Block). n + length ks) none childless
  by_own (suc levels) none childless =
      let inner : Block → ℕ = λ k. with_children own_steps (languages_of rows) levels k.language k.contents in
      ap (λ y. cond y (sum_over inner ((languages_of rows).cells language t)) (own (suc levels) + length (kids (suc levels)) + sum_over inner (kids (suc levels)))) lines
      ∙ ap₂ (λ n (ks : List Block). n + length ks + sum_over inner ks) none childless

pub quiet_steps : (rows : List Row) → HaveTokens rows → (levels language : ℕ) (t : List ℕ)
    → is_notebook (row_at rows language) ≡ false
    → first_opener (openers (row_at rows language)) t ≡ None
    → steps (languages_of rows) levels language t ≡ 0
unfolding own kids
quiet_steps rows tokens levels language t lines none =
    let both =
    quiet_text (row_at rows language) (blocks (languages_of rows) levels language t)
    (quiet_blocks rows levels language t) (every_token rows tokens language)
    (by_levels rows language t levels) t none in
    by_own rows language t lines levels both.0 both.1
