-- The steps of a text, part by part.
use Rattle.std.proofs.Common.{◌≡◌, ℕ, suc, zero, ◌+◌, ◌-◌, ◌<◌, ◌≤◌, ◌⊎◌, inl, inr, nat_le, Bool, true, false, cond, List, [], ◌∷◌, length, take, drop, Option, None, Some, is_some, map, get_or, refl, sym, ◌∙◌, ap, subst, arith, length-drop}
use Rattle.std.proofs.lemmas.Bool.Decides.{nat_tests}
use Rattle.std.proofs.lemmas.List.{drop-drop, length-map}
use Rattle.tokei_table.specs.FirstOpener.{first_opener}
use Rattle.tokei_table.specs.Lookups.{row_at}
use Rattle.tokei_table.specs.Openers.{openers}
use Rattle.tokei_table.specs.Row.{Row}
use Rattle.tokei_parts.specs.Glance.{holds, is_walked, opener_place, walks}
use Rattle.tokei_parts.specs.Glanced.{AreInLine, Knows}
use Rattle.tokei_parts.specs.Items.{Block}
use Rattle.tokei_count.specs.Languages.{is_notebook}
use Rattle.tokei_embedding.specs.DocComments.{first_line}
use Rattle.tokei_table_row.specs.Bytes.{line_len}
use Rattle.tokei_parts.specs.Matchers.{Matchers, matchers_of}
use Rattle.tokei_parts.specs.Modes.{Chain, innermost}
use Rattle.tokei_count.specs.NotebookCells.{cell_blocks}
use Rattle.tokei_count.specs.Languages.{languages_of}
use Rattle.tokei_count.specs.PlainReading.{blocks}
use Rattle.tokei_parts.specs.Tally.{one_of}
use Rattle.tokei_parts.specs.Progress.{marks_ahead, children_left, steps_left, IsPart, ReadsLine, ReadsChild}
use Rattle.tokei_parts.proofs.Leading.{line_len-drop}
use Rattle.tokei_parts.proofs.LineEnds.{below_or}
use Rattle.tokei_parts.proofs.PartFronts.{line_len_within, part_on, part_anew}
use Rattle.tokei_count.specs.Steps.{own_steps_by, items_in, children_in, sum_over, with_children, made_steps, child_steps, capped}
use Rattle.tokei_parts.specs.Running.{choices_made, running}
use Rattle.tokei_parts.specs.declared.class.Class.{Class}
use Rattle.tokei_parts.specs.declared.class.Class.TheVariants.{Blank, Code, Comment}
use Rattle.tokei_stats.specs.Statistics.{Counts, plus, lines_of}
use Rattle.tokei_parts.proofs.Ahead.{marks_ahead-end}
use Rattle.tokei_parts.proofs.Lines.{children_left-none, length-whole, length-broken, first_some}
use Rattle.tokei_count.proofs.Running.{own_steps_by-running}
use Rattle.tokei_parts.proofs.OpenersInLines.{below, holds-line, none_next, place-later}

abbrev pub most : ℕ
most = 340282366920938463463374607431768211455

capped-by : (n : ℕ) (x : Bool) → nat_le n most ≡ x → ((n ≤ most) × (cond x n most ≡ n)) ⊎ ((most ≤ n) × (cond x n most ≡ most))
capped-by n true e = let h : n ≤ most = grind (arith, nat_tests, e) in inl (h, refl)
capped-by n false e = let h : most ≤ n = grind (arith, nat_tests, e) in inr (h, refl)

pub capped-is : (n : ℕ) → ((n ≤ most) × (capped n ≡ n)) ⊎ ((most ≤ n) × (capped n ≡ most))
capped-is n = capped-by n (nat_le n most) refl

-- a sum that is capped late is what it is where a summand is capped first
pub capped-left : (a b : ℕ) → capped (capped a + b) ≡ capped (a + b)
capped-left a b = by_case (capped-is a)
  where
    past : (n : ℕ) → most ≤ n → capped n ≡ most
    past n h = by (capped-is n)
      where
        by : ((n ≤ most) × (capped n ≡ n)) ⊎ ((most ≤ n) × (capped n ≡ most)) → capped n ≡ most
        by (inl k) = k.1 ∙ omega (arith, h, k.0)
        by (inr k) = k.1

    by_case : ((a ≤ most) × (capped a ≡ a)) ⊎ ((most ≤ a) × (capped a ≡ most)) → capped (capped a + b) ≡ capped (a + b)
    by_case (inl h) = ap (λ n. capped (n + b)) h.1
    by_case (inr h) = past (capped a + b) (omega (arith, h.1)) ∙ sym (past (a + b) (omega (arith, h.0)))

pub capped-right : (a b : ℕ) → capped (a + capped b) ≡ capped (a + b)
capped-right a b =
    let there : a + capped b ≡ capped b + a = omega arith in
    let back : b + a ≡ a + b = omega arith in
    ap capped there ∙ capped-left b a ∙ ap capped back

pub capped_middle : (a b c : ℕ) → capped (a + capped b + c) ≡ capped (a + b + c)
capped_middle a b c =
    let there : a + capped b + c ≡ capped b + (a + c) = omega arith in
    let back : b + (a + c) ≡ a + b + c = omega arith in
    ap capped there ∙ capped-left b (a + c) ∙ ap capped back

pub capped-twice : (n : ℕ) → capped n ≡ capped (capped n)
capped-twice n =
    let bare : n ≡ n + 0 = omega arith in
    let capped_bare : capped n + 0 ≡ capped n = omega arith in
    ap capped bare ∙ sym (capped-left n 0) ∙ ap capped capped_bare

-- the search goes on from a later place
pub knows_later : (os : List (List ℕ)) (text : List ℕ) (start start' next : ℕ) → start ≤ start' → Knows os text start next → Knows os text start' next
knows_later os text start start' next low known = λ below.
    let n : ℕ = start' - start in
    let here : next ≡ start + opener_place os (drop start text) = known (omega (arith, low, below)) in
    let place : start + n ≡ start' = omega (arith, low) in
    let there : drop n (drop start text) ≡ drop start' text = drop-drop n start text ∙ ap (λ m. drop m text) place in
    let later : opener_place os (drop start' text) ≡ opener_place os (drop start text) - n = ap (opener_place os) (sym there) ∙ place-later os n (drop start text) (omega (arith, here, below, low)) in
    omega (arith, here, later, low, below)

none_drop : (os : List (List ℕ)) (n : ℕ) (u : List ℕ) → holds os u ≡ false → holds os (drop n u) ≡ false
none_drop os zero u h = h
none_drop os (suc n) [] h = h
none_drop os (suc n) (b ∷ t) h = none_drop os n t (none_next os b t h)

none_of : {A : Type 0} (o : Option A) → is_some o ≡ false → o ≡ None
none_of None h = refl
none_of (Some a) h = cc

-- in a text without opener no part that begins plain is walked
pub not_walked : (os : List (List ℕ)) (text : List ℕ) (start : ℕ) (c : Chain) → AreInLine os → first_opener os text ≡ None → c ≡ []
    → is_walked os (innermost c) (first_line (drop start text)) ≡ true → ⊥
not_walked os text start c lines none plain walked =
    let u : List ℕ = drop start text in
    let none_here : first_opener os u ≡ None = none_of (first_opener os u) (none_drop os start text (ap is_some none)) in
    let quiet : holds os (first_line u) ≡ false = holds-line os lines u ∙ ap (λ o. below o (length (first_line u))) none_here in
    let both : true ≡ false = sym walked ∙ ap (λ (d : Chain). is_walked os (innermost d) (first_line u)) plain ∙ quiet in
    cc

-- a line is one line
pub lines_of-one : (a : Counts) (class : Class) → lines_of (plus a (one_of class)) ≡ lines_of a + 1
lines_of-one a Blank = omega arith
lines_of-one a Code = omega arith
lines_of-one a Comment = omega arith

sum_none : (f : Block → ℕ) → ((k : Block) → f k ≡ 0) → (ks : List Block) → sum_over f ks ≡ 0
sum_none f h [] = refl
sum_none f h (k ∷ ks) = omega (arith, h k, sum_none f h ks)

module _ (skips : Bool) (rows : List Row) (levels language : ℕ) (text : List ℕ) where
  abbrev g : Row
  g = row_at rows language

  abbrev block : ℕ → List ℕ → Option Block
  block = blocks (languages_of rows) levels language text

  abbrev inner_of : List Block → ℕ
  inner_of = sum_over (child_steps skips (languages_of rows) levels)

  abbrev all_kids : List Block
  all_kids = children_left g block (length text) [] text

  -- the steps so far and those that are left are all
  pub record AreUnderWay (made more l : ℕ) (c : Chain) (rest : List ℕ) : Type 0 where
    pub own : made + (steps_left g block l skips c rest + length (children_left g block l c rest)) ≡ steps_left g block (length text) skips [] text + length all_kids
    pub inner : capped (more + inner_of (children_left g block l c rest)) ≡ capped (inner_of all_kids)

  pub steps-lines : is_notebook g ≡ false → made_steps skips (languages_of rows) levels language text ≡ steps_left g block (length text) skips [] text + length all_kids + inner_of all_kids
  unfolding with_children marks_ahead
  steps-lines h = by_levels levels h
    where
      by_levels : (n : ℕ) → is_notebook (row_at rows language) ≡ false
          → made_steps skips (languages_of rows) n language text
          ≡ steps_left (row_at rows language) (blocks (languages_of rows) n language text) (length text) skips [] text + length
          (children_left (row_at rows language) (blocks (languages_of rows) n language text) (length text) [] text) + sum_over
          (child_steps skips (languages_of rows) n) (children_left (row_at rows language) (blocks (languages_of rows) n language text)
          (length text) [] text)
      by_levels zero h =
          let none = sum_none (child_steps skips (languages_of rows) zero) (λ k. refl) (children_in (languages_of rows) zero language text) in
          ap (λ x. cond x 0 (own_steps_by skips (row_at rows language) text (items_in (languages_of rows) zero language text) + length (children_in (languages_of rows) zero language text))) h
          ∙ omega (arith, none, own_steps_by-running skips (row_at rows language) text (items_in (languages_of rows) zero language text))
      by_levels (suc n) h = ap (λ x. cond x (sum_over (λ k. made_steps skips (languages_of rows) n k.language k.contents)
          (cell_blocks rows language text)) (own_steps_by skips (row_at rows language) text (items_in (languages_of rows) (suc n) language text) +
          length (children_in (languages_of rows) (suc n) language text) + sum_over
          (λ k. made_steps skips (languages_of rows) n k.language k.contents) (children_in (languages_of rows) (suc n) language text))) h
          ∙ ap (λ m. m + length (children_in (languages_of rows) (suc n) language text) + sum_over
          (λ k. made_steps skips (languages_of rows) n k.language k.contents) (children_in (languages_of rows) (suc n) language text))
          (own_steps_by-running skips (row_at rows language) text (items_in (languages_of rows) (suc n) language text))

  -- a notebook, with levels left or none
  pub steps-notebook : is_notebook g ≡ true → 0 < levels → made_steps skips (languages_of rows) levels language text ≡ inner_of (cell_blocks rows language text)
  unfolding with_children
  steps-notebook h some = by_levels levels some h
    where
      by_levels : (n : ℕ) → 0 < n → is_notebook (row_at rows language) ≡ true
          → made_steps skips (languages_of rows) n language text
          ≡ sum_over (child_steps skips (languages_of rows) n) (cell_blocks rows language text)
      by_levels zero some h = absurd (omega (arith, some))
      by_levels (suc n) some h = ap (λ x. cond x (sum_over (λ k. made_steps skips (languages_of rows) n k.language k.contents)
          (cell_blocks rows language text)) (own_steps_by skips (row_at rows language) text (items_in (languages_of rows) (suc n) language text) +
          length (children_in (languages_of rows) (suc n) language text) + sum_over
          (λ k. made_steps skips (languages_of rows) n k.language k.contents) (children_in (languages_of rows) (suc n) language text))) h

  pub steps-no_notebook : is_notebook g ≡ true → levels ≡ 0 → made_steps skips (languages_of rows) levels language text ≡ 0
  unfolding with_children
  steps-no_notebook h none_left = by_levels levels none_left h
    where
      by_levels : (n : ℕ) → n ≡ 0 → is_notebook (row_at rows language) ≡ true → made_steps skips (languages_of rows) n language text ≡ 0
      by_levels zero e h = ap (λ x. cond x 0 (own_steps_by skips (row_at rows language) text (items_in (languages_of rows) zero language text) +
          length (children_in (languages_of rows) zero language text))) h
      by_levels (suc n) e h = absurd (omega (arith, e))

  steps_left-none : (l : ℕ) (c : Chain) → steps_left g block l skips c [] ≡ 0
  unfolding running
  steps_left-none l c = ap (λ ms. choices_made skips (openers g) (running (innermost c) [] 0 [] ms)) (marks_ahead-end g block l c)

  -- at the end nothing is left
  pub steps_whole : (own inner l : ℕ) (c : Chain) → is_notebook g ≡ false → AreUnderWay own inner l c [] → capped (inner + own) ≡ capped (made_steps skips (languages_of rows) levels language text)
  steps_whole own inner l c n u =
      let no_kids : children_left g block l c [] ≡ [] = children_left-none g block l false c in
      let own_is : own ≡ steps_left g block (length text) skips [] text + length all_kids = omega (arith, u.own, steps_left-none l c, ap length no_kids) in
      let bare : inner ≡ inner + 0 = omega arith in
      let inner_is : capped inner ≡ capped (inner_of all_kids) = ap capped bare ∙ ap (λ ks. capped (inner + inner_of ks)) (sym no_kids) ∙ u.inner in
      let all : inner_of all_kids + own ≡ made_steps skips (languages_of rows) levels language text = omega (arith, own_is, steps-lines n) in
      sym (capped-left inner own) ∙ ap (λ m. capped (m + own)) inner_is ∙ capped-left (inner_of all_kids) own ∙ ap capped all

  module _ (own inner l : ℕ) (c : Chain) (rest : List ℕ) (u : AreUnderWay own inner l c rest) where
    -- a line that is walked
    pub line_steps : (docs_are_comments : Bool) (n j : ℕ) (class : Class) (d : Chain) → ReadsLine g block l docs_are_comments c n j class d rest
        → walks skips (openers g) (innermost c) (take n rest) ≡ true → AreUnderWay (own + j) inner l d (drop n rest)
    line_steps docs_are_comments n j class d r walked =
        let here : steps_left g block l skips c rest ≡ j + steps_left g block l skips d (drop n rest) = r.steps skips ∙ ap (λ x. cond x j 0 + steps_left g block l skips d (drop n rest)) walked in
        record {
          own = omega (arith, u.own, here, ap length r.kids);
          inner = ap (λ ks. capped (inner + inner_of ks)) (sym r.kids) ∙ u.inner;
        }

    -- a line that isn't
    pub line_skipped : (docs_are_comments : Bool) (n j : ℕ) (class : Class) (d : Chain) → ReadsLine g block l docs_are_comments c n j class d rest
        → walks skips (openers g) (innermost c) (take n rest) ≡ false → AreUnderWay own inner l d (drop n rest)
    line_skipped docs_are_comments n j class d r walked =
        let here : steps_left g block l skips c rest ≡ 0 + steps_left g block l skips d (drop n rest) = r.steps skips ∙ ap (λ x. cond x j 0 + steps_left g block l skips d (drop n rest)) walked in
        record {
          own = omega (arith, u.own, here, ap length r.kids);
          inner = ap (λ ks. capped (inner + inner_of ks)) (sym r.kids) ∙ u.inner;
        }

    -- a part that a child breaks off, and the child
    pub broken_steps : (docs_are_comments : Bool) (n j : ℕ) (k : Block) (d : Chain) → ReadsChild g block l docs_are_comments c n j k d rest
        → walks skips (openers g) (innermost c) (first_line rest) ≡ true
        → AreUnderWay (own + (j + 1)) (capped (inner + capped (child_steps skips (languages_of rows) levels k))) (length rest - (n + k.size)) [] (drop (n + k.size) rest)
    broken_steps docs_are_comments n j k d r walked =
        let l' : ℕ = length rest - (n + k.size) in
        let behind : List ℕ = drop (n + k.size) rest in
        let kids : List Block = children_left g block l' [] behind in
        let one : ℕ = child_steps skips (languages_of rows) levels k in
        let here : steps_left g block l skips c rest ≡ j + steps_left g block l' skips [] behind = r.steps skips ∙ ap (λ x. cond x j 0 + steps_left g block l' skips [] behind) walked in
        let all : inner + one + inner_of kids ≡ inner + inner_of (k ∷ kids) = omega arith in
        record {
          own = omega (arith, u.own, here, ap length r.kids);
          inner = capped-left (inner + capped one) (inner_of kids)
              ∙ capped_middle inner one (inner_of kids)
              ∙ ap capped all
              ∙ ap (λ ks. capped (inner + inner_of ks)) (sym r.kids) ∙ u.inner;
        }

pub child_steps-is : (skips : Bool) (rows : List Row) (n : ℕ) (k : Block) → 0 < n → child_steps skips (languages_of rows) n k ≡ made_steps skips (languages_of rows) (n - 1) k.language k.contents
child_steps-is skips rows zero k h = absurd (omega arith)
child_steps-is skips rows (suc n) k h = let e : n ≡ suc n - 1 = omega arith in ap (λ m. made_steps skips (languages_of rows) m k.language k.contents) e

-- the matchers of a language of the table
pub matchers_at : (rows : List Row) (language i : ℕ) (d : Matchers) → i ≡ language → language < length rows → get_or (map matchers_of rows) i d ≡ matchers_of (row_at rows language)
matchers_at rows language i d e h = ap (λ n. get_or (map matchers_of rows) n d) e ∙ there rows language h
  where
    there : (rs : List Row) (n : ℕ) → n < length rs → get_or (map matchers_of rs) n d ≡ matchers_of (row_at rs n)
    there [] n h = absurd (omega (arith, h))
    there (r ∷ rs) zero h = refl
    there (r ∷ rs) (suc n) h = there rs n (omega (arith, h))

-- where a line ends and the text doesn't, a part begins
pub glance_part : (text : List ℕ) (l start stop : ℕ) → IsPart text l start start → stop ≡ start + length (first_line (drop start text))
    → start < length text → stop < length text → IsPart text l stop stop
glance_part text l start stop p e some more =
    let u : List ℕ = drop start text in
    let len : length u ≡ length text - start = length-drop start text in
    let broken : length (first_line u) ≡ line_len u + 1 = by_case (below_or (line_len u) (length u)) in
    let here : IsPart text l start (start + line_len u) = part_on text l start start (line_len u) p (omega arith) in
    let none : line_len (drop (start + line_len u) text) ≡ 0 = ap line_len (sym (drop-drop (line_len u) start text)) ∙ line_len-drop (line_len u) u (omega arith) ∙ omega arith in
    let place : start + line_len u + 1 ≡ stop = omega (arith, e, broken) in
    subst (λ m. IsPart text l m m) place (part_anew text l start (start + line_len u) here none (omega (arith, e, broken, more)))
  where
    by_case : (line_len (drop start text) < length (drop start text)) ⊎ (length (drop start text) ≤ line_len (drop start text)) → length (first_line (drop start text)) ≡ line_len (drop start text) + 1
    by_case (inl h) = length-broken (drop start text) h
    by_case (inr h) = absurd (omega (arith, length-whole (drop start text) h, line_len_within (drop start text), length-drop start text, e, more, h))

-- a line takes a byte or more
pub line_some : (text : List ℕ) (start : ℕ) → start < length text → 0 < length (first_line (drop start text))
line_some text start h = some (drop start text) (omega (arith, length-drop start text, h))
  where
    some : (u : List ℕ) → 0 < length u → 0 < length (first_line u)
    some [] h = absurd (omega (arith, h))
    some (b ∷ t) h = first_some b t

pub matchers_below : (rows : List Row) (ms : List Matchers) (language i : ℕ) → i ≡ language → ms ≡ map matchers_of rows → language < length rows → i < length ms
matchers_below rows ms language i at is known = omega (arith, at, known, ap length is, length-map rows matchers_of)
