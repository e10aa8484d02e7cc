-- A part at whose head nothing but code can begin is code, and a part of blanks is blank.
use Rattle.std.proofs.Common.{◌≡◌, ℕ, zero, suc, ◌+◌, ◌-◌, ◌<◌, ◌≤◌, ◌==◌, Bool, true, false, ◌&&◌, ◌||◌, not, cond, List}
use Rattle.std.proofs.Common.{[], ◌∷◌, None, Some, drop, take, length, length-drop, get_or, slice_index_or, refl, sym, ◌∙◌, ap, subst, arith, inl, inr}
use Rattle.std.proofs.lemmas.Bool.{cases_lt}
use Rattle.std.proofs.lemmas.List.{length-take-le, get_or-take, get_or-drop}
use Rattle.std.proofs.Math.ListN.{drop_of_length-le}
use Rattle.std.specs.List.{list_all, list_any}
use Rattle.std.specs.Str.{bytes_eq}
use Rattle.tokei_table.specs.Bytes.{ends, is_blank, all_blank, trim, trim_start, trim_end}
use Rattle.tokei_table.specs.FirstOpener.{is_first_of}
use Rattle.tokei_table.specs.Row.{Pair, Row}
use Rattle.tokei_table.specs.Sound.{is_token, is_pair, IsSound}
use Rattle.tokei_parts.specs.Choice.{any_begins}
use Rattle.tokei_parts.specs.Class.{class_of, encloses, opens_with, head_of, is_comment, is_doc_string, keeps_columns, in_string, in_doc_string, in_comment, ends_opened}
use Rattle.tokei_parts.specs.CodeHeads.{BeginsNoComment, FrontBeginsNone, HasCodeHead, HasSolid}
use Rattle.tokei_parts.specs.PlainBytes.{BeginsNone}
use Rattle.tokei_parts.specs.Derivation.{closer_of}
use Rattle.tokei_parts.specs.Items.{Mode}
use Rattle.tokei_parts.specs.Matchers.{Matchers, matchers_of, begins_comment, begins_in_comment, begins_opener, begins_choice}
use Rattle.tokei_parts.specs.declared.class.Class.TheVariants.{Blank, Code, Comment}
use Rattle.tokei_parts.specs.declared.items.ItemKind.{ItemKind}
use Rattle.tokei_parts.specs.declared.items.ItemKind.TheVariants.{DocString, VerbatimString, OrdinaryString, MultiLineComment}
use Rattle.tokei_parts.proofs.Fits.{and_left, and_right}
use Rattle.tokei_parts.proofs.PlainBytes.{flag_at, no_comment_begun, none_begun, not_begun, token_some, none_begins, or_left, or_right}

not_enclosed : (ps : List Pair) (b : ℕ) (t : List ℕ) → list_all is_pair ps ≡ true → begins_opener ps b ≡ false → encloses ps (b ∷ t) ≡ false
not_enclosed [] b t s h = refl
not_enclosed (p ∷ ps) b t s h =
    let opener = and_left (is_token p.opener) (is_token p.closer) (and_left (is_pair p) (list_all is_pair ps) s) in
    ap (λ y. (y && ends p.closer (b ∷ t)) || encloses ps (b ∷ t)) (not_begun p.opener b t (token_some p.opener opener) (or_left (is_first_of b p.opener) (begins_opener ps b) h))
    ∙ not_enclosed ps b t (and_right (is_pair p) (list_all is_pair ps) s) (or_right (is_first_of b p.opener) (begins_opener ps b) h)

not_opened : (ps : List Pair) (c : List ℕ) (b : ℕ) (t : List ℕ) → list_all is_pair ps ≡ true → begins_opener ps b ≡ false → opens_with ps (b ∷ t) c ≡ false
not_opened [] c b t s h = refl
not_opened (p ∷ ps) c b t s h =
    let opener = and_left (is_token p.opener) (is_token p.closer) (and_left (is_pair p) (list_all is_pair ps) s) in
    ap (λ y. (y && bytes_eq p.closer c) || opens_with ps (b ∷ t) c) (not_begun p.opener b t (token_some p.opener opener) (or_left (is_first_of b p.opener) (begins_opener ps b) h))
    ∙ not_opened ps c b t (and_right (is_pair p) (list_all is_pair ps) s) (or_right (is_first_of b p.opener) (begins_opener ps b) h)

-- what a byte at which no choice begins can't begin
record StartsNothing (g : Row) (b : ℕ) (t : List ℕ) : Type 0 where
  line : any_begins g.line_comment (b ∷ t) ≡ false
  multi_line : encloses g.multi_line_comments (b ∷ t) ≡ false
  nested : encloses g.nested_comments (b ∷ t) ≡ false
  opens_multi_line : (c : List ℕ) → opens_with g.multi_line_comments (b ∷ t) c ≡ false
  opens_nested : (c : List ℕ) → opens_with g.nested_comments (b ∷ t) c ≡ false

starts_nothing : (g : Row) (s : IsSound g) (m : Matchers) (b : ℕ) (t : List ℕ) → m ≡ matchers_of g → BeginsNone m b → StartsNothing g b t
starts_nothing g s m b t is h =
    let none : begins_choice g b ≡ false = none_begun g b m is h in
    let h1 = or_right (b == 92) _ none in
    let h2 = or_right (begins_opener g.quotes b) _ h1 in
    let h3 = or_right (begins_opener g.verbatim_quotes b) _ h2 in
    let h4 = or_right (begins_opener g.doc_quotes b) _ h3 in
    let h5 = or_right (begins_opener g.multi_line_comments b) _ h4 in
    let multi : begins_opener g.multi_line_comments b ≡ false = or_left (begins_opener g.multi_line_comments b) _ h4 in
    let nested : begins_opener g.nested_comments b ≡ false = or_left (begins_opener g.nested_comments b) _ h5 in
    record {
      line = none_begins g.line_comment b t s.line_comment (or_right (begins_opener g.nested_comments b) _ h5);
      multi_line = not_enclosed g.multi_line_comments b t s.multi_line_comments multi;
      nested = not_enclosed g.nested_comments b t s.nested_comments nested;
      opens_multi_line = λ c. not_opened g.multi_line_comments c b t s.multi_line_comments multi;
      opens_nested = λ c. not_opened g.nested_comments c b t s.nested_comments nested;
    }

-- the first byte that isn't blank stays where the blanks at the end go
trimmed_by : (x y : Bool) (b : ℕ) (t : List ℕ) → x ≡ false → cond (x && y) [] (b ∷ trim_end t) ≡ b ∷ trim_end t
trimmed_by x y b t h = ap (λ z. cond (z && y) [] (b ∷ trim_end t)) h

front_solid : (t : List ℕ) (b : ℕ) (w : List ℕ) → trim_start t ≡ b ∷ w → is_blank b ≡ false
front_solid [] b w e = cc
front_solid (a ∷ t) b w e = by_test (is_blank a) refl e (front_solid t b w)
  where
    by_test : (x : Bool) → is_blank a ≡ x → cond x (trim_start t) (a ∷ t) ≡ b ∷ w → (trim_start t ≡ b ∷ w → is_blank b ≡ false) → is_blank b ≡ false
    by_test true f e ih = ih e
    by_test false f e ih = let same : a ≡ b = cc in ap is_blank (sym same) ∙ f

front_not_blank : (t : List ℕ) (b : ℕ) (w : List ℕ) → trim_start t ≡ b ∷ w → all_blank t ≡ false
front_not_blank [] b w e = cc
front_not_blank (a ∷ t) b w e = by_test (is_blank a) e (front_not_blank t b w)
  where
    by_test : (x : Bool) → cond x (trim_start t) (a ∷ t) ≡ b ∷ w → (trim_start t ≡ b ∷ w → all_blank t ≡ false) → (x && all_blank t) ≡ false
    by_test true e ih = ih e
    by_test false e ih = refl

module _ (g : Row) (s : IsSound g) (m : Matchers) (is : m ≡ matchers_of g) (docs_are_comments : Bool) (ended : Mode) (plain : g.literate ≡ false) (no_doc : in_doc_string ended ≡ false) where
  by_rules : (t : List ℕ) (a : ℕ) (t' : List ℕ) (b : ℕ) (w : List ℕ) → t ≡ a ∷ t' → trim t ≡ b ∷ w → all_blank t ≡ false → StartsNothing g a t' → StartsNothing g b w
      → class_of g docs_are_comments (record { begun = None; bytes = t; ended = ended }) ≡ Code
  unfolding class_of
  by_rules t a t' b w e f blank h k =
      let no_line : any_begins g.line_comment (head_of g t) ≡ false = by_columns (keeps_columns g.key) in
      let no_enclosed : (encloses g.multi_line_comments (trim t)
      || encloses g.nested_comments (trim t))
      ≡ false =
      ap (λ u. encloses g.multi_line_comments u || encloses g.nested_comments u) f
      ∙ ap (λ x. x || encloses g.nested_comments (b ∷ w)) k.multi_line ∙ k.nested in
      let no_ended : ends_opened g (head_of g t) ended ≡ false = by_mode (in_comment ended) ∙ by_opened (keeps_columns g.key) in
      ap
      (λ x. cond x Blank (cond g.literate Comment (cond
      (in_doc_string ended && docs_are_comments) Comment
      (cond (in_string ended) Code (cond (any_begins g.line_comment (head_of g t)) Comment
      (cond
      (encloses g.multi_line_comments (trim t)
      || encloses g.nested_comments (trim t))
      Comment (cond (ends_opened g (head_of g t) ended) Comment Code)))))))
      blank
      ∙ ap
      (λ x. cond x Comment (cond (in_doc_string ended && docs_are_comments) Comment
      (cond (in_string ended) Code (cond (any_begins g.line_comment (head_of g t)) Comment
      (cond
      (encloses g.multi_line_comments (trim t)
      || encloses g.nested_comments (trim t))
      Comment (cond (ends_opened g (head_of g t) ended) Comment Code))))))
      plain
      ∙ ap
      (λ x. cond (x && docs_are_comments) Comment (cond (in_string ended) Code
      (cond (any_begins g.line_comment (head_of g t)) Comment
      (cond
      (encloses g.multi_line_comments (trim t)
      || encloses g.nested_comments (trim t))
      Comment (cond (ends_opened g (head_of g t) ended) Comment Code)))))
      no_doc
      ∙ ap
      (λ x. cond (in_string ended) Code (cond x Comment (cond
      (encloses g.multi_line_comments (trim t) || encloses g.nested_comments (trim t))
      Comment (cond (ends_opened g (head_of g t) ended) Comment Code))))
      no_line
      ∙ ap (λ x. cond (in_string ended) Code (cond x Comment (cond (ends_opened g (head_of g t) ended) Comment Code))) no_enclosed
      ∙ ap (λ x. cond (in_string ended) Code (cond x Comment Code)) no_ended
      ∙ both (in_string ended)
    where
      both : (x : Bool) → cond x Code Code ≡ Code
      both true = refl
      both false = refl

      by_columns : (x : Bool) → any_begins g.line_comment (cond x t (trim t)) ≡ false
      by_columns true = ap (any_begins g.line_comment) e ∙ h.line
      by_columns false = ap (any_begins g.line_comment) f ∙ k.line

      none_opens : (x : Bool) (c : List ℕ) → (opens_with g.multi_line_comments (cond x t (trim t)) c || opens_with g.nested_comments (cond x t (trim t)) c) ≡ false
      none_opens true c =
          ap (λ u. opens_with g.multi_line_comments u c || opens_with g.nested_comments u c) e
          ∙ ap (λ y. y || opens_with g.nested_comments (a ∷ t') c) (h.opens_multi_line c)
          ∙ h.opens_nested c
      none_opens false c =
          ap (λ u. opens_with g.multi_line_comments u c || opens_with g.nested_comments u c) f
          ∙ ap (λ y. y || opens_with g.nested_comments (b ∷ w) c) (k.opens_multi_line c)
          ∙ k.opens_nested c

      by_mode : (y : Bool) → (y && (opens_with g.multi_line_comments (head_of g t) (closer_of ended) || opens_with g.nested_comments (head_of g t) (closer_of ended))) ≡ (y && false)
      by_mode y = ap (λ z. y && z) (none_opens (keeps_columns g.key) (closer_of ended))

      by_opened : (x : Bool) → (in_comment ended && false) ≡ false
      by_opened x = and_false (in_comment ended)
        where
          and_false : (y : Bool) → (y && false) ≡ false
          and_false true = refl
          and_false false = refl

  pub code_head : (t : List ℕ) → HasCodeHead m t → class_of g docs_are_comments (record { begun = None; bytes = t; ended = ended }) ≡ Code
  code_head t h = by_front t refl (trim_start t) refl h.first h.head
    where
      by_front : (u : List ℕ) → t ≡ u → (v : List ℕ) → trim_start t ≡ v → FrontBeginsNone m u
          → FrontBeginsNone m v
          → class_of g docs_are_comments (record { begun = None; bytes = t; ended = ended }) ≡ Code
      by_front [] e v f i k = absurd i
      by_front (a ∷ u) e [] f i k = absurd k
      by_front (a ∷ u) e (b ∷ w) f i k =
          let trimmed : trim t ≡ b ∷ trim_end w = ap trim_end f ∙ trimmed_by (is_blank b) (all_blank w) b w (front_solid t b w f) in
          by_rules t a u b (trim_end w) e trimmed (front_not_blank t b w f) (starts_nothing g s m a u is i) (starts_nothing g s m b (trim_end w) is k)

-- the same where no comment can begin at these bytes
quiet_nothing : (g : Row) (s : IsSound g) (m : Matchers) (b : ℕ) (t : List ℕ) → m ≡ matchers_of g → BeginsNoComment m b → StartsNothing g b t
quiet_nothing g s m b t is h =
    let no_comment : begins_comment g b ≡ false = no_comment_begun g b m is h in
    let none : begins_in_comment g b ≡ false = or_left (begins_in_comment g b) _ no_comment in
    let h1 = or_right (b == 92) _ none in
    let multi : begins_opener g.multi_line_comments b ≡ false = or_left (begins_opener g.multi_line_comments b) _ h1 in
    let nested : begins_opener g.nested_comments b ≡ false = or_right (begins_opener g.multi_line_comments b) _ h1 in
    record {
      line = none_begins g.line_comment b t s.line_comment (or_right (begins_in_comment g b) _ no_comment);
      multi_line = not_enclosed g.multi_line_comments b t s.multi_line_comments multi;
      nested = not_enclosed g.nested_comments b t s.nested_comments nested;
      opens_multi_line = λ c. not_opened g.multi_line_comments c b t s.multi_line_comments multi;
      opens_nested = λ c. not_opened g.nested_comments c b t s.nested_comments nested;
    }

-- the byte at a place of a list
byte_there : (u : List ℕ) (h : ℕ) → h < length u → drop h u ≡ get_or u h 0 ∷ drop (suc h) u
byte_there [] h l = absurd (omega arith)
byte_there (a ∷ u) zero l = refl
byte_there (a ∷ u) (suc h) l = byte_there u h (omega arith)

module _ (g : Row) (s : IsSound g) (m : Matchers) (is : m ≡ matchers_of g) (docs_are_comments : Bool) (ended : Mode) (plain : g.literate ≡ false) (no_doc : in_doc_string ended ≡ false) where
  pub quiet_head : (t : List ℕ) (h : ℕ) → h < length t → trim_start t ≡ drop h t → BeginsNoComment m (get_or t 0 0) → BeginsNoComment m (get_or t h 0)
      → class_of g docs_are_comments (record { begun = None; bytes = t; ended = ended }) ≡ Code
  quiet_head t h l e first head =
      let b : ℕ = get_or t h 0 in
      let w : List ℕ = drop (suc h) t in
      let f : trim_start t ≡ b ∷ w = e ∙ byte_there t h l in
      let trimmed : trim t ≡ b ∷ trim_end w = ap trim_end f ∙ trimmed_by (is_blank b) (all_blank w) b w (front_solid t b w f) in
      by_rules g s m is docs_are_comments ended plain no_doc t (get_or t 0 0) (drop 1 t) b (trim_end w) (byte_there t 0 (omega (arith, l))) trimmed (front_not_blank t b w f)
      (quiet_nothing g s m (get_or t 0 0) (drop 1 t) is first) (quiet_nothing g s m b (trim_end w) is head)

pub no_head : (t : List ℕ) → trim_start t ≡ [] → all_blank t ≡ true
no_head [] e = refl
no_head (a ∷ t) e = by_test (is_blank a) e (no_head t)
  where
    by_test : (x : Bool) → cond x (trim_start t) (a ∷ t) ≡ [] → (trim_start t ≡ [] → all_blank t ≡ true) → (x && all_blank t) ≡ true
    by_test true e rest = rest e
    by_test false e rest = cc

pub blank_part : (g : Row) (docs_are_comments : Bool) (t : List ℕ) (ended : Mode) → trim_start t ≡ [] → class_of g docs_are_comments (record { begun = None; bytes = t; ended = ended }) ≡ Blank
unfolding class_of
blank_part g docs_are_comments t ended e = rw (no_head t e) refl

pub head_not_blank : (m : Matchers) (t v : List ℕ) → trim_start t ≡ v → FrontBeginsNone m v → all_blank t ≡ false
head_not_blank m t [] e k = absurd k
head_not_blank m t (b ∷ w) e k = front_not_blank t b w e

-- in a literate language a part that isn't blank is a comment
pub literate_part : (g : Row) (docs_are_comments : Bool) (t : List ℕ) (ended : Mode)
    → g.literate ≡ true → all_blank t ≡ false
    → class_of g docs_are_comments (record { begun = None; bytes = t; ended = ended }) ≡ Comment
unfolding class_of
literate_part g docs_are_comments t ended literate solid = rw (solid, literate) refl

-- so is one with such a head
pub literate_head : (g : Row) (docs_are_comments : Bool) (m : Matchers) (t : List ℕ) (ended : Mode)
    → g.literate ≡ true → HasCodeHead m t
    → class_of g docs_are_comments (record { begun = None; bytes = t; ended = ended }) ≡ Comment
literate_head g docs_are_comments m t ended literate h = literate_part g docs_are_comments t ended literate (head_not_blank m t (trim_start t) refl h.head)

-- no byte before place h is no blank, and the one there, where there is one, isn't
pub front_at : (u : List ℕ) (h : ℕ) → h ≤ length u → ((k : ℕ) → k < h → is_blank (get_or u k 0) ≡ true) → (h < length u → is_blank (get_or u h 0) ≡ false) → trim_start u ≡ drop h u
front_at [] zero l f g = refl
front_at [] (suc h) l f g = absurd (omega arith)
front_at (a ∷ u) zero l f g = ap (λ x. cond x (trim_start u) (a ∷ u)) (g (omega arith))
front_at (a ∷ u) (suc h) l f g = ap (λ x. cond x (trim_start u) (a ∷ u)) (f zero (omega arith)) ∙ front_at u h (omega arith) (λ k i. f (suc k) (omega arith)) (λ i. g (omega arith))

begun_at : (m : Matchers) (u : List ℕ) (h : ℕ) → h < length u → BeginsNone m (get_or u h 0) → FrontBeginsNone m (drop h u)
begun_at m [] h l n = absurd (omega arith)
begun_at m (a ∷ u) zero l n = n
begun_at m (a ∷ u) (suc h) l n = begun_at m u h (omega arith) n

-- the blanks before `solid` and those from it on
pub blanks : (text : List ℕ) (start solid head : ℕ)
    → ((p : ℕ) → start ≤ p → p < solid → is_blank (get_or text p 0) ≡ true) → ((p : ℕ) → solid ≤ p → p < head → is_blank (get_or text p 0) ≡ true)
    → (p : ℕ) → start ≤ p → p < head → is_blank (get_or text p 0) ≡ true
blanks text start solid head front rest p low high = elim (cases_lt p solid) [
  | inl before ↦ front p low before
  | inr behind ↦ rest p behind high
]

-- The part of the text t from place i to before place j, whose front blanks end at place h.
module _ (t : List ℕ) (i j h : ℕ) (low : i ≤ h) (high : h ≤ j) (within : j ≤ length t)
    (blank : (p : ℕ) → i ≤ p → p < h → is_blank (get_or t p 0) ≡ true) (solid : h < j → is_blank (get_or t h 0) ≡ false) where
  abbrev pub part : List ℕ
  part = take (j - i) (drop i t)

  length-part : length part ≡ j - i
  length-part = length-take-le (j - i) (drop i t) (omega (arith, length-drop i t))

  byte_at : (k : ℕ) → k < j - i → get_or part k 0 ≡ get_or t (i + k) 0
  byte_at k l = get_or-take (j - i) (drop i t) k 0 l ∙ get_or-drop i t k 0

  pub front_is : trim_start part ≡ drop (h - i) part
  front_is = front_at part (h - i) (omega (arith, length-part))
      (λ k l. ap is_blank (byte_at k (omega arith)) ∙ blank (i + k) (omega arith) (omega arith))
      (λ l. ap is_blank (byte_at (h - i) (omega (arith, length-part)) ∙ ap (λ p. get_or t p 0) (omega arith)) ∙ solid (omega (arith, length-part)))

  pub blank_front : h ≡ j → trim_start part ≡ []
  blank_front e = front_is ∙ drop_of_length-le part (omega (arith, length-part))

  pub code_front : (m : Matchers) → h < j → BeginsNone m (get_or t i 0) → BeginsNone m (get_or t h 0) → HasCodeHead m part
  code_front m l a b = record {
    first = begun_at m part 0 (omega (arith, length-part)) (subst (BeginsNone m) (ap (λ p. get_or t p 0) (omega arith) ∙ sym (byte_at 0 (omega arith))) a);
    head =
        subst (FrontBeginsNone m) (sym front_is) (begun_at m part (h - i)
        (omega (arith, length-part))
        (subst (BeginsNone m)
        (ap (λ p. get_or t p 0) (omega arith) ∙ sym (byte_at (h - i) (omega arith))) b));
  }

-- where no comment can begin at a part's first byte and at its head, it is code
pub quiet_part : (g : Row) (s : IsSound g) (m : Matchers) → m ≡ matchers_of g → (docs_are_comments : Bool) (ended : Mode) → g.literate ≡ false → in_doc_string ended ≡ false
    → (t : List ℕ) (i j h : ℕ) → i ≤ h → h < j → j ≤ length t → ((p : ℕ) → i ≤ p → p < h → is_blank (get_or t p 0) ≡ true) → is_blank (get_or t h 0) ≡ false
    → BeginsNoComment m (get_or t i 0) → BeginsNoComment m (get_or t h 0)
    → class_of g docs_are_comments (record { begun = None; bytes = take (j - i) (drop i t); ended = ended }) ≡ Code
quiet_part g s m is docs_are_comments ended plain no_doc t i j h low high within blank solid first head =
    let u : List ℕ = take (j - i) (drop i t) in
    let long : length u ≡ j - i = length-take-le (j - i) (drop i t) (omega (arith, length-drop i t, within)) in
    let there : (k : ℕ) → k < j - i → get_or u k 0 ≡ get_or t (i + k) 0 = λ k l. get_or-take (j - i) (drop i t) k 0 l ∙ get_or-drop i t k 0 in
    let at_first : get_or t i 0 ≡ get_or u 0 0 = ap (λ p. get_or t p 0) (omega arith) ∙ sym (there 0 (omega (arith, low, high))) in
    let at_head : get_or t h 0 ≡ get_or u (h - i) 0 = ap (λ p. get_or t p 0) (omega (arith, low)) ∙ sym (there (h - i) (omega (arith, low, high))) in
    quiet_head g s m is docs_are_comments ended plain no_doc u (h - i) (omega (arith, long, low, high))
    (front_is t i j h low (omega (arith, high)) within blank (λ _. solid))
    (subst (BeginsNoComment m) at_first first) (subst (BeginsNoComment m) at_head head)

-- the first byte from a place on that isn't blank
record FirstSolid (t : List ℕ) (i e : ℕ) : Type 0 where
  head : ℕ
  low : i ≤ head
  high : head ≤ e
  blank : (p : ℕ) → i ≤ p → p < head → is_blank (get_or t p 0) ≡ true
  solid : is_blank (get_or t head 0) ≡ false

first_solid : (t : List ℕ) (i n e : ℕ) → e ≡ i + n → (b : Bool) → is_blank (get_or t i 0) ≡ b → is_blank (get_or t e 0) ≡ false → FirstSolid t i e
first_solid t i n e is false b s = record { head = i; low = omega arith; high = omega (arith, is); blank = λ p l h. absurd (omega (arith, l, h)); solid = b }
first_solid t i zero e is true b s =
    let same : e ≡ i = omega (arith, is) in
    let blank : is_blank (get_or t e 0) ≡ true = ap (λ p. is_blank (get_or t p 0)) same ∙ b in
    absurd (cc)
first_solid t i (suc n) e is true b s =
    let rest : FirstSolid t (i + 1) e = first_solid t (i + 1) n e (omega (arith, is)) (is_blank (get_or t (i + 1) 0)) refl s in
    record {
      head = rest.head;
      low = omega (arith, rest.low);
      high = rest.high;
      blank = λ p l h. elim (cases_lt i p) [
        | inl behind ↦ rest.blank p (omega (arith, behind)) h
        | inr here ↦ ap (λ q. is_blank (get_or t q 0)) (omega (arith, l, here)) ∙ b
      ];
      solid = rest.solid;
    }

-- where no choice can begin at any byte of a front that isn't blank, the part has such a head
pub solid_front : (t : List ℕ) (i e j : ℕ) (m : Matchers) → e ≤ j → j ≤ length t
    → ((p : ℕ) → i ≤ p → p < e → BeginsNone m (get_or t p 0)) → HasSolid t i e → HasCodeHead m (take (j - i) (drop i t))
solid_front t i e j m high within plain s =
    let f : FirstSolid t i s.place = first_solid t i (s.place - i) s.place (omega (arith, s.low)) (is_blank (get_or t i 0)) refl s.solid in
    code_front t i j f.head f.low (omega (arith, f.high, s.high, high)) within f.blank (λ _. f.solid) m (omega (arith, f.high, s.high, high))
    (plain i (omega arith) (omega (arith, s.low, s.high))) (plain f.head f.low (omega (arith, f.high, s.high)))

-- a byte at which no choice can begin is one at which no comment can
none_comments : (g : Row) (m : Matchers) (b : ℕ) → m ≡ matchers_of g → BeginsNone m b → BeginsNoComment m b
none_comments g m b is h =
    let none : begins_choice g b ≡ false = none_begun g b m is h in
    let h1 = or_right (b == 92) _ none in
    let h2 = or_right (begins_opener g.quotes b) _ h1 in
    let h3 = or_right (begins_opener g.verbatim_quotes b) _ h2 in
    let h4 = or_right (begins_opener g.doc_quotes b) _ h3 in
    let h5 = or_right (begins_opener g.multi_line_comments b) _ h4 in
    let slash : (b == 92) ≡ false = or_left (b == 92) _ none in
    let multi : begins_opener g.multi_line_comments b ≡ false = or_left (begins_opener g.multi_line_comments b) _ h4 in
    let nested : begins_opener g.nested_comments b ≡ false = or_left (begins_opener g.nested_comments b) _ h5 in
    let line : list_any (is_first_of b) g.line_comment ≡ false = or_right (begins_opener g.nested_comments b) _ h5 in
    let no_comment : begins_comment g b ≡ false = rw (slash, multi, nested, line) refl in
    record {
      small = h.small;
      outside = ap (λ (n : Matchers). slice_index_or n.begins_comment b false) is ∙ flag_at (begins_comment g) 256 b h.small ∙ no_comment;
    }

-- where no choice can begin at any byte of a front, and the byte behind it is no blank and can begin
-- no comment, the part is code
pub front_part : (g : Row) (s : IsSound g) (m : Matchers) → m ≡ matchers_of g → (docs_are_comments : Bool) (ended : Mode) → g.literate ≡ false → in_doc_string ended ≡ false
    → (t : List ℕ) (i j e : ℕ) → i ≤ e → e < j → j ≤ length t → ((p : ℕ) → i ≤ p → p < e → BeginsNone m (get_or t p 0)) → is_blank (get_or t e 0) ≡ false
    → BeginsNoComment m (get_or t e 0)
    → class_of g docs_are_comments (record { begun = None; bytes = take (j - i) (drop i t); ended = ended }) ≡ Code
front_part g s m is docs_are_comments ended plain no_doc t i j e low high within none solid behind =
    let f : FirstSolid t i e = first_solid t i (e - i) e (omega (arith, low)) (is_blank (get_or t i 0)) refl solid in
    let quiet : (p : ℕ) → i ≤ p → p ≤ e → BeginsNoComment m (get_or t p 0) = λ p l h. elim (cases_lt p e) [
      | inl before ↦ none_comments g m (get_or t p 0) is (none p l before)
      | inr here ↦ subst (λ q. BeginsNoComment m (get_or t q 0)) (omega (arith, h, here)) behind
    ] in
    quiet_part g s m is docs_are_comments ended plain no_doc t i j f.head f.low (omega (arith, f.high, high)) within f.blank f.solid (quiet i (omega arith) low) (quiet f.head f.low f.high)

-- a part with a byte that isn't blank isn't blank
not_all_blank : (u : List ℕ) (k : ℕ) → k < length u → is_blank (get_or u k 0) ≡ false → all_blank u ≡ false
not_all_blank [] k l s = absurd (omega arith)
not_all_blank (a ∷ u) zero l s = ap (λ x. x && all_blank u) s
not_all_blank (a ∷ u) (suc k) l s = by_test (is_blank a) (all_blank u) (not_all_blank u k (omega arith) s)
  where
    by_test : (x y : Bool) → y ≡ false → (x && y) ≡ false
    by_test true y e = e
    by_test false y e = refl

pub solid_part : (t : List ℕ) (i j h : ℕ) → i ≤ h → h < j → j ≤ length t → is_blank (get_or t h 0) ≡ false → all_blank (take (j - i) (drop i t)) ≡ false
solid_part t i j h low high within solid =
    let u : List ℕ = take (j - i) (drop i t) in
    let long : length u ≡ j - i = length-take-le (j - i) (drop i t) (omega (arith, length-drop i t, within)) in
    let there : get_or u (h - i) 0 ≡ get_or t h 0 =
    get_or-take (j - i) (drop i t) (h - i) 0 (omega (arith, low, high)) ∙ get_or-drop i t (h - i) 0 ∙ ap (λ p. get_or t p 0) (omega (arith, low)) in
    not_all_blank u (h - i) (omega (arith, long, low, high)) (ap is_blank there ∙ solid)

-- a part that ends in a string is code, where doc strings are
pub ends_in_string : (g : Row) (t : List ℕ) (ended : Mode)
    → g.literate ≡ false → all_blank t ≡ false → in_string ended ≡ true
    → class_of g false (record { begun = None; bytes = t; ended = ended }) ≡ Code
unfolding class_of
ends_in_string g t ended plain solid e = rw solid (rw plain (rw e (by_doc (in_doc_string ended))))
  where
    by_doc : (a : Bool) → cond (a && false) Comment Code ≡ Code
    by_doc true = refl
    by_doc false = refl

-- a part that began in a comment and doesn't end in a string is a comment
not_doc : (ended : Mode) → in_string ended ≡ false → in_doc_string ended ≡ false
not_doc None h = refl
not_doc (Some e) h = by_kind e.kind h
  where
    by_kind : (k : ItemKind) → not (is_comment k) ≡ false → is_doc_string k ≡ false
    by_kind DocString h = cc
    by_kind VerbatimString h = cc
    by_kind OrdinaryString h = cc
    by_kind MultiLineComment h = refl

pub comment_part : (g : Row) (docs_are_comments : Bool) (t : List ℕ) (begun ended : Mode)
    → in_comment begun ≡ true → in_string ended ≡ false
    → class_of g docs_are_comments (record { begun = begun; bytes = t; ended = ended }) ≡ Comment
unfolding class_of
comment_part g docs_are_comments t None ended b e = cc
comment_part g docs_are_comments t (Some x) ended b e = rw (not_doc ended e) (rw e (rw b (both g.literate)))
  where
    both : (y : Bool) → cond y Comment Comment ≡ Comment
    both true = refl
    both false = refl

-- a part that began in a string is code, where doc strings are
pub string_part : (g : Row) (t : List ℕ) (begun ended : Mode)
    → in_comment begun ≡ false → (begun ≡ None → ⊥) → g.literate ≡ false
    → class_of g false (record { begun = begun; bytes = t; ended = ended }) ≡ Code
unfolding class_of
string_part g t None ended b some plain = absurd (some refl)
string_part g t (Some x) ended b some plain = rw plain (rw b (by_modes (in_doc_string ended) (in_string ended) (is_doc_string x.kind)))
  where
    by_modes : (a b c : Bool) → cond (a && false) Comment (cond b Code (cond (c && false) Comment Code)) ≡ Code
    by_modes true true c = refl
    by_modes true false true = refl
    by_modes true false false = refl
    by_modes false true c = refl
    by_modes false false true = refl
    by_modes false false false = refl
