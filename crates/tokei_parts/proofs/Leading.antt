-- How each choice leads on through a line.
use Rattle.std.proofs.Common.{◌≡◌, ℕ, suc, zero, ◌+◌, ◌-◌, ◌<◌, ◌≤◌, ◌==◌, ◌⊎◌, inl, inr, Bool, true, false, not, ◌&&◌, cond, List, [], ◌∷◌, ◌++◌, length, take, drop, Option, None, Some, refl, sym, ◌∙◌, ap, append_assoc, arith, take-add, length-drop, length-append}
use Rattle.std.proofs.lemmas.List.{append-nil, drop-drop}
use Rattle.std.proofs.lemmas.Bool.Decides.{Decides-eqb}
use Rattle.tokei_parts.proofs.Children.{children-append, children-of_choice, children-closing}
use Rattle.tokei_parts.proofs.Cuts.{cut_choice, cut_closing, cut_newline, running_choice, running_closing, running_newline}
use Rattle.tokei_parts.proofs.Fits.{IsLocal, FitsIn, IsClosed, choice_fits}
use Rattle.tokei_parts.proofs.Ahead.{marks_ahead-byte, marks_ahead-escape, marks_ahead-pass, marks_ahead-rest, marks_ahead-opener, marks_ahead-closer, marks_ahead-end}
use Rattle.tokei_parts.specs.Choice.{Choice, choice}
use Rattle.tokei_parts.specs.Choice.Choice.{closes, escapes, child_opens, opens, passes_over, begins_line_comment, takes_byte}
use Rattle.tokei_parts.specs.Derivation.{second}
use Rattle.tokei_parts.specs.Items.{Block, Enclosure, enclosure, Mode}
use Rattle.tokei_embedding.specs.DocComments.{first_line}
use Rattle.tokei_table_row.specs.Bytes.{line_len}
use Rattle.tokei_parts.specs.Modes.{Mark, Chain, innermost, inside, of_choice, closing}
use Rattle.tokei_parts.specs.Modes.Mark.{byte_at}
use Rattle.tokei_parts.specs.Parts.{cut}
use Rattle.tokei_parts.specs.Tally.{children}
use Rattle.tokei_parts.specs.Progress.{marks_ahead, Leads, OpensInLine, newlines}
use Rattle.tokei_parts.specs.Running.{running}
use Rattle.tokei_parts.specs.declared.items.ItemKind.{ItemKind}
use Rattle.tokei_table.specs.Row.{Row, Pair}
use Rattle.tokei_table.specs.Sound.{no_newline, IsSound}

-- what a slice from n on holds
pub rest_is : (n : ℕ) (t : List ℕ) → take (length t - n) (drop n t) ≡ drop n t
rest_is n t = take_rest (drop n t) (length t - n) (omega (arith, length-drop n t))
  where
    take_rest : (xs : List ℕ) (k : ℕ) → length xs ≤ k → take k xs ≡ xs
    take_rest [] zero h = refl
    take_rest [] (suc k) h = refl
    take_rest (x ∷ xs) zero h = absurd (omega arith)
    take_rest (x ∷ xs) (suc k) h = ap (λ w. x ∷ w) (take_rest xs k (omega arith))

line_len-tail : (x : Bool) (n k r : ℕ) → (n ≤ k → r ≡ k - n) → suc n ≤ cond x 0 (suc k) → r ≡ cond x 0 (suc k) - suc n
line_len-tail true n k r f h = absurd (omega arith)
line_len-tail false n k r f h = let e : r ≡ k - n = f (omega arith) in omega (arith, e)

pub line_len-drop : (n : ℕ) (t : List ℕ) → n ≤ line_len t → line_len (drop n t) ≡ line_len t - n
line_len-drop zero t h = omega arith
line_len-drop (suc n) [] h = absurd (omega arith)
line_len-drop (suc n) (b ∷ t) h = line_len-tail (b == 10) n (line_len t) (line_len (drop n t)) (line_len-drop n t) h

-- a text whose line has no bytes, but isn't empty, begins with a newline
pub at_newline : (u : List ℕ) → line_len u ≡ 0 → 0 < length u → u ≡ 10 ∷ drop 1 u
at_newline [] e h = absurd (omega arith)
at_newline (b ∷ u) e h = by_test (b == 10) refl e
  where
    by_test : (x : Bool) → (b == 10) ≡ x → cond x 0 (suc (line_len u)) ≡ 0 → b ∷ u ≡ 10 ∷ u
    by_test true f e = ap (λ w. w ∷ u) ((Decides-eqb b 10).0 f)
    by_test false f e = absurd (omega (arith, e))

-- how a text's first line ends: with the text, or with a newline
pub record Ends (u : List ℕ) : Type 0 where
  pub line : first_line u ≡ take (line_len u) u
  pub nothing : drop (length (first_line u)) u ≡ []
  pub left : drop (line_len u) u ≡ []

pub record Breaks (u : List ℕ) : Type 0 where
  pub line : first_line u ≡ take (line_len u) u ++ 10 ∷ []
  pub left : drop (line_len u) u ≡ 10 ∷ drop (length (first_line u)) u

line_by : (b : ℕ) (u : List ℕ) (x : Bool) → (b == 10) ≡ x → Ends u ⊎ Breaks u → Ends (b ∷ u) ⊎ Breaks (b ∷ u)
line_by b u true e h =
    let nl : b ≡ 10 = (Decides-eqb b 10).0 e in
    inr (rw nl (record { line = refl; left = refl }))
line_by b u false e (inl h) = inl (record { line = rw e (ap (λ w. b ∷ w) h.line); nothing = rw e h.nothing; left = rw e h.left })
line_by b u false e (inr h) = inr (record { line = rw e (ap (λ w. b ∷ w) h.line); left = rw e h.left })

pub line_split : (u : List ℕ) → Ends u ⊎ Breaks u
line_split [] = inl (record { line = refl; nothing = refl; left = refl })
line_split (b ∷ u) = line_by b u (b == 10) refl (line_split u)

pub line_is_one : (u : List ℕ) → no_newline (take (line_len u) u) ≡ true
line_is_one [] = refl
line_is_one (b ∷ u) = by_test (b == 10) refl (line_is_one u)
  where
    by_test : (x : Bool) → (b == 10) ≡ x → no_newline (take (line_len u) u) ≡ true → no_newline (take (line_len (b ∷ u)) (b ∷ u)) ≡ true
    by_test true e h = rw e refl
    by_test false e h = rw (e, e) h

-- a line without its newline has so many bytes
length-line : (u : List ℕ) → length (take (line_len u) u) ≡ line_len u
length-line [] = refl
length-line (b ∷ u) = by_test (b == 10) (length-line u)
  where
    by_test : (x : Bool) → length (take (line_len u) u) ≡ line_len u → length (take (cond x 0 (suc (line_len u))) (b ∷ u)) ≡ cond x 0 (suc (line_len u))
    by_test true h = refl
    by_test false h = ap suc h

inside-append : (c : Chain) (p q : List ℕ) → inside c (p ++ q) ≡ inside c p ++ inside c q
inside-append c [] q = refl
inside-append c (b ∷ p) q = ap (λ w. byte_at b false c ∷ w) (inside-append c p q)

-- what follows the bytes of a choice is inside it
of_choice-append : (c : Chain) (p q : List ℕ) → 0 < length p → of_choice c (p ++ q) ≡ of_choice c p ++ inside c q
of_choice-append c [] q h = absurd (omega arith)
of_choice-append c (b ∷ p) q h = ap (λ w. byte_at b true c ∷ w) (inside-append c p q)

length-take_some : (n b : ℕ) (t : List ℕ) → 0 < n → 0 < length (take n (b ∷ t))
length-take_some zero b t h = absurd (omega arith)
length-take_some (suc n) b t h = omega arith

ends_part : (m e : Mode) (b : ℕ) (t : List ℕ) (n : ℕ) (x : Bool)
    → drop (cond x 0 (suc n)) (b ∷ t) ≡ []
    → cut m (take (cond x 0 (suc n)) (b ∷ t)) e []
    ≡ record { begun = m; bytes = take (cond x 0 (suc n)) (b ∷ t); ended = e } ∷ cut e [] e []
unfolding cut
ends_part m e b t n true h = cc
ends_part m e b t n false h = refl

ends_stretch : (m e : Mode) (j b : ℕ) (t : List ℕ) (n : ℕ) (x : Bool) → drop (cond x 0 (suc n)) (b ∷ t) ≡ []
    → running m (take (cond x 0 (suc n)) (b ∷ t)) j [] []
    ≡ record {
      begun = m;
      reach = take (cond x 0 (suc n)) (b ∷ t);
      size = length (take (cond x 0 (suc n)) (b ∷ t));
      choices = j;
    }
    ∷ running e [] 0 [] []
unfolding running
ends_stretch m e j b t n true h = cc
ends_stretch m e j b t n false h = refl

-- at a newline nothing but the byte fits
pub newline_byte : (g : Row) (o : Option Block) (m : Mode) (u : List ℕ) → IsSound g → IsClosed m → o ≡ None → choice g m o (10 ∷ u) ≡ takes_byte
newline_byte g o m u s t e = by_choice (choice g m o (10 ∷ u)) (choice_fits g o m (10 ∷ u) s t)
  where
    by_choice : (x : Choice) → FitsIn o m (10 ∷ u) x → x ≡ takes_byte
    by_choice closes h = absurd (omega (arith, h.some, h.fits))
    by_choice escapes h = absurd (omega arith)
    by_choice (child_opens k) h = cc
    by_choice (opens k p) h = absurd (omega (arith, h.0.some, h.0.fits))
    by_choice (passes_over p) h = absurd (omega (arith, h.some, h.fits))
    by_choice begins_line_comment h = absurd (omega arith)
    by_choice takes_byte h = refl

module _ (g : Row) (block : ℕ → List ℕ → Option Block) (l : ℕ) where
  abbrev Goes : Chain → ℕ → ℕ → Chain → List ℕ → Type 0
  Goes = Leads g block l

  pub lead_none : (c : Chain) (t : List ℕ) → Goes c 0 0 c t
  lead_none c t = record {
    within = omega arith;
    same = λ m s. ap (λ w. cut m w (innermost c) (marks_ahead g block l c t)) (sym (append-nil s));
    kids = refl;
    choices =
        λ m s k. let none : k ≡ k + 0 = omega arith
        in ap (λ w. running m w k t (marks_ahead g block l c t)) (sym (append-nil s))
        ∙ ap (λ w. running m (s ++ []) w t (marks_ahead g block l c t)) none;
  }

  pub lead_on : (c d e : Chain) (n k x y : ℕ) (t : List ℕ) → Goes c n x d t → Goes d k y e (drop n t) → Goes c (n + k) (x + y) e t
  lead_on c d e n k x y t h j =
      let left : line_len (drop n t) ≡ line_len t - n = line_len-drop n t h.within in
      record {
        within = omega (arith, h.within, j.within, left);
        same = λ m s.
            h.same m s ∙ j.same m (s ++ take n t)
            ∙ ap (λ w. cut m w (innermost e) (marks_ahead g block l e (drop k (drop n t)))) (append_assoc s (take n t) (take k (drop n t)) ∙ ap (λ w. s ++ w) (sym (take-add n k t)))
            ∙ ap (λ w. cut m (s ++ take (n + k) t) (innermost e) (marks_ahead g block l e w)) (drop-drop k n t);
        kids = h.kids ∙ j.kids ∙ ap (λ w. children (marks_ahead g block l e w)) (drop-drop k n t);
        choices = λ m s a.
            let sum : a + x + y ≡ a + (x + y) = omega arith in
            h.choices m s a ∙ j.choices m (s ++ take n t) (a + x)
            ∙ ap
            (λ w. running m w (a + x + y) (drop k (drop n t))
            (marks_ahead g block l e (drop k (drop n t))))
            (append_assoc s (take n t) (take k (drop n t))
            ∙ ap (λ w. s ++ w) (sym (take-add n k t)))
            ∙ ap (λ w. running m (s ++ take (n + k) t) (a + x + y) w (marks_ahead g block l e w)) (drop-drop k n t)
            ∙ ap (λ w. running m (s ++ take (n + k) t) w (drop (n + k) t) (marks_ahead g block l e (drop (n + k) t))) sum;
      }

  module _ (c : Chain) (b : ℕ) (t : List ℕ) where
    abbrev Here : Choice → Type 0
    Here x = choice g (innermost c) (block l (b ∷ t)) (b ∷ t) ≡ x

    -- what the choice takes, given what stands behind it
    lead_local : (d : Chain) (p : List ℕ) (ms : List Mark) → IsLocal p (b ∷ t) → children ms ≡ []
        → ((m : Mode) (s : List ℕ) (w : List Mark) → cut m s (innermost c) (ms ++ w) ≡ cut m (s ++ p) (innermost d) w)
        → ((m : Mode) (s : List ℕ) (a : ℕ) (w : List Mark) → running m s a (b ∷ t) (ms ++ w) ≡ running m (s ++ p) (a + 1) (drop (length p) (b ∷ t)) w)
        → marks_ahead g block l c (b ∷ t) ≡ ms ++ marks_ahead g block l d (drop (length p) (b ∷ t))
        → Goes c (length p) 1 d (b ∷ t)
    lead_local d p ms h k f j e = record {
      within = h.fits;
      same = λ m s.
          ap (cut m s (innermost c)) e ∙ f m s (marks_ahead g block l d (drop (length p) (b ∷ t)))
          ∙ ap (λ w. cut m (s ++ w) (innermost d) (marks_ahead g block l d (drop (length p) (b ∷ t)))) h.reads;
      kids = ap children e ∙ children-append ms (marks_ahead g block l d (drop (length p) (b ∷ t))) k;
      choices = λ m s a.
          ap (running m s a (b ∷ t)) e ∙ j m s a (marks_ahead g block l d (drop (length p) (b ∷ t)))
          ∙ ap (λ w. running m (s ++ w) (a + 1) (drop (length p) (b ∷ t)) (marks_ahead g block l d (drop (length p) (b ∷ t)))) h.reads;
    }

    pub lead_opener : (k : ItemKind) (p : Pair) → IsLocal p.opener (b ∷ t) → Here (opens k p) → Goes c (length p.opener) 1 (enclosure k p ∷ c) (b ∷ t)
    lead_opener k p h e = lead_local (enclosure k p ∷ c) p.opener (of_choice (enclosure k p ∷ c) p.opener) h (children-of_choice (enclosure k p ∷ c) p.opener)
        (λ m s w. cut_choice m s (innermost c) (enclosure k p ∷ c) p.opener w h.some h.one_line)
        (λ m s a w. running_choice m s a (b ∷ t) (enclosure k p ∷ c) p.opener w h.some h.one_line)
        (marks_ahead-opener g block l c b t k p h.some e)

    pub lead_pass : (p : Pair) → IsLocal p.opener (b ∷ t) → Here (passes_over p) → Goes c (length p.opener) 1 c (b ∷ t)
    lead_pass p h e = lead_local c p.opener (of_choice c p.opener) h (children-of_choice c p.opener)
        (λ m s w. cut_choice m s (innermost c) c p.opener w h.some h.one_line)
        (λ m s a w. running_choice m s a (b ∷ t) c p.opener w h.some h.one_line)
        (marks_ahead-pass g block l c b t p h.some e)

    pub lead_byte : 0 < line_len (b ∷ t) → Here takes_byte → Goes c 1 1 c (b ∷ t)
    lead_byte h e = record {
      within = h;
      same = λ m s. ap (cut m s (innermost c)) (marks_ahead-byte g block l c b t e) ∙ cut_choice m s (innermost c) c (b ∷ []) (marks_ahead g block l c t) (omega arith) (one_line (b == 10) h);
      kids = ap children (marks_ahead-byte g block l c b t e);
      choices = λ m s a. ap (running m s a (b ∷ t)) (marks_ahead-byte g block l c b t e) ∙ running_choice m s a (b ∷ t) c (b ∷ []) (marks_ahead g block l c t) (omega arith) (one_line (b == 10) h);
    }
      where
        one_line : (x : Bool) → 0 < cond x 0 (suc (line_len t)) → (not x && true) ≡ true
        one_line true h = absurd (omega arith)
        one_line false h = refl

    pub lead_escape : 2 ≤ line_len (b ∷ t) → Here escapes → Goes c 2 1 c (b ∷ t)
    lead_escape h e = two_bytes t h (marks_ahead-escape g block l c b t e)
      where
        two_lines : (x y : Bool) (k : ℕ) → 2 ≤ cond x 0 (suc (cond y 0 (suc k))) → (not x && (not y && true)) ≡ true
        two_lines true y k h = absurd (omega arith)
        two_lines false true k h = absurd (omega arith)
        two_lines false false k h = refl

        short : (x : Bool) → 2 ≤ cond x 0 1 → ⊥
        short true h = omega arith
        short false h = omega arith

        two_bytes : (u : List ℕ) → 2 ≤ line_len (b ∷ u) → marks_ahead g block l c (b ∷ u) ≡ byte_at b true c ∷ byte_at (second u) false c ∷ marks_ahead g block l c (drop 1 u) → Goes c 2 1 c (b ∷ u)
        two_bytes [] h e = absurd (short (b == 10) h)
        two_bytes (b' ∷ u) h e = record {
          within = h;
          same = λ m s. ap (cut m s (innermost c)) e ∙ cut_choice m s (innermost c) c (b ∷ b' ∷ []) (marks_ahead g block l c u) (omega arith) (two_lines (b == 10) (b' == 10) (line_len u) h);
          kids = ap children e;
          choices =
              λ m s a. ap (running m s a (b ∷ b' ∷ u)) e
              ∙ running_choice m s a (b ∷ b' ∷ u) c (b ∷ b' ∷ []) (marks_ahead g block l c u)
              (omega arith) (two_lines (b == 10) (b' == 10) (line_len u) h);
        }

  pub lead_closer : (h : Enclosure) (c : Chain) (b : ℕ) (t : List ℕ) → IsLocal h.closer (b ∷ t) → Here (h ∷ c) b t closes → Goes (h ∷ c) (length h.closer) 1 c (b ∷ t)
  lead_closer h c b t j e = lead_local (h ∷ c) b t c h.closer (closing (h ∷ c) c h.closer) j (children-closing (h ∷ c) c h.closer)
      (λ m s w. cut_closing m s (Some h) (h ∷ c) c h.closer w j.some j.one_line)
      (λ m s a w. running_closing m s a (b ∷ t) (h ∷ c) c h.closer w j.some j.one_line)
      (marks_ahead-closer g block l h c b t e)

  pub marks_ahead-newline : (c : Chain) (u : List ℕ) → IsSound g → OpensInLine block → IsClosed (innermost c) → marks_ahead g block l c (10 ∷ u) ≡ byte_at 10 true c ∷ marks_ahead g block l c u
  marks_ahead-newline c u s o t = marks_ahead-byte g block l c 10 u (newline_byte g (block l (10 ∷ u)) (innermost c) u s t (o.none l u))

  -- a line comment leads to the line's end, and takes a newline there with it
  pub lead_rest : (c : Chain) (b : ℕ) (t : List ℕ) → IsSound g → OpensInLine block
      → IsClosed (innermost c) → 0 < line_len (b ∷ t) → Here c b t begins_line_comment
      → Goes c (line_len (b ∷ t)) (1 - newlines (b ∷ t)) c (b ∷ t)
  lead_rest c b t s o k h e = record {
    within = omega arith;
    same = λ m w. by_end m w (line_split (b ∷ t));
    kids = kids_by (line_split (b ∷ t));
    choices = λ m w a. choices_by m w a (line_split (b ∷ t));
  }
    where
      some_line : (x : Bool) (y : List ℕ) → 0 < length (cond x (b ∷ []) (b ∷ y))
      some_line true y = omega arith
      some_line false y = omega arith

      all : marks_ahead g block l c (b ∷ t) ≡ of_choice c (first_line (b ∷ t)) ++ marks_ahead g block l c (drop (length (first_line (b ∷ t))) (b ∷ t))
      all = marks_ahead-rest g block l c b t (some_line (b == 10) (first_line t)) e

      some_taken : 0 < length (take (line_len (b ∷ t)) (b ∷ t))
      some_taken = length-take_some (line_len (b ∷ t)) b t h

      kids_behind : children (marks_ahead g block l c (b ∷ t)) ≡ children (marks_ahead g block l c (drop (length (first_line (b ∷ t))) (b ∷ t)))
      kids_behind =
          ap children all
          ∙ children-append (of_choice c (first_line (b ∷ t)))
          (marks_ahead g block l c (drop (length (first_line (b ∷ t))) (b ∷ t)))
          (children-of_choice c (first_line (b ∷ t)))

      by_end : (m : Mode) (w : List ℕ) → Ends (b ∷ t) ⊎ Breaks (b ∷ t)
          → cut m w (innermost c) (marks_ahead g block l c (b ∷ t))
          ≡ cut m (w ++ take (line_len (b ∷ t)) (b ∷ t)) (innermost c)
          (marks_ahead g block l c (drop (line_len (b ∷ t)) (b ∷ t)))
      by_end m w (inl f) =
          ap (cut m w (innermost c)) (all ∙ ap (λ x. of_choice c x ++ marks_ahead g block l c (drop (length (first_line (b ∷ t))) (b ∷ t))) f.line)
          ∙ cut_choice m w (innermost c) c (take (line_len (b ∷ t)) (b ∷ t)) (marks_ahead g block l c (drop (length (first_line (b ∷ t))) (b ∷ t))) some_taken (line_is_one (b ∷ t))
          ∙ ap (λ x. cut m (w ++ take (line_len (b ∷ t)) (b ∷ t)) (innermost c) (marks_ahead g block l c x)) (f.nothing ∙ sym f.left)
      by_end m w (inr f) =
          let n : ℕ = line_len (b ∷ t) in
          let r : List ℕ = drop (length (first_line (b ∷ t))) (b ∷ t) in
          ap (cut m w (innermost c)) (all ∙ ap (λ x. of_choice c x ++ marks_ahead g block l c r) f.line
          ∙ ap (λ x. x ++ marks_ahead g block l c r) (of_choice-append c (take n (b ∷ t)) (10 ∷ []) some_taken)
          ∙ append_assoc (of_choice c (take n (b ∷ t))) (byte_at 10 false c ∷ []) (marks_ahead g block l c r))
          ∙ cut_choice m w (innermost c) c (take n (b ∷ t)) (byte_at 10 false c ∷ marks_ahead g block l c r) some_taken (line_is_one (b ∷ t))
          ∙ cut_newline m (w ++ take n (b ∷ t)) (innermost c) false c (marks_ahead g block l c r)
          ∙ sym (cut_newline m (w ++ take n (b ∷ t)) (innermost c) true c (marks_ahead g block l c r))
          ∙ ap (cut m (w ++ take n (b ∷ t)) (innermost c)) (sym (marks_ahead-newline c r s o k) ∙ ap (marks_ahead g block l c) (sym f.left))

      choices_by : (m : Mode) (w : List ℕ) (a : ℕ) → Ends (b ∷ t) ⊎ Breaks (b ∷ t)
          → running m w a (b ∷ t) (marks_ahead g block l c (b ∷ t))
          ≡ running m (w ++ take (line_len (b ∷ t)) (b ∷ t)) (a + (1 - newlines (b ∷ t)))
          (drop (line_len (b ∷ t)) (b ∷ t))
          (marks_ahead g block l c (drop (line_len (b ∷ t)) (b ∷ t)))
      choices_by m w a (inl f) =
          let n : ℕ = line_len (b ∷ t) in
          let p : List ℕ = take n (b ∷ t) in
          let r : List ℕ = drop (length (first_line (b ∷ t))) (b ∷ t) in
          let len : length p ≡ n = length-line (b ∷ t) in
          let whole : length (first_line (b ∷ t)) ≡ length p = ap length f.line in
          let one : a + 1 ≡ a + (1 - newlines (b ∷ t)) = omega (arith, len, whole) in
          ap (running m w a (b ∷ t)) (all ∙ ap (λ x. of_choice c x ++ marks_ahead g block l c r) f.line)
          ∙ running_choice m w a (b ∷ t) c p (marks_ahead g block l c r) some_taken (line_is_one (b ∷ t))
          ∙ ap (λ x. running m (w ++ p) (a + 1) (drop x (b ∷ t)) (marks_ahead g block l c r)) len
          ∙ ap (λ x. running m (w ++ p) (a + 1) (drop n (b ∷ t)) (marks_ahead g block l c x)) (f.nothing ∙ sym f.left)
          ∙ ap (λ x. running m (w ++ p) x (drop n (b ∷ t)) (marks_ahead g block l c (drop n (b ∷ t)))) one
      choices_by m w a (inr f) =
          let n : ℕ = line_len (b ∷ t) in
          let p : List ℕ = take n (b ∷ t) in
          let r : List ℕ = drop (length (first_line (b ∷ t))) (b ∷ t) in
          let u : List ℕ = drop n (b ∷ t) in
          let len : length p ≡ n = length-line (b ∷ t) in
          let whole : length (first_line (b ∷ t)) ≡ length p + 1 = ap length f.line ∙ length-append p (10 ∷ []) in
          let one : a + 1 + 0 ≡ a + (1 - newlines (b ∷ t)) + 1 = omega (arith, len, whole) in
          ap (running m w a (b ∷ t)) (all ∙ ap (λ x. of_choice c x ++ marks_ahead g block l c r) f.line
          ∙ ap (λ x. x ++ marks_ahead g block l c r) (of_choice-append c p (10 ∷ []) some_taken)
          ∙ append_assoc (of_choice c p) (byte_at 10 false c ∷ []) (marks_ahead g block l c r))
          ∙ running_choice m w a (b ∷ t) c p (byte_at 10 false c ∷ marks_ahead g block l c r) some_taken (line_is_one (b ∷ t))
          ∙ ap (λ x. running m (w ++ p) (a + 1) (drop x (b ∷ t)) (byte_at 10 false c ∷ marks_ahead g block l c r)) len
          ∙ running_newline m (w ++ p) (a + 1) u false c (marks_ahead g block l c r)
          ∙ ap (λ x. record { begun = m; reach = (w ++ p) ++ 10 ∷ []; size = length ((w ++ p) ++ 10 ∷ []); choices = x } ∷ running (innermost c) [] 0 (drop 1 u) (marks_ahead g block l c r)) one
          ∙ sym (running_newline m (w ++ p) (a + (1 - newlines (b ∷ t))) u true c (marks_ahead g block l c r))
          ∙ ap (running m (w ++ p) (a + (1 - newlines (b ∷ t))) u) (sym (marks_ahead-newline c r s o k) ∙ ap (marks_ahead g block l c) (sym f.left))

      kids_by : Ends (b ∷ t) ⊎ Breaks (b ∷ t) → children (marks_ahead g block l c (b ∷ t)) ≡ children (marks_ahead g block l c (drop (line_len (b ∷ t)) (b ∷ t)))
      kids_by (inl f) = kids_behind ∙ ap (λ x. children (marks_ahead g block l c x)) (f.nothing ∙ sym f.left)
      kids_by (inr f) =
          let r : List ℕ = drop (length (first_line (b ∷ t))) (b ∷ t) in
          kids_behind ∙ sym (ap children (marks_ahead-newline c r s o k)) ∙ ap (λ x. children (marks_ahead g block l c x)) (sym f.left)

  -- a line that is read through is a part
  pub line_done : (c d : Chain) (b : ℕ) (t : List ℕ) → IsSound g → OpensInLine block → IsClosed (innermost d) → {j : ℕ} → Goes c (line_len (b ∷ t)) j d (b ∷ t)
      → cut (innermost c) [] (innermost c) (marks_ahead g block l c (b ∷ t))
      ≡ record { begun = innermost c; bytes = first_line (b ∷ t); ended = innermost d }
      ∷ cut (innermost d) [] (innermost d)
      (marks_ahead g block l d (drop (length (first_line (b ∷ t))) (b ∷ t)))
  line_done c d b t s o k h = h.same (innermost c) [] ∙ by_end (line_split (b ∷ t))
    where
      by_end : Ends (b ∷ t) ⊎ Breaks (b ∷ t)
          → cut (innermost c) (take (line_len (b ∷ t)) (b ∷ t)) (innermost d)
          (marks_ahead g block l d (drop (line_len (b ∷ t)) (b ∷ t)))
          ≡ record { begun = innermost c; bytes = first_line (b ∷ t); ended = innermost d }
          ∷ cut (innermost d) [] (innermost d)
          (marks_ahead g block l d (drop (length (first_line (b ∷ t))) (b ∷ t)))
      by_end (inl f) =
          rw (f.left, f.nothing, f.line, marks_ahead-end g block l d) (ends_part (innermost c) (innermost d) b t (line_len t) (b == 10) f.left)
      by_end (inr f) =
          let n : ℕ = line_len (b ∷ t) in
          let r : List ℕ = drop (length (first_line (b ∷ t))) (b ∷ t) in
          ap (λ x. cut (innermost c) (take n (b ∷ t)) (innermost d) (marks_ahead g block l d x)) f.left
          ∙ ap (cut (innermost c) (take n (b ∷ t)) (innermost d)) (marks_ahead-newline d r s o k)
          ∙ cut_newline (innermost c) (take n (b ∷ t)) (innermost d) true d (marks_ahead g block l d r)
          ∙ ap (λ x. record { begun = innermost c; bytes = x; ended = innermost d } ∷ cut (innermost d) [] (innermost d) (marks_ahead g block l d r)) (sym f.line)

  -- and its children are those behind it
  pub line_kids : (c d : Chain) (b : ℕ) (t : List ℕ) → IsSound g → OpensInLine block → IsClosed (innermost d) → {j : ℕ} → Goes c (line_len (b ∷ t)) j d (b ∷ t)
      → children (marks_ahead g block l c (b ∷ t)) ≡ children (marks_ahead g block l d (drop (length (first_line (b ∷ t))) (b ∷ t)))
  line_kids c d b t s o k h = h.kids ∙ by_end (line_split (b ∷ t))
    where
      by_end : Ends (b ∷ t) ⊎ Breaks (b ∷ t) → children (marks_ahead g block l d (drop (line_len (b ∷ t)) (b ∷ t))) ≡ children (marks_ahead g block l d (drop (length (first_line (b ∷ t))) (b ∷ t)))
      by_end (inl f) = ap (λ x. children (marks_ahead g block l d x)) (f.left ∙ sym f.nothing)
      by_end (inr f) =
          let r : List ℕ = drop (length (first_line (b ∷ t))) (b ∷ t) in
          ap (λ x. children (marks_ahead g block l d x)) f.left ∙ ap children (marks_ahead-newline d r s o k)

  -- and its choices are those through its end, and the one of its newline
  pub line_choices : (c d : Chain) (b : ℕ) (t : List ℕ) → IsSound g → OpensInLine block → IsClosed (innermost d) → (j : ℕ) → Goes c (line_len (b ∷ t)) j d (b ∷ t)
      → running (innermost c) [] 0 (b ∷ t) (marks_ahead g block l c (b ∷ t))
      ≡ record {
        begun = innermost c;
        reach = first_line (b ∷ t);
        size = length (first_line (b ∷ t));
        choices = j + newlines (b ∷ t);
      }
      ∷ running (innermost d) [] 0 (drop (length (first_line (b ∷ t))) (b ∷ t))
      (marks_ahead g block l d (drop (length (first_line (b ∷ t))) (b ∷ t)))
  line_choices c d b t s o k j h = h.choices (innermost c) [] 0 ∙ by_end (line_split (b ∷ t))
    where
      by_end : Ends (b ∷ t) ⊎ Breaks (b ∷ t)
          → running (innermost c) (take (line_len (b ∷ t)) (b ∷ t)) (0 + j) (drop (line_len (b ∷ t)) (b ∷ t)) (marks_ahead g block l d (drop (line_len (b ∷ t)) (b ∷ t)))
          ≡ record {
            begun = innermost c;
            reach = first_line (b ∷ t);
            size = length (first_line (b ∷ t));
            choices = j + newlines (b ∷ t);
          }
          ∷ running (innermost d) [] 0 (drop (length (first_line (b ∷ t))) (b ∷ t))
          (marks_ahead g block l d (drop (length (first_line (b ∷ t))) (b ∷ t)))
      by_end (inl f) =
          let len : length (take (line_len (b ∷ t)) (b ∷ t)) ≡ line_len (b ∷ t) = length-line (b ∷ t) in
          let whole : length (first_line (b ∷ t)) ≡ length (take (line_len (b ∷ t)) (b ∷ t)) = ap length f.line in
          let none : 0 + j ≡ j + newlines (b ∷ t) = omega (arith, len, whole) in
          ap (λ x. running (innermost c) (take (line_len (b ∷ t)) (b ∷ t)) x (drop (line_len (b ∷ t)) (b ∷ t)) (marks_ahead g block l d (drop (line_len (b ∷ t)) (b ∷ t)))) none
          ∙ ap (λ x. running (innermost c) (take (line_len (b ∷ t)) (b ∷ t)) (j + newlines (b ∷ t)) x (marks_ahead g block l d x)) f.left
          ∙ ap (running (innermost c) (take (line_len (b ∷ t)) (b ∷ t)) (j + newlines (b ∷ t)) []) (marks_ahead-end g block l d)
          ∙ ends_stretch (innermost c) (innermost d) (j + newlines (b ∷ t)) b t (line_len t) (b == 10) f.left
          ∙ ap (λ x. record { begun = innermost c; reach = x; size = length x; choices = j + newlines (b ∷ t) } ∷ running (innermost d) [] 0 [] []) (sym f.line)
          ∙ ap
          (λ x. record {
            begun = innermost c;
            reach = first_line (b ∷ t);
            size = length (first_line (b ∷ t));
            choices = j + newlines (b ∷ t);
          }
          ∷ running (innermost d) [] 0 [] x)
          (sym (marks_ahead-end g block l d))
          ∙ ap
          (λ x. record {
            begun = innermost c;
            reach = first_line (b ∷ t);
            size = length (first_line (b ∷ t));
            choices = j + newlines (b ∷ t);
          }
          ∷ running (innermost d) [] 0 x (marks_ahead g block l d x))
          (sym f.nothing)
      by_end (inr f) =
          let n : ℕ = line_len (b ∷ t) in
          let p : List ℕ = take n (b ∷ t) in
          let r : List ℕ = drop (length (first_line (b ∷ t))) (b ∷ t) in
          let u : List ℕ = drop n (b ∷ t) in
          let len : length p ≡ n = length-line (b ∷ t) in
          let whole : length (first_line (b ∷ t)) ≡ length p + 1 = ap length f.line ∙ length-append p (10 ∷ []) in
          let one : 0 + j + 1 ≡ j + newlines (b ∷ t) = omega (arith, len, whole) in
          let left : drop 1 u ≡ r = ap (drop 1) f.left in
          ap (running (innermost c) p (0 + j) u) (ap (marks_ahead g block l d) f.left ∙ marks_ahead-newline d r s o k)
          ∙ running_newline (innermost c) p (0 + j) u true d (marks_ahead g block l d r)
          ∙ ap (λ x. record { begun = innermost c; reach = p ++ 10 ∷ []; size = length (p ++ 10 ∷ []); choices = x } ∷ running (innermost d) [] 0 (drop 1 u) (marks_ahead g block l d r)) one
          ∙ ap (λ x. record { begun = innermost c; reach = x; size = length x; choices = j + newlines (b ∷ t) } ∷ running (innermost d) [] 0 (drop 1 u) (marks_ahead g block l d r)) (sym f.line)
          ∙ ap
          (λ x. record {
            begun = innermost c;
            reach = first_line (b ∷ t);
            size = length (first_line (b ∷ t));
            choices = j + newlines (b ∷ t);
          }
          ∷ running (innermost d) [] 0 x (marks_ahead g block l d r))
          left
