-- Induction over what is left of a text, one choice at a time.
use Rattle.std.proofs.Common.{◌≡◌, ℕ, suc, zero, ◌+◌, ◌-◌, ◌<◌, ◌≤◌, ◌==◌, ◌⊎◌, inl, inr, Bool, true, false, List, [], ◌∷◌, length, drop, Option, None, Some, refl, sym, ◌∙◌, ap, subst, arith, length-drop}
use Rattle.std.proofs.lemmas.Bool.Decides.{Decides-eqb}
use Rattle.tokei_table.proofs.RowSound.{sound_row}
use Rattle.tokei_table.specs.Openers.{openers}
use Rattle.tokei_table.specs.Row.{Pair, Row}
use Rattle.tokei_table.specs.Sound.{IsSound}
use Rattle.tokei_table.specs.Tokens.{has_tokens}
use Rattle.tokei_parts.specs.Choice.{Choice}
use Rattle.tokei_parts.specs.Choice.Choice.{closes, escapes, child_opens, opens, passes_over, begins_line_comment, takes_byte}
use Rattle.tokei_parts.specs.Glance.{holds}
use Rattle.tokei_parts.specs.Items.{Block, Enclosure, enclosure}
use Rattle.tokei_embedding.specs.DocComments.{first_line}
use Rattle.tokei_table_row.specs.Bytes.{line_len}
use Rattle.tokei_parts.specs.Modes.{Chain, innermost}
use Rattle.tokei_parts.specs.Modes.Mark.{byte_at, child_at}
use Rattle.tokei_parts.specs.Progress.{marks_ahead, Goes, IsClosable, FitsBlocks, newlines}
use Rattle.tokei_parts.proofs.Ahead.{marks_ahead-child}
use Rattle.tokei_count.proofs.CalmChoices.{line-begins, none_opens, none_passed}
use Rattle.tokei_parts.proofs.Childless.{within_no_child}
use Rattle.tokei_parts.proofs.Fits.{FitsIn, choice_fits}
use Rattle.tokei_parts.proofs.Leading.{Ends, Breaks, line_split, newline_byte, marks_ahead-newline}
use Rattle.tokei_parts.proofs.Lines.{first_some}
use Rattle.tokei_count.proofs.OpeningsAhead.{openings_ahead, openings_ahead-byte, openings_ahead-escape, openings_ahead-pass, openings_ahead-rest, openings_ahead-opener, openings_ahead-closer, openings_ahead-child}
use Rattle.tokei_parts.proofs.Stepping.{chosen, top_closed, goes_byte, goes_escape, goes_pass, goes_opener, goes_rest, goes_closer, no_closer}

module _ (g : Row) (block : ℕ → List ℕ → Option Block) where
  -- One choice leads on from c to d through n bytes; j choices and x openings begin there. In plain text whose line holds
  -- no opener it opens nothing.
  pub record Takes (l : ℕ) (c : Chain) (n j x : ℕ) (d : Chain) (t : List ℕ) : Type 0 where
    pub goes : Goes g block l c n j d t
    pub openings : openings_ahead g block l c t ≡ x + openings_ahead g block l d (drop n t)
    pub few : x ≤ j
    pub one : j ≤ 1
    pub calm : c ≡ [] → holds (openers g) (first_line t) ≡ false → (d ≡ []) × (x ≡ 0)

  -- a newline is a byte
  pub record IsNewline (l : ℕ) (c : Chain) (u : List ℕ) : Type 0 where
    pub marks : marks_ahead g block l c (10 ∷ u) ≡ byte_at 10 true c ∷ marks_ahead g block l c u
    pub openings : openings_ahead g block l c (10 ∷ u) ≡ 0 + openings_ahead g block l c u

  -- the child k opens in plain text, behind which l' bytes are left
  pub record IsChild (l l' : ℕ) (k : Block) (t : List ℕ) : Type 0 where
    pub opens : block l t ≡ Some k
    pub inside : 0 < line_len t
    pub marks : marks_ahead g block l [] t ≡ child_at k ∷ marks_ahead g block l' [] (drop k.size t)
    pub openings : openings_ahead g block l [] t ≡ 0 + openings_ahead g block l' [] (drop k.size t)

  -- what holds at the text's end, and before each choice where it holds behind it
  pub record IsCarried (M : ℕ → Chain → List ℕ → Type 0) : Type 0 where
    pub at_end : (l : ℕ) (c : Chain) → M l c []
    pub by_newline : (l : ℕ) (c : Chain) (u : List ℕ) → IsNewline l c u → M l c u → M l c (10 ∷ u)
    pub by_bytes : (l : ℕ) (c : Chain) (n j x : ℕ) (d : Chain) (t : List ℕ) → Takes l c n j x d t → M l d (drop n t) → M l c t
    pub by_child : (l l' : ℕ) (k : Block) (t : List ℕ) → IsChild l l' k t → M l' [] (drop k.size t) → M l [] t

  module _ (tokens : has_tokens g ≡ true) (fits : FitsBlocks block)
      (quiet : (l : ℕ) (u : List ℕ) → holds (openers g) (first_line u) ≡ false → (n : ℕ) → n < line_len u → block l (drop n u) ≡ None)
    where
      sound : IsSound g
      sound = sound_row g tokens

      newline_is : (l : ℕ) (c : Chain) (u : List ℕ) → IsClosable c → IsNewline l c u
      newline_is l c u k = record {
        marks = marks_ahead-newline g block l c u sound fits.in_line (top_closed c k);
        openings = openings_ahead-byte g block l c 10 u (newline_byte g (block l (10 ∷ u)) (innermost c) u sound (top_closed c k) (fits.in_line.none l u));
      }

      -- the choice at the front of u
      abbrev Here : ℕ → Chain → List ℕ → Choice → Type 0
      Here l c u x = chosen g block l sound fits.in_line c u ≡ x

      module _ (l : ℕ) (c : Chain) (b : ℕ) (t : List ℕ) (k : IsClosable c) (some : 0 < line_len (b ∷ t)) where
        takes_one : Here l c (b ∷ t) takes_byte → Takes l c 1 1 0 c (b ∷ t)
        takes_one e = record {
          goes = goes_byte g block l sound fits.in_line c (b ∷ t) k some e;
          openings = openings_ahead-byte g block l c b t e;
          few = omega arith;
          one = omega arith;
          calm = λ p q. (p, refl);
        }

        takes_escape : Here l c (b ∷ t) escapes → Takes l c 2 1 0 c (b ∷ t)
        takes_escape e = record {
          goes = goes_escape g block l sound fits.in_line c (b ∷ t) k some e;
          openings = openings_ahead-escape g block l c b t e;
          few = omega arith;
          one = omega arith;
          calm = λ p q. (p, refl);
        }

        takes_rest : Here l c (b ∷ t) begins_line_comment → Takes l c (line_len (b ∷ t)) (1 - newlines (b ∷ t)) 0 c (b ∷ t)
        takes_rest e = record {
          goes = goes_rest g block l sound fits.in_line c (b ∷ t) k some e;
          openings = openings_ahead-rest g block l c b t (first_some b t) e ∙ ap (λ n. 0 + n) (by_end (line_split (b ∷ t)));
          few = omega arith;
          one = omega arith;
          calm = λ p q. (p, refl);
        }
          where
            by_end : Ends (b ∷ t) ⊎ Breaks (b ∷ t) → openings_ahead g block l c (drop (length (first_line (b ∷ t))) (b ∷ t)) ≡ openings_ahead g block l c (drop (line_len (b ∷ t)) (b ∷ t))
            by_end (inl f) = ap (openings_ahead g block l c) (f.nothing ∙ sym f.left)
            by_end (inr f) =
                let r : List ℕ = drop (length (first_line (b ∷ t))) (b ∷ t) in
                let bare : openings_ahead g block l c r ≡ 0 + openings_ahead g block l c r = omega arith in
                bare ∙ sym (newline_is l c r k).openings ∙ ap (openings_ahead g block l c) (sym f.left)

        no_block : c ≡ [] → holds (openers g) (first_line (b ∷ t)) ≡ false → block l (b ∷ t) ≡ None
        no_block p q = quiet l (b ∷ t) q 0 some

        takes_pass : (p : Pair) → 0 < length p.opener → Here l c (b ∷ t) (passes_over p) → Takes l c (length p.opener) 1 1 c (b ∷ t)
        takes_pass p n e = record {
          goes = goes_pass g block l sound fits.in_line c (b ∷ t) k some p e;
          openings = openings_ahead-pass g block l c b t p n e;
          few = omega arith;
          one = omega arith;
          calm = λ plain q. absurd (none_passed g (block l (b ∷ t)) (b ∷ t) (no_block plain q) (line-begins g tokens b t q) p (rw plain at e));
        }

        takes_opener : (q : _) (p : Pair) → 0 < length p.opener → Here l c (b ∷ t) (opens q p) → Takes l c (length p.opener) 1 1 (enclosure q p ∷ c) (b ∷ t)
        takes_opener q p n e = record {
          goes = goes_opener g block l sound fits.in_line c (b ∷ t) k some q p e;
          openings = openings_ahead-opener g block l c b t q p n e;
          few = omega arith;
          one = omega arith;
          calm = λ plain z. absurd (none_opens g (block l (b ∷ t)) (b ∷ t) (no_block plain z) (line-begins g tokens b t z) q p (rw plain at e));
        }

      takes_closer : (l : ℕ) (e : Enclosure) (c : Chain) (b : ℕ) (t : List ℕ) → IsClosable (e ∷ c)
          → 0 < line_len (b ∷ t) → Here l (e ∷ c) (b ∷ t) closes
          → Takes l (e ∷ c) (length e.closer) 1 0 c (b ∷ t)
      takes_closer l e c b t k some h = record {
        goes = goes_closer g block l sound fits.in_line e c (b ∷ t) k some h;
        openings = openings_ahead-closer g block l e c b t h;
        few = omega arith;
        one = omega arith;
        calm = λ p q. cc;
      }

      child_is : (l : ℕ) (b : ℕ) (t : List ℕ) (k : Block) → 0 < line_len (b ∷ t) → block l (b ∷ t) ≡ Some k → Here l [] (b ∷ t) (child_opens k) → IsChild l (length (b ∷ t) - k.size) k (b ∷ t)
      child_is l b t k some h e = record {
        opens = h;
        inside = some;
        marks = marks_ahead-child g block l b t k (fits.some l (b ∷ t) k h) e;
        openings = openings_ahead-child g block l b t k (fits.some l (b ∷ t) k h) e;
      }

      module _ (M : ℕ → Chain → List ℕ → Type 0) (carried : IsCarried M) where
        -- where it holds of all that is shorter
        abbrev Below : List ℕ → Type 0
        Below t = (l : ℕ) (c : Chain) (u : List ℕ) → length u < length t → IsClosable c → M l c u

        behind : (n b : ℕ) (t : List ℕ) → 0 < n → length (drop n (b ∷ t)) < length (b ∷ t)
        behind n b t h = omega (arith, length-drop n (b ∷ t))

        by_takes : (l : ℕ) (c : Chain) (b : ℕ) (t : List ℕ) (n j x : ℕ) (d : Chain) → Takes l c n j x d (b ∷ t) → Below (b ∷ t) → M l c (b ∷ t)
        by_takes l c b t n j x d h below = carried.by_bytes l c n j x d (b ∷ t) h (below l d (drop n (b ∷ t)) (behind n b t h.goes.some) h.goes.closable)

        by_choice : (l : ℕ) (c : Chain) (b : ℕ) (t : List ℕ) → IsClosable c → 0 < line_len (b ∷ t)
            → (x : Choice) → Here l c (b ∷ t) x → FitsIn (block l (b ∷ t)) (innermost c) (b ∷ t) x
            → Below (b ∷ t) → M l c (b ∷ t)
        by_choice l [] b t k some closes e f below = absurd (no_closer g block l sound fits.in_line (b ∷ t) e)
        by_choice l (h ∷ c) b t k some closes e f below = by_takes l (h ∷ c) b t _ _ _ _ (takes_closer l h c b t k some e) below
        by_choice l c b t k some escapes e f below = by_takes l c b t _ _ _ _ (takes_escape l c b t k some e) below
        by_choice l [] b t k some (child_opens a) e f below =
            carried.by_child l (length (b ∷ t) - a.size) a (b ∷ t) (child_is l b t a some f e)
            (below (length (b ∷ t) - a.size) [] (drop a.size (b ∷ t)) (behind a.size b t (fits.some l (b ∷ t) a f)) tt)
        by_choice l (h ∷ c) b t k some (child_opens a) e f below = absurd (within_no_child g h (block l (b ∷ t)) (b ∷ t) a e)
        by_choice l c b t k some (opens q p) e f below = by_takes l c b t _ _ _ _ (takes_opener l c b t k some q p f.0.some e) below
        by_choice l c b t k some (passes_over p) e f below = by_takes l c b t _ _ _ _ (takes_pass l c b t k some p f.some e) below
        by_choice l c b t k some begins_line_comment e f below = by_takes l c b t _ _ _ _ (takes_rest l c b t k some e) below
        by_choice l c b t k some takes_byte e f below = by_takes l c b t _ _ _ _ (takes_one l c b t k some e) below

        by_byte : (l : ℕ) (c : Chain) (b : ℕ) (t : List ℕ) → IsClosable c → (x : Bool) → (b == 10) ≡ x → Below (b ∷ t) → M l c (b ∷ t)
        by_byte l c b t k true e below =
            let newline : b ≡ 10 = (Decides-eqb b 10).0 e in
            subst (λ a. M l c (a ∷ t)) (sym newline) (carried.by_newline l c t (newline_is l c t k) (below l c t (omega arith) k))
        by_byte l c b t k false e below =
            let some : 0 < line_len (b ∷ t) = rw e (omega arith) in
            by_choice l c b t k some _ refl (choice_fits g (block l (b ∷ t)) (innermost c) (b ∷ t) sound (top_closed c k)) below

        through : (n : ℕ) (l : ℕ) (c : Chain) (t : List ℕ) → length t ≤ n → IsClosable c → M l c t
        through zero l c [] h k = carried.at_end l c
        through zero l c (b ∷ t) h k = absurd (omega (arith, h))
        through (suc n) l c [] h k = carried.at_end l c
        through (suc n) l c (b ∷ t) h k = by_byte l c b t k (b == 10) refl (λ l c u i k. through n l c u (omega (arith, h, i)) k)

        pub by_choices : (l : ℕ) (c : Chain) (t : List ℕ) → IsClosable c → M l c t
        by_choices l c t k = through (length t) l c t (omega arith) k
