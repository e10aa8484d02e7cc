-- A part that begins plain and holds no opener ends plain, and no child opens in it.
use Rattle.std.proofs.Common.{◌≡◌, ℕ, suc, zero, ◌+◌, ◌-◌, ◌<◌, ◌≤◌, ◌==◌, Bool, true, false, ◌||◌, cond, List, [], ◌∷◌, ◌++◌, drop, Option, None, Some, refl, sym, ◌∙◌, ap, subst, arith}
use Rattle.std.specs.Prelude.{⊤}
use Rattle.std.proofs.lemmas.List.{drop-drop}
use Rattle.tokei_table.specs.Bytes.{begins, begins_with_one, line_len}
use Rattle.tokei_table.specs.Families.{family_of}
use Rattle.tokei_table.specs.Openers.{starts_of, tag_starts, child_openers, openers}
use Rattle.tokei_table.specs.Row.{Pair, Row}
use Rattle.tokei_table.specs.Sound.{IsSound}
use Rattle.tokei_table.specs.Tokens.{has_tokens}
use Rattle.tokei_parts.specs.Choice.{Choice, choice, opened, any_begins, is_escape, or_else, choice_in_plain}
use Rattle.tokei_parts.specs.Choice.Choice.{closes, escapes, child_opens, opens, passes_over, begins_line_comment, takes_byte}
use Rattle.tokei_parts.specs.Glance.{holds}
use Rattle.tokei_parts.specs.Items.{Block}
use Rattle.tokei_embedding.specs.DocComments.{first_line}
use Rattle.tokei_parts.specs.Progress.{Leads, OpensInLine, newlines}
use Rattle.tokei_parts.specs.declared.items.ItemKind.TheVariants.{DocString, VerbatimString, OrdinaryString, MultiLineComment}
use Rattle.tokei_parts.proofs.Fits.{FitsIn, choice_fits}
use Rattle.tokei_parts.proofs.Leading.{lead_none, lead_on, lead_byte, lead_escape, lead_rest, line_len-drop}
use Rattle.tokei_parts.proofs.OpenersInLines.{one-line, none_here, none_later, none_front, none_back}
use Rattle.tokei_count.proofs.TokenOpeners.{openers_in_line}

none_opened : (ps : List Pair) (u : List ℕ) → begins_with_one (starts_of ps) u ≡ false → opened ps u ≡ None
unfolding begins_with_one
none_opened [] u h = refl
none_opened (p ∷ ps) u h = by_test (begins p.opener u) h (none_opened ps u)
  where
    by_test : (x : Bool) → (x || begins_with_one (starts_of ps) u) ≡ false → (begins_with_one (starts_of ps) u ≡ false → opened ps u ≡ None) → cond x (Some p) (opened ps u) ≡ None
    by_test true e f = cc
    by_test false e f = f e

-- a choice that leaves plain text plain
abbrev IsCalm : Choice → Type 0
IsCalm closes = ⊥
IsCalm escapes = ⊤
IsCalm (child_opens k) = ⊥
IsCalm (opens k p) = ⊥
IsCalm (passes_over p) = ⊥
IsCalm begins_line_comment = ⊤
IsCalm takes_byte = ⊤

calm_if : (b : Bool) (x y : Choice) → IsCalm x → IsCalm y → IsCalm (cond b x y)
calm_if true x y h k = h
calm_if false x y h k = k

calm_else : {A : Type 0} (o : Option A) (f : A → Choice) (y : Choice) → o ≡ None → IsCalm y → IsCalm (or_else o f y)
calm_else None f y e k = k
calm_else (Some p) f y e k = cc

calm_plain : (g : Row) (o : Option Block) (u : List ℕ) → o ≡ None → begins_with_one (openers g) u ≡ false → IsCalm (choice_in_plain g o u)
calm_plain g o u none h =
    let q = starts_of g.quotes in
    let d = starts_of g.doc_quotes in
    let m = starts_of g.multi_line_comments in
    let n = starts_of g.nested_comments in
    let v = starts_of g.verbatim_quotes in
    let kids = child_openers (family_of g.key) in
    let more = g.important_syntax ++ tag_starts g.contexts in
    let h0 : begins_with_one (q ++ (d ++ (m ++ (n ++ more)))) u ≡ false = none_front (q ++ (d ++ (m ++ (n ++ more)))) (v ++ kids) u h in
    let h1 : begins_with_one (d ++ (m ++ (n ++ more))) u ≡ false = none_back q (d ++ (m ++ (n ++ more))) u h0 in
    let h2 : begins_with_one (m ++ (n ++ more)) u ≡ false = none_back d (m ++ (n ++ more)) u h1 in
    let h3 : begins_with_one (n ++ more) u ≡ false = none_back m (n ++ more) u h2 in
    let hv : begins_with_one (v ++ kids) u ≡ false = none_back (q ++ (d ++ (m ++ (n ++ more)))) (v ++ kids) u h in
    calm_if (is_escape g u) escapes _ tt
    (calm_else o child_opens _ none
    (calm_else (opened g.doc_quotes u) (opens DocString) _ (none_opened g.doc_quotes u (none_front d (m ++ (n ++ more)) u h1))
    (calm_else (opened g.verbatim_quotes u) (opens VerbatimString) _ (none_opened g.verbatim_quotes u (none_front v kids u hv))
    (calm_else (opened g.quotes u) (opens OrdinaryString) _ (none_opened g.quotes u (none_front q (d ++ (m ++ (n ++ more))) u h0))
    (calm_else (opened g.multi_line_comments u) (opens MultiLineComment) _ (none_opened g.multi_line_comments u (none_front m (n ++ more) u h2))
    (calm_else (opened g.nested_comments u) (opens MultiLineComment) _ (none_opened g.nested_comments u (none_front n more u h3))
    (calm_if (any_begins g.line_comment u) begins_line_comment takes_byte tt tt)))))))

module _ (g : Row) (block : ℕ → List ℕ → Option Block) (l : ℕ) (tokens : has_tokens g ≡ true) (s : IsSound g) (in_line : OpensInLine block) where
  -- no child opens in the first line of the text
  abbrev pub NoKids : List ℕ → Type 0
  NoKids u = (n : ℕ) → n < line_len u → block l (drop n u) ≡ None

  -- through its first line the text leads from plain to plain
  abbrev pub StaysPlain : List ℕ → Type 0
  StaysPlain u = (j : ℕ) × Leads g block l [] (line_len u) j [] u

  kids_later : (n : ℕ) (u : List ℕ) → n ≤ line_len u → NoKids u → NoKids (drop n u)
  kids_later n u h f k i = let left : line_len (drop n u) ≡ line_len u - n = line_len-drop n u h in ap (block l) (drop-drop k n u) ∙ f (n + k) (omega (arith, i, left, h))

  -- n bytes, and then the rest of the line
  then_rest : (u : List ℕ) (n : ℕ) → 0 < n → n ≤ line_len u → holds (openers g) (first_line u) ≡ false → NoKids u → Leads g block l [] n 1 [] u
      → ((w : List ℕ) → line_len w < line_len u → holds (openers g) (first_line w) ≡ false → NoKids w → StaysPlain w) → StaysPlain u
  then_rest u n some h e kids first ih =
      let left : line_len (drop n u) ≡ line_len u - n = line_len-drop n u h in
      let whole : n + line_len (drop n u) ≡ line_len u = omega (arith, left, h) in
      let rest : StaysPlain (drop n u) = ih (drop n u) (omega (arith, left, some, h)) (none_later (openers g) n u h e) (kids_later n u h kids) in
      (1 + rest.0, subst (λ k. Leads g block l [] k (1 + rest.0) [] u) whole (lead_on g block l [] [] [] n (line_len (drop n u)) 1 rest.0 u first rest.1))

  no_opener : (b : ℕ) (t : List ℕ) → holds (openers g) (first_line (b ∷ t)) ≡ false → begins_with_one (openers g) (b ∷ t) ≡ false
  no_opener b t h = sym (one-line (openers g) (openers_in_line g tokens) (b ∷ t)) ∙ by_test (b == 10) h
    where
      by_test : (x : Bool) → holds (openers g) (cond x (b ∷ []) (b ∷ first_line t)) ≡ false → begins_with_one (openers g) (cond x (b ∷ []) (b ∷ first_line t)) ≡ false
      by_test true h = none_here (openers g) b [] h
      by_test false h = none_here (openers g) b (first_line t) h

  by_step : (b : ℕ) (t : List ℕ) → 0 < line_len (b ∷ t) → holds (openers g) (first_line (b ∷ t)) ≡ false → NoKids (b ∷ t)
      → ((w : List ℕ) → line_len w < line_len (b ∷ t) → holds (openers g) (first_line w) ≡ false → NoKids w → StaysPlain w) → StaysPlain (b ∷ t)
  unfolding choice
  by_step b t some e kids ih =
      by_choice (choice g None (block l (b ∷ t)) (b ∷ t)) refl (calm_plain g (block l (b ∷ t)) (b ∷ t) (kids 0 some) (no_opener b t e)) (choice_fits g (block l (b ∷ t)) None (b ∷ t) s tt)
    where
      by_choice : (x : Choice) → choice g None (block l (b ∷ t)) (b ∷ t) ≡ x → IsCalm x → FitsIn (block l (b ∷ t)) None (b ∷ t) x → StaysPlain (b ∷ t)
      by_choice closes f c h = absurd c
      by_choice escapes f c h = then_rest (b ∷ t) 2 (omega arith) h e kids (lead_escape g block l [] b t h f) ih
      by_choice (child_opens k) f c h = absurd c
      by_choice (opens k p) f c h = absurd c
      by_choice (passes_over p) f c h = absurd c
      by_choice begins_line_comment f c h = (1 - newlines (b ∷ t), lead_rest g block l [] b t s in_line tt h f)
      by_choice takes_byte f c h = then_rest (b ∷ t) 1 (omega arith) some e kids (lead_byte g block l [] b t some f) ih

  by_len : (n b : ℕ) (t : List ℕ) → line_len (b ∷ t) ≡ n → holds (openers g) (first_line (b ∷ t)) ≡ false → NoKids (b ∷ t)
      → ((w : List ℕ) → line_len w < line_len (b ∷ t) → holds (openers g) (first_line w) ≡ false → NoKids w → StaysPlain w) → StaysPlain (b ∷ t)
  by_len zero b t q e kids ih = (0, subst (λ n. Leads g block l [] n 0 [] (b ∷ t)) (sym q) (lead_none g block l [] (b ∷ t)))
  by_len (suc n) b t q e kids ih = by_step b t (omega (arith, q)) e kids ih

  through : (k : ℕ) (u : List ℕ) → line_len u ≤ k → holds (openers g) (first_line u) ≡ false → NoKids u → StaysPlain u
  through zero u h e kids = let z : 0 ≡ line_len u = omega (arith, h) in (0, subst (λ n. Leads g block l [] n 0 [] u) z (lead_none g block l [] u))
  through (suc k) [] h e kids = (0, lead_none g block l [] [])
  through (suc k) (b ∷ t) h e kids = by_len (line_len (b ∷ t)) b t refl e kids (λ w i f c. through k w (omega (arith, i, h)) f c)

  pub glance : (u : List ℕ) → holds (openers g) (first_line u) ≡ false → NoKids u → StaysPlain u
  glance u e kids = through (line_len u) u (omega arith) e kids
