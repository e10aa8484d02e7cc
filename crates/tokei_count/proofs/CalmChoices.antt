-- Where no opener stands and no child opens, plain text has an escape, a line comment or a byte.
use Rattle.std.proofs.Common.{◌≡◌, ℕ, ◌==◌, Bool, true, false, ◌||◌, cond, List, [], ◌∷◌, ◌++◌, Option, None, Some, refl, sym, ◌∙◌}
use Rattle.tokei_table.specs.Bytes.{begins, begins_with_one}
use Rattle.tokei_table.specs.Families.{family_of}
use Rattle.tokei_table.specs.Openers.{starts_of, tag_starts, child_openers, openers}
use Rattle.tokei_table.specs.Row.{Pair, Row}
use Rattle.tokei_table.specs.Tokens.{has_tokens}
use Rattle.tokei_parts.specs.Choice.{choice, opened, any_begins, is_escape}
use Rattle.tokei_parts.specs.Choice.Choice.{escapes, opens, passes_over, begins_line_comment, takes_byte}
use Rattle.tokei_parts.specs.Glance.{holds}
use Rattle.tokei_parts.specs.Items.{Block}
use Rattle.tokei_embedding.specs.DocComments.{first_line}
use Rattle.tokei_parts.specs.declared.items.ItemKind.{ItemKind}
use Rattle.tokei_parts.proofs.OpenersInLines.{one-line, none_here, none_next, none_front, none_back}
use Rattle.tokei_count.proofs.TokenOpeners.{openers_in_line}

-- a text that holds no opener holds none behind some bytes
pub holds-behind : (os : List (List ℕ)) (s u : List ℕ) → holds os (s ++ u) ≡ false → holds os u ≡ false
holds-behind os [] u h = h
holds-behind os (b ∷ s) u h = holds-behind os s u (none_next os b (s ++ u) h)

-- a text begins with none where its line holds none
pub line-begins : (g : Row) → has_tokens g ≡ true → (b : ℕ) (t : List ℕ) → holds (openers g) (first_line (b ∷ t)) ≡ false → begins_with_one (openers g) (b ∷ t) ≡ false
line-begins g tokens b t h = sym (one-line (openers g) (openers_in_line g tokens) (b ∷ t)) ∙ by_test (b == 10) h
  where
    by_test : (x : Bool) → holds (openers g) (cond x (b ∷ []) (b ∷ first_line t)) ≡ false → begins_with_one (openers g) (cond x (b ∷ []) (b ∷ first_line t)) ≡ false
    by_test true h = none_here (openers g) b [] h
    by_test false h = none_here (openers g) b (first_line t) h

opened-none : (ps : List Pair) (u : List ℕ) → begins_with_one (starts_of ps) u ≡ false → opened ps u ≡ None
unfolding begins_with_one
opened-none [] u h = refl
opened-none (p ∷ ps) u h = by_test (begins p.opener u) h (opened-none ps u)
  where
    by_test : (x : Bool) → (x || begins_with_one (starts_of ps) u) ≡ false → (begins_with_one (starts_of ps) u ≡ false → opened ps u ≡ None) → cond x (Some p) (opened ps u) ≡ None
    by_test true e f = cc
    by_test false e f = f e

module _ (g : Row) (o : Option Block) (u : List ℕ) (none : o ≡ None) (h : begins_with_one (openers g) u ≡ false) where
  calm_choice : choice g None o u ≡ cond (is_escape g u) escapes (cond (any_begins g.line_comment u) begins_line_comment takes_byte)
  unfolding choice
  calm_choice =
      let q = starts_of g.quotes in
      let d = starts_of g.doc_quotes in
      let m = starts_of g.multi_line_comments in
      let n = starts_of g.nested_comments in
      let v = starts_of g.verbatim_quotes in
      let kids = child_openers (family_of g.key) in
      let more = g.important_syntax ++ tag_starts g.contexts in
      let h0 = none_front (q ++ (d ++ (m ++ (n ++ more)))) (v ++ kids) u h in
      let h1 = none_back q (d ++ (m ++ (n ++ more))) u h0 in
      let h2 = none_back d (m ++ (n ++ more)) u h1 in
      let h3 = none_back m (n ++ more) u h2 in
      let hv = none_back (q ++ (d ++ (m ++ (n ++ more)))) (v ++ kids) u h in
      rw (
        none,
        opened-none g.doc_quotes u (none_front d (m ++ (n ++ more)) u h1),
        opened-none g.verbatim_quotes u (none_front v kids u hv),
        opened-none g.quotes u (none_front q (d ++ (m ++ (n ++ more))) u h0),
        opened-none g.multi_line_comments u (none_front m (n ++ more) u h2),
        opened-none g.nested_comments u (none_front n more u h3),
      ) refl

  not_opens : (x y : Bool) (k : ItemKind) (p : Pair) → cond x escapes (cond y begins_line_comment takes_byte) ≡ opens k p → ⊥
  not_opens true y k p e = cc
  not_opens false true k p e = cc
  not_opens false false k p e = cc

  not_passes : (x y : Bool) (p : Pair) → cond x escapes (cond y begins_line_comment takes_byte) ≡ passes_over p → ⊥
  not_passes true y p e = cc
  not_passes false true p e = cc
  not_passes false false p e = cc

  pub none_opens : (k : ItemKind) (p : Pair) → choice g None o u ≡ opens k p → ⊥
  none_opens k p e = not_opens (is_escape g u) (any_begins g.line_comment u) k p (sym calm_choice ∙ e)

  pub none_passed : (p : Pair) → choice g None o u ≡ passes_over p → ⊥
  none_passed p e = not_passes (is_escape g u) (any_begins g.line_comment u) p (sym calm_choice ∙ e)
