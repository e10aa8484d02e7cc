-- Languages that the table says the same of have the same matchers.
use Rattle.std.proofs.Common.{◌≡◌, ℕ, Bool, true, false, ◌&&◌, ◌||◌, ◌==◌, List, [], ◌∷◌, ◌++◌, map, refl, sym, ◌∙◌, ap, String, Global, string_bytes, string_eq}
use Rattle.std.proofs.lemmas.Bool.{false≢true}
use lib.Pointwise.{pointwise, bytes_decides}
use Rattle.tokei_table.specs.Row.{Pair, Row}
use Rattle.tokei_table.specs.Families.{family_of}
use Rattle.tokei_table.specs.Family.{Family}
use Rattle.tokei_table.specs.RowOf.{pair_of, pairs_of, tokens_of}
use Rattle.tokei_parts.specs.Alike.{HaveSameQuotes, HaveSameComments, HaveSameTexts}
use Rattle.tokei_parts.specs.Matchers.{Matchers, matchers_of, flags, begins_opener}
use Rattle.tokei_parts.specs.PlainOpenings.{item_openings, line_openings}
use Rattle.tokei_parts.specs.declared.items.ItemKind.TheVariants.{DocString, VerbatimString, OrdinaryString, MultiLineComment}
use Rattle.std.specs.List.{list_any}
use Rattle.tokei_table.specs.Bytes.{backslash}
use Rattle.tokei_table.specs.FirstOpener.{is_first_of}
use Rattle.tokei_table.specs.Openers.{starts_of, tag_starts, child_openers}

first : (a b : Bool) → (a && b) ≡ true → a ≡ true
first true b h = refl
first false b h = h

second : (a b : Bool) → (a && b) ≡ true → b ≡ true
second true b h = h
second false b h = absurd (false≢true h)

-- lists of which each pair of elements that is equal by the test is seen alike
seen_alike : {X Y : Type 0} (same : X → X → Bool) (view : X → Y) → ((a b : X) → same a b ≡ true → view a ≡ view b)
    → (xs ys : List X) → pointwise same xs ys ≡ true → map view xs ≡ map view ys
seen_alike same view t [] [] h = refl
seen_alike same view t [] (y ∷ ys) h = absurd (false≢true h)
seen_alike same view t (x ∷ xs) [] h = absurd (false≢true h)
seen_alike same view t (x ∷ xs) (y ∷ ys) h =
    ap (λ v. v ∷ map view xs) (t x y (first (same x y) (pointwise same xs ys) h))
    ∙ ap (λ vs. view y ∷ vs) (seen_alike same view t xs ys (second (same x y) (pointwise same xs ys) h))

text_alike : (a b : String Global) → string_eq a b ≡ true → string_bytes a ≡ string_bytes b
text_alike a b = (bytes_decides (string_bytes a) (string_bytes b)).0

pub texts_alike : (xs ys : List (String Global)) → pointwise string_eq xs ys ≡ true → tokens_of xs ≡ tokens_of ys
texts_alike = seen_alike string_eq string_bytes text_alike

abbrev same_pair : String Global × String Global → String Global × String Global → Bool
same_pair p q = string_eq p.0 q.0 && string_eq p.1 q.1

pair_alike : (p q : String Global × String Global) → same_pair p q ≡ true → pair_of p ≡ pair_of q
pair_alike p q h =
    ap (λ o. record { opener = o; closer = string_bytes p.1 }) (text_alike p.0 q.0 (first (string_eq p.0 q.0) (string_eq p.1 q.1) h))
    ∙ ap (λ c. record { opener = string_bytes q.0; closer = c }) (text_alike p.1 q.1 (second (string_eq p.0 q.0) (string_eq p.1 q.1) h))

pub pairs_alike : (xs ys : List (String Global × String Global)) → pointwise same_pair xs ys ≡ true → pairs_of xs ≡ pairs_of ys
pairs_alike = seen_alike same_pair pair_of pair_alike

-- the matchers by what they are made of
made : Family → List Pair → List Pair → List Pair → List Pair → List Pair → List (List ℕ) → List (List ℕ) → List (List ℕ) → Matchers
made f q v d m n l i t =
    record {
      openers = starts_of q ++ (starts_of d ++ (starts_of m ++ (starts_of n ++ (i ++ tag_starts t)))) ++ (starts_of v ++ child_openers f);
      begins = flags (begins_any q v d m n l) 256;
      begins_in_comment = flags (begins_one m n) 256;
      begins_comment = flags (λ byte. begins_one m n byte || list_any (is_first_of byte) l) 256;
      family = f;
      openings = item_openings DocString d ++ (item_openings VerbatimString v ++ (item_openings OrdinaryString q
          ++ (item_openings MultiLineComment m ++ (item_openings MultiLineComment n ++ line_openings l))));
    }
  where
    begins_one : List Pair → List Pair → ℕ → Bool
    begins_one m n byte = (byte == backslash) || (begins_opener m byte || begins_opener n byte)

    begins_any : List Pair → List Pair → List Pair → List Pair → List Pair → List (List ℕ) → ℕ → Bool
    begins_any q v d m n l byte =
        (byte == backslash)
        || (begins_opener q byte
        || (begins_opener v byte || (begins_opener d byte
        || (begins_opener m byte || (begins_opener n byte
        || list_any (is_first_of byte) l)))))

are_made : (r : Row) → matchers_of r ≡ made (family_of r.key) r.quotes r.verbatim_quotes r.doc_quotes r.multi_line_comments r.nested_comments r.line_comment r.important_syntax r.contexts
unfolding made
are_made r = refl

pub matchers_alike : (a b : Row) → HaveSameQuotes a b → HaveSameComments a b → HaveSameTexts a b → matchers_of a ≡ matchers_of b
matchers_alike a b q c t =
    are_made a
    ∙ ap (λ x. made x a.quotes a.verbatim_quotes a.doc_quotes a.multi_line_comments a.nested_comments a.line_comment a.important_syntax a.contexts) t.family
    ∙ ap (λ x. made (family_of b.key) x a.verbatim_quotes a.doc_quotes a.multi_line_comments a.nested_comments a.line_comment a.important_syntax a.contexts) q.quotes
    ∙ ap (λ x. made (family_of b.key) b.quotes x a.doc_quotes a.multi_line_comments a.nested_comments a.line_comment a.important_syntax a.contexts) q.verbatim_quotes
    ∙ ap (λ x. made (family_of b.key) b.quotes b.verbatim_quotes x a.multi_line_comments a.nested_comments a.line_comment a.important_syntax a.contexts) q.doc_quotes
    ∙ ap (λ x. made (family_of b.key) b.quotes b.verbatim_quotes b.doc_quotes x a.nested_comments a.line_comment a.important_syntax a.contexts) c.multi_line_comments
    ∙ ap (λ x. made (family_of b.key) b.quotes b.verbatim_quotes b.doc_quotes b.multi_line_comments x a.line_comment a.important_syntax a.contexts) c.nested_comments
    ∙ ap (λ x. made (family_of b.key) b.quotes b.verbatim_quotes b.doc_quotes b.multi_line_comments b.nested_comments x a.important_syntax a.contexts) c.line_comment
    ∙ ap (λ x. made (family_of b.key) b.quotes b.verbatim_quotes b.doc_quotes b.multi_line_comments b.nested_comments b.line_comment x a.contexts) t.important_syntax
    ∙ ap (made (family_of b.key) b.quotes b.verbatim_quotes b.doc_quotes b.multi_line_comments b.nested_comments b.line_comment b.important_syntax) t.contexts
    ∙ sym (are_made b)
