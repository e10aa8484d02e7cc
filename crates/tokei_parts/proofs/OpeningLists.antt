-- The openings of a language are put together one after the other.
use Rattle.std.proofs.Common.{◌≡◌, ◌∙◌, ◌+◌, ◌<◌, ℕ, List, [], ◌∷◌, ◌++◌, append_assoc, take, length, get_or, refl, sym, ap, String, Global}
use Rattle.std.proofs.lemmas.List.{take_more}
use Rattle.tokei_table_row.specs.RowOf.{pairs_of, tokens_of}
use Rattle.tokei_parts.specs.PlainOpenings.{Opening, item_openings, line_openings}
use Rattle.tokei_parts.specs.Spans.{opening_of, openings_of}
use Rattle.tokei_parts.specs.declared.items.ItemKind.{ItemKind}
use Rattle.tokei_parts.specs.declared.opening_table.Opening as CodeOpening

-- those of two lists are those of the one and then those of the other
openings_joined : (xs ys : List CodeOpening.Opening) → openings_of (xs ++ ys) ≡ openings_of xs ++ openings_of ys
openings_joined [] ys = refl
openings_joined (x ∷ xs) ys = ap (λ os. opening_of x ∷ os) (openings_joined xs ys)

-- so it is of the openers of items
pub items_joined : (kind : ItemKind) (xs ys : List (String Global × String Global))
    → item_openings kind (pairs_of (xs ++ ys)) ≡ item_openings kind (pairs_of xs) ++ item_openings kind (pairs_of ys)
items_joined kind [] ys = refl
items_joined kind (x ∷ xs) ys = ap (λ os. item_openings kind (pairs_of (x ∷ [])) ++ os) (items_joined kind xs ys)

-- and of the beginnings of line comments
pub lines_joined : (xs ys : List (String Global)) → line_openings (tokens_of (xs ++ ys)) ≡ line_openings (tokens_of xs) ++ line_openings (tokens_of ys)
lines_joined [] ys = refl
lines_joined (x ∷ xs) ys = ap (λ os. line_openings (tokens_of (x ∷ [])) ++ os) (lines_joined xs ys)

-- one more of a list is put behind them
pub one_more : {A : Type 0} (seen : List A → List Opening) → ((xs ys : List A) → seen (xs ++ ys) ≡ seen xs ++ seen ys)
    → (all new : List CodeOpening.Opening) (x : CodeOpening.Opening) (before : List Opening) (xs : List A) (i : ℕ) (a : A)
    → new ≡ all ++ x ∷ [] → openings_of all ≡ before ++ seen (take i xs) → opening_of x ∷ [] ≡ seen (a ∷ []) → i < length xs → a ≡ get_or xs i a
    → openings_of new ≡ before ++ seen (take (i + 1) xs)
one_more seen joined all new x before xs i a put so_far same some is =
    ap openings_of put ∙ openings_joined all (x ∷ []) ∙ ap (λ os. os ++ opening_of x ∷ []) so_far ∙ ap (λ o. (before ++ seen (take i xs)) ++ o) same
    ∙ append_assoc before (seen (take i xs)) (seen (a ∷ []))
    ∙ ap (λ os. before ++ os) (sym (joined (take i xs) (a ∷ [])))
    ∙ ap (λ ys. before ++ seen ys) (ap (λ y. take i xs ++ y ∷ []) is ∙ sym (take_more xs i a some))

-- what is put behind a list that ends in x stands behind x
behind : (a b x rest : List Opening) → b ≡ a ++ x → b ++ rest ≡ a ++ (x ++ rest)
behind a b x rest e = ap (λ u. u ++ rest) e ∙ append_assoc a x rest

-- six lists are put together
pub six_joined : (a b c d e f g : List Opening) (u v w x y z : List Opening) → a ≡ [] → b ≡ a ++ u → c ≡ b ++ v → d ≡ c ++ w → e ≡ d ++ x → f ≡ e ++ y → g ≡ f ++ z
    → g ≡ u ++ (v ++ (w ++ (x ++ (y ++ z))))
six_joined a b c d e f g u v w x y z none one two three four five six =
    six ∙ behind e f y z five ∙ behind d e x (y ++ z) four ∙ behind c d w (x ++ (y ++ z)) three ∙ behind b c v (w ++ (x ++ (y ++ z))) two
    ∙ behind a b u (v ++ (w ++ (x ++ (y ++ z)))) one ∙ ap (λ t. t ++ (u ++ (v ++ (w ++ (x ++ (y ++ z)))))) none
