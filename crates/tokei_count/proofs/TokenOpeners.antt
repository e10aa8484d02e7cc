-- No opener of a row with tokens holds a newline.
use Rattle.std.proofs.Common.{◌≡◌, ℕ, Bool, true, false, ◌&&◌, List, [], ◌∷◌, ◌++◌, refl}
use Rattle.std.specs.List.{list_all}
use Rattle.tokei_table.specs.Families.{family_of}
use Rattle.tokei_table.specs.Openers.{starts_of, tag_starts, child_openers, openers}
use Rattle.tokei_table.specs.Row.{Pair, Row}
use Rattle.tokei_table.specs.Sound.{no_newline, is_token, is_pair}
use Rattle.tokei_table.specs.Tokens.{has_tokens}
use Rattle.tokei_table.specs.Family.{Family}
use Rattle.tokei_table.specs.Family.TheVariants.{Plain, Markdown, HtmlLike, Rust, LinguaFranca, Jupyter}
use Rattle.tokei_parts.proofs.Fits.{and_left, and_right}

both : (a b : Bool) → a ≡ true → b ≡ true → (a && b) ≡ true
both true b e f = f
both false b e f = e

all_both : (xs ys : List (List ℕ)) → list_all no_newline xs ≡ true → list_all no_newline ys ≡ true → list_all no_newline (xs ++ ys) ≡ true
all_both [] ys e f = f
all_both (x ∷ xs) ys e f = both (no_newline x) (list_all no_newline (xs ++ ys)) (and_left _ _ e) (all_both xs ys (and_right (no_newline x) (list_all no_newline xs) e) f)

token_in_line : (t : List ℕ) → is_token t ≡ true → no_newline t ≡ true
token_in_line [] h = cc
token_in_line (b ∷ t) h = and_left (no_newline (b ∷ t)) _ h

tokens_in_line : (ts : List (List ℕ)) → list_all is_token ts ≡ true → list_all no_newline ts ≡ true
tokens_in_line [] h = h
tokens_in_line (t ∷ ts) h =
    both (no_newline t) (list_all no_newline ts)
    (token_in_line t (and_left (is_token t) (list_all is_token ts) h))
    (tokens_in_line ts (and_right (is_token t) (list_all is_token ts) h))

tags_in_line : (ts : List (List ℕ)) → list_all is_token ts ≡ true → list_all no_newline (tag_starts ts) ≡ true
tags_in_line [] h = h
tags_in_line (t ∷ ts) h =
    both (no_newline t) (list_all no_newline (tag_starts ts))
    (token_in_line t (and_left (is_token t) (list_all is_token ts) h))
    (tags_in_line ts (and_right (is_token t) (list_all is_token ts) h))

starts_in_line : (ps : List Pair) → list_all is_pair ps ≡ true → list_all no_newline (starts_of ps) ≡ true
starts_in_line [] h = h
starts_in_line (p ∷ ps) h =
    both (no_newline p.opener) (list_all no_newline (starts_of ps))
    (token_in_line p.opener (and_left (is_token p.opener) (is_token p.closer) (and_left (is_pair p) (list_all is_pair ps) h)))
    (starts_in_line ps (and_right (is_pair p) (list_all is_pair ps) h))

child_in_line : (f : Family) → list_all no_newline (child_openers f) ≡ true
child_in_line Plain = refl
child_in_line Markdown = refl
child_in_line HtmlLike = refl
child_in_line Rust = refl
child_in_line LinguaFranca = refl
child_in_line Jupyter = refl

pub openers_in_line : (r : Row) → has_tokens r ≡ true → list_all no_newline (openers r) ≡ true
unfolding has_tokens
openers_in_line r h =
    let h7 = and_left _ _ h in
    let h6 = and_left _ _ h7 in
    let h5 = and_left _ _ h6 in
    let h4 = and_left _ _ h5 in
    let h3 = and_left _ _ h4 in
    let h2 = and_left _ _ h3 in
    let t5 = r.important_syntax ++ tag_starts r.contexts in
    let t4 = starts_of r.nested_comments ++ t5 in
    let t3 = starts_of r.multi_line_comments ++ t4 in
    let t2 = starts_of r.doc_quotes ++ t3 in
    let e5 = all_both r.important_syntax (tag_starts r.contexts) (tokens_in_line r.important_syntax (and_right _ _ h7)) (tags_in_line r.contexts (and_right _ _ h)) in
    let e4 = all_both (starts_of r.nested_comments) t5 (starts_in_line r.nested_comments (and_right _ _ h3)) e5 in
    let e3 = all_both (starts_of r.multi_line_comments) t4 (starts_in_line r.multi_line_comments (and_right _ _ h2)) e4 in
    let e2 = all_both (starts_of r.doc_quotes) t3 (starts_in_line r.doc_quotes (and_right _ _ h6)) e3 in
    let e1 = all_both (starts_of r.quotes) t2 (starts_in_line r.quotes (and_right _ _ h4)) e2 in
    let more = starts_of r.verbatim_quotes ++ child_openers (family_of r.key) in
    all_both (starts_of r.quotes ++ t2) more e1 (all_both (starts_of r.verbatim_quotes)
    (child_openers (family_of r.key)) (starts_in_line r.verbatim_quotes (and_right _ _ h5))
    (child_in_line (family_of r.key)))
