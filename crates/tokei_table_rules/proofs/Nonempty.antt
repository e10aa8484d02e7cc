-- No opener of a row with tokens is empty.
use Rattle.std.proofs.Common.{◌≡◌, ℕ, Bool, true, false, ◌&&◌, List, [], ◌∷◌, ◌++◌, Result, Ok, Err, refl}
use Rattle.std.specs.List.{list_all}
use Rattle.std.specs.Result.{IfOk}
use Rattle.tokei_table_rules.proofs.RowSound.{and_left, and_right}
use Rattle.tokei_table_rules.specs.Families.{family_of}
use Rattle.tokei_table_row.specs.FirstOpener.{is_nonempty}
use Rattle.tokei_table_rules.specs.Openers.{starts_of, tag_starts, child_openers, openers}
use Rattle.tokei_table_row.specs.Row.{Pair, Row}
use Rattle.tokei_table_row.specs.Sound.{is_token, is_pair}
use Rattle.tokei_table_rules.specs.Tokens.{has_tokens}
use Rattle.tokei_table_rules.specs.declared.family.Family.{Family}
use Rattle.tokei_table_rules.specs.declared.family.Family.TheVariants.{Plain, Markdown, HtmlLike, Rust, LinguaFranca, Jupyter}

both : (a b : Bool) → a ≡ true → b ≡ true → (a && b) ≡ true
both true b e f = f
both false b e f = e

all_both : (xs ys : List (List ℕ)) → list_all is_nonempty xs ≡ true → list_all is_nonempty ys ≡ true
    → list_all is_nonempty (xs ++ ys) ≡ true
all_both [] ys e f = f
all_both (x ∷ xs) ys e f =
    both (is_nonempty x) (list_all is_nonempty (xs ++ ys)) (and_left _ _ e)
    (all_both xs ys (and_right (is_nonempty x) (list_all is_nonempty xs) e) f)

token_nonempty : (t : List ℕ) → is_token t ≡ true → is_nonempty t ≡ true
token_nonempty [] h = h
token_nonempty (b ∷ t) h = refl

tokens_nonempty : (ts : List (List ℕ)) → list_all is_token ts ≡ true → list_all is_nonempty ts ≡ true
tokens_nonempty [] h = h
tokens_nonempty (t ∷ ts) h =
    both (is_nonempty t) (list_all is_nonempty ts) (token_nonempty t (and_left (is_token t) (list_all is_token ts) h))
    (tokens_nonempty ts (and_right (is_token t) (list_all is_token ts) h))

starts_nonempty : (ps : List Pair) → list_all is_pair ps ≡ true → list_all is_nonempty (starts_of ps) ≡ true
starts_nonempty [] h = h
starts_nonempty (p ∷ ps) h =
    both (is_nonempty p.opener) (list_all is_nonempty (starts_of ps))
    (token_nonempty p.opener (and_left (is_token p.opener) (is_token p.closer)
    (and_left (is_pair p) (list_all is_pair ps) h)))
    (starts_nonempty ps (and_right (is_pair p) (list_all is_pair ps) h))

tags_nonempty : (ts : List (List ℕ)) → list_all is_nonempty (tag_starts ts) ≡ true
tags_nonempty [] = refl
tags_nonempty (t ∷ ts) = tags_nonempty ts

child_nonempty : (f : Family) → list_all is_nonempty (child_openers f) ≡ true
child_nonempty Plain = refl
child_nonempty Markdown = refl
child_nonempty HtmlLike = refl
child_nonempty Rust = refl
child_nonempty LinguaFranca = refl
child_nonempty Jupyter = refl

pub openers_nonempty : (r : Row) → has_tokens r ≡ true → list_all is_nonempty (openers r) ≡ true
unfolding has_tokens
openers_nonempty r h =
    let h7 = and_left _ _ h in
    let h6 = and_left _ _ h7 in
    let h5 = and_left _ _ h6 in
    let h4 = and_left _ _ h5 in
    let h3 = and_left _ _ h4 in
    let h2 = and_left _ _ h3 in
    let t5 = r.important_syntax ++ tag_starts r.contexts in
    let t4 = starts_of r.nested_comments ++ t5 in
    let t3 = starts_of r.multi_line_comments ++ t4 in
    let t2 = starts_of r.doc_quotes ++ t3 in
    let e5 = all_both r.important_syntax (tag_starts r.contexts)
    (tokens_nonempty r.important_syntax (and_right _ _ h7)) (tags_nonempty r.contexts) in
    let e4 = all_both (starts_of r.nested_comments) t5 (starts_nonempty r.nested_comments (and_right _ _ h3)) e5 in
    let e3 = all_both (starts_of r.multi_line_comments) t4
    (starts_nonempty r.multi_line_comments (and_right _ _ h2)) e4 in
    let e2 = all_both (starts_of r.doc_quotes) t3 (starts_nonempty r.doc_quotes (and_right _ _ h6)) e3 in
    let e1 = all_both (starts_of r.quotes) t2 (starts_nonempty r.quotes (and_right _ _ h4)) e2 in
    let more = starts_of r.verbatim_quotes ++ child_openers (family_of r.key) in
    all_both (starts_of r.quotes ++ t2) more e1
    (all_both (starts_of r.verbatim_quotes) (child_openers (family_of r.key))
    (starts_nonempty r.verbatim_quotes (and_right _ _ h5)) (child_nonempty (family_of r.key)))

pub if_ok_more : {A E : Type 0} (r : Result A E) (P Q : A → Type 0) → ((a : A) → P a → Q a) → IfOk r P → IfOk r Q
if_ok_more (Ok a) P Q f h = f a h
if_ok_more (Err e) P Q f h = tt
