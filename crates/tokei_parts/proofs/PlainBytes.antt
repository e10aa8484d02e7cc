-- At a byte at which no choice can begin none but the byte is made.
use Rattle.std.proofs.Common.{◌≡◌, ℕ, zero, suc, ◌+◌, ◌<◌, ◌≤◌, ◌⊎◌, inl, inr, ◌==◌, nat_eq, Bool, true, false, ◌&&◌, ◌||◌, cond}
use Rattle.std.proofs.Common.{List, [], ◌∷◌, ◌++◌, length, drop, get_or, drop-cons, length-append, Option, None, Some, is_some, slice_index_or, refl, sym, ◌∙◌, ap, arith}
use Rattle.std.specs.List.{list_all, list_any}
use Rattle.std.proofs.lemmas.Bool.Decides.{Decides-eqb}
use Rattle.std.proofs.lemmas.List.{drop-drop}
use Rattle.tokei_bytes.specs.OneOf.{is_one_of}
use Rattle.tokei_table.specs.Bytes.{begins}
use Rattle.tokei_table.specs.FirstOpener.{is_first_of}
use Rattle.tokei_table.specs.Row.{Pair, Row}
use Rattle.tokei_table.specs.Sound.{is_token, is_pair, IsSound}
use Rattle.tokei_parts.specs.Choice.{choice, choice_in_plain, choice_within, choice_in_string, choice_in_comment, opened, any_begins, is_escape, or_else, met_in_comment}
use Rattle.tokei_parts.specs.Choice.Choice.{closes, escapes, opens, takes_byte}
use Rattle.tokei_parts.specs.Items.{Block, Enclosure, Mode}
use Rattle.tokei_parts.specs.Matchers.{begins_opener, begins_choice, begins_comment, begins_in_comment, flags, Matchers, matchers_of}
use Rattle.tokei_parts.specs.PlainBytes.{BeginsNone, BeginsNoneWithin, IsOutside, IsPlainByte}
use Rattle.tokei_parts.specs.declared.items.ItemKind.{ItemKind}
use Rattle.tokei_parts.specs.declared.items.ItemKind.TheVariants.{DocString, VerbatimString, OrdinaryString, MultiLineComment}
use Rattle.tokei_parts.proofs.Fits.{and_left, and_right}

-- the flag of a byte below n
pub length-flags : (f : ℕ → Bool) (n : ℕ) → length (flags f n) ≡ n
length-flags f zero = refl
length-flags f (suc n) = length-append (flags f n) (f n ∷ []) ∙ omega (arith, length-flags f n)

index-front : (xs : List Bool) (ys : List Bool) (i : ℕ) → i < length xs → slice_index_or (xs ++ ys) i false ≡ slice_index_or xs i false
index-front [] ys i h = absurd (omega (arith, h))
index-front (x ∷ xs) ys zero h = refl
index-front (x ∷ xs) ys (suc i) h = index-front xs ys i (omega (arith, h))

index-last : (xs : List Bool) (y : Bool) → slice_index_or (xs ++ y ∷ []) (length xs) false ≡ y
index-last [] y = refl
index-last (x ∷ xs) y = index-last xs y

pub flag_at : (f : ℕ → Bool) (n i : ℕ) → i < n → slice_index_or (flags f n) i false ≡ f i
flag_at f zero i h = absurd (omega (arith, h))
flag_at f (suc n) i h = by_case (last_or i n (omega (arith, h))) (flag_at f n i)
  where
    last_or : (i n : ℕ) → i ≤ n → (i < n) ⊎ (i ≡ n)
    last_or zero zero h = inr refl
    last_or zero (suc n) h = inl (omega arith)
    last_or (suc i) zero h = absurd (omega (arith, h))
    last_or (suc i) (suc n) h = later (last_or i n (omega (arith, h)))
      where
        later : (i < n) ⊎ (i ≡ n) → (suc i < suc n) ⊎ (suc i ≡ suc n)
        later (inl k) = inl (omega (arith, k))
        later (inr k) = inr (ap suc k)

    by_case : (i < n) ⊎ (i ≡ n) → (i < n → slice_index_or (flags f n) i false ≡ f i) → slice_index_or (flags f n ++ f n ∷ []) i false ≡ f i
    by_case (inl k) rec = index-front (flags f n) (f n ∷ []) i (omega (arith, k, length-flags f n)) ∙ rec k
    by_case (inr k) rec = ap (λ m. slice_index_or (flags f n ++ f n ∷ []) m false) (k ∙ sym (length-flags f n)) ∙ index-last (flags f n) (f n) ∙ ap f (sym k)

pub or_left : (a b : Bool) → (a || b) ≡ false → a ≡ false
or_left true b h = cc
or_left false b h = refl

pub or_right : (a b : Bool) → (a || b) ≡ false → b ≡ false
or_right true b h = cc
or_right false b h = h

-- a token that begins with another byte doesn't begin the text
pub not_begun : (p : List ℕ) (b : ℕ) (t : List ℕ) → (p ≡ [] → ⊥) → is_first_of b p ≡ false → begins p (b ∷ t) ≡ false
not_begun [] b t some h = absurd (some refl)
not_begun (x ∷ p) b t some h = ap (λ y. y && begins p t) (turned b x h)
  where
    turned : (b x : ℕ) → (b == x) ≡ false → nat_eq x b ≡ false
    turned b x h = by_test (nat_eq x b) refl
      where
        by_test : (y : Bool) → nat_eq x b ≡ y → y ≡ false
        by_test true e = let same : x ≡ b = (Decides-eqb x b).0 e in let back : (b == x) ≡ true = (Decides-eqb b x).1 (sym same) in cc
        by_test false e = refl

pub token_some : (p : List ℕ) → is_token p ≡ true → p ≡ [] → ⊥
token_some [] h e = cc
token_some (x ∷ p) h e = cc

none_opened : (ps : List Pair) (b : ℕ) (t : List ℕ) → list_all is_pair ps ≡ true → begins_opener ps b ≡ false → opened ps (b ∷ t) ≡ None
none_opened [] b t s h = refl
none_opened (p ∷ ps) b t s h =
    let opener = and_left (is_token p.opener) (is_token p.closer) (and_left (is_pair p) (list_all is_pair ps) s) in
    ap (λ y. cond y (Some p) (opened ps (b ∷ t))) (not_begun p.opener b t (token_some p.opener opener) (or_left (is_first_of b p.opener) (begins_opener ps b) h))
    ∙ none_opened ps b t (and_right (is_pair p) (list_all is_pair ps) s) (or_right (is_first_of b p.opener) (begins_opener ps b) h)

pub none_begins : (ts : List (List ℕ)) (b : ℕ) (t : List ℕ) → list_all is_token ts ≡ true → list_any (is_first_of b) ts ≡ false → any_begins ts (b ∷ t) ≡ false
none_begins [] b t s h = refl
none_begins (p ∷ ts) b t s h =
    ap (λ y. y || any_begins ts (b ∷ t)) (not_begun p b t (token_some p (and_left (is_token p) (list_all is_token ts) s)) (or_left (is_first_of b p) (list_any (is_first_of b) ts) h))
    ∙ none_begins ts b t (and_right (is_token p) (list_all is_token ts) s) (or_right (is_first_of b p) (list_any (is_first_of b) ts) h)

no_escape_at : (r : Row) (b : ℕ) (t : List ℕ) → (b == 92) ≡ false → is_escape r (b ∷ t) ≡ false
no_escape_at r b t h = ap (λ y. y && (begins (92 ∷ []) t || is_some (opened r.quotes t))) h

in_comment : (r : Row) (s : IsSound r) (b : ℕ) (t : List ℕ) → begins_in_comment r b ≡ false → (closer : List ℕ) → begins closer (b ∷ t) ≡ false → choice_in_comment r closer (b ∷ t) ≡ takes_byte
in_comment r s b t h closer e =
    let h1 = or_right (b == 92) _ h in
    let no_multi_line : opened r.multi_line_comments (b ∷ t) ≡ None = none_opened r.multi_line_comments b t s.multi_line_comments (or_left (begins_opener r.multi_line_comments b) _ h1) in
    let no_nested : opened r.nested_comments (b ∷ t) ≡ None = none_opened r.nested_comments b t s.nested_comments (or_right (begins_opener r.multi_line_comments b) _ h1) in
    ap
    (λ y. cond y escapes (cond (begins closer (b ∷ t)) closes
    (or_else (opened r.multi_line_comments (b ∷ t)) (met_in_comment r)
    (or_else (opened r.nested_comments (b ∷ t)) (opens MultiLineComment) takes_byte))))
    (no_escape_at r b t (or_left (b == 92) _ h))
    ∙ ap (λ y. cond y closes (or_else (opened r.multi_line_comments (b ∷ t)) (met_in_comment r) (or_else (opened r.nested_comments (b ∷ t)) (opens MultiLineComment) takes_byte))) e
    ∙ ap (λ o. or_else o (met_in_comment r) (or_else (opened r.nested_comments (b ∷ t)) (opens MultiLineComment) takes_byte)) no_multi_line
    ∙ ap (λ o. or_else o (opens MultiLineComment) takes_byte) no_nested

module _ (r : Row) (s : IsSound r) (b : ℕ) (t : List ℕ) (h : begins_choice r b ≡ false) where
  slash : (b == 92) ≡ false
  slash = or_left (b == 92) _ h

  h1 : (begins_opener r.quotes b
      || (begins_opener r.verbatim_quotes b
      || (begins_opener r.doc_quotes b
      || (begins_opener r.multi_line_comments b
      || (begins_opener r.nested_comments b
      || list_any (is_first_of b) r.line_comment)))))
      ≡ false
  h1 = or_right (b == 92) _ h

  no_escape : is_escape r (b ∷ t) ≡ false
  no_escape = no_escape_at r b t slash

  no_quote : opened r.quotes (b ∷ t) ≡ None
  no_quote = none_opened r.quotes b t s.quotes (or_left (begins_opener r.quotes b) _ h1)

  h2 : (begins_opener r.verbatim_quotes b
      || (begins_opener r.doc_quotes b
      || (begins_opener r.multi_line_comments b
      || (begins_opener r.nested_comments b || list_any (is_first_of b) r.line_comment))))
      ≡ false
  h2 = or_right (begins_opener r.quotes b) _ h1

  h3 : (begins_opener r.doc_quotes b || (begins_opener r.multi_line_comments b || (begins_opener r.nested_comments b || list_any (is_first_of b) r.line_comment))) ≡ false
  h3 = or_right (begins_opener r.verbatim_quotes b) _ h2

  h4 : (begins_opener r.multi_line_comments b || (begins_opener r.nested_comments b || list_any (is_first_of b) r.line_comment)) ≡ false
  h4 = or_right (begins_opener r.doc_quotes b) _ h3

  h5 : (begins_opener r.nested_comments b || list_any (is_first_of b) r.line_comment) ≡ false
  h5 = or_right (begins_opener r.multi_line_comments b) _ h4

  no_multi_line : opened r.multi_line_comments (b ∷ t) ≡ None
  no_multi_line = none_opened r.multi_line_comments b t s.multi_line_comments (or_left (begins_opener r.multi_line_comments b) _ h4)

  no_nested : opened r.nested_comments (b ∷ t) ≡ None
  no_nested = none_opened r.nested_comments b t s.nested_comments (or_left (begins_opener r.nested_comments b) _ h5)

  in_plain : (o : Option Block) → o ≡ None → choice_in_plain r o (b ∷ t) ≡ takes_byte
  in_plain o e =
      let doc : opened r.doc_quotes (b ∷ t) ≡ None = none_opened r.doc_quotes b t s.doc_quotes (or_left (begins_opener r.doc_quotes b) _ h3) in
      let verbatim : opened r.verbatim_quotes (b ∷ t) ≡ None = none_opened r.verbatim_quotes b t s.verbatim_quotes (or_left (begins_opener r.verbatim_quotes b) _ h2) in
      let line : any_begins r.line_comment (b ∷ t) ≡ false = none_begins r.line_comment b t s.line_comment (or_right (begins_opener r.nested_comments b) _ h5) in
      rw (no_escape, e, doc, verbatim, no_quote, no_multi_line, no_nested, line) refl

-- a byte that is none of two, where each is searched for twice
pub none_of_two : (a c b : ℕ) → is_one_of (a ∷ c ∷ a ∷ c ∷ []) b ≡ false → ((b == c) ≡ false) × ((b == a) ≡ false)
none_of_two a c b h = by_tests (b == a) (b == c) h
  where
    by_tests : (x y : Bool) → cond x true (cond y true (cond x true (cond y true false))) ≡ false → (y ≡ false) × (x ≡ false)
    by_tests true y h = cc
    by_tests false true h = cc
    by_tests false false h = (refl, refl)

-- in a string a byte that is no backslash stands for itself, where the closer doesn't stand there
in_string : (r : Row) (b : ℕ) (t : List ℕ) → (b == 92) ≡ false → (verbatim : Bool) (closer : List ℕ) → begins closer (b ∷ t) ≡ false → choice_in_string r verbatim closer (b ∷ t) ≡ takes_byte
in_string r b t h true closer e = ap (λ y. cond y closes (cond false escapes takes_byte)) e
in_string r b t h false closer e =
    ap (λ y. cond y closes (cond (is_escape r (b ∷ t)) escapes takes_byte)) e
    ∙ ap (λ y. cond y escapes takes_byte) (ap (λ y. y && (begins (92 ∷ []) t || is_some (opened r.quotes t))) h)

-- by the matchers no choice begins at the byte
pub none_begun : (r : Row) (b : ℕ) (m : Matchers) → m ≡ matchers_of r → BeginsNone m b → begins_choice r b ≡ false
none_begun r b m is h = sym (flag_at (begins_choice r) 256 b h.small) ∙ ap (λ (n : Matchers). slice_index_or n.begins b false) (sym is) ∙ h.outside

pub none_begun_in_comment : (r : Row) (b : ℕ) (m : Matchers) → m ≡ matchers_of r → IsOutside m.begins_in_comment b → begins_in_comment r b ≡ false
none_begun_in_comment r b m is h = sym (flag_at (begins_in_comment r) 256 b h.small) ∙ ap (λ (n : Matchers). slice_index_or n.begins_in_comment b false) (sym is) ∙ h.outside

pub no_comment_begun : (r : Row) (b : ℕ) (m : Matchers) → m ≡ matchers_of r → IsOutside m.begins_comment b → begins_comment r b ≡ false
no_comment_begun r b m is h = sym (flag_at (begins_comment r) 256 b h.small) ∙ ap (λ (n : Matchers). slice_index_or n.begins_comment b false) (sym is) ∙ h.outside

-- in an item, where nothing but its closer can begin at the byte, and that doesn't stand there
pub byte_within : (r : Row) (s : IsSound r) (i : Enclosure) (o : Option Block) (b : ℕ) (u : List ℕ)
    (m : Matchers)
    → u ≡ b ∷ drop 1 u → m ≡ matchers_of r → BeginsNoneWithin m i.kind b → begins i.closer u ≡ false
    → choice r (Some i) o u ≡ takes_byte
unfolding choice
byte_within r s i o b u m is known h none = ap (choice r (Some i) o) is ∙ by_kind i.kind i.closer h (ap (begins i.closer) (sym is) ∙ none)
  where
    by_kind : (k : ItemKind) (closer : List ℕ) → BeginsNoneWithin m k b → begins closer (b ∷ drop 1 u) ≡ false → choice_within r k closer (b ∷ drop 1 u) ≡ takes_byte
    by_kind DocString closer h e = in_string r b (drop 1 u) h false closer e
    by_kind VerbatimString closer h e = in_string r b (drop 1 u) h true closer e
    by_kind OrdinaryString closer h e = in_string r b (drop 1 u) h false closer e
    by_kind MultiLineComment closer h e = in_comment r s b (drop 1 u) (none_begun_in_comment r b m known h) closer e

pub plain_byte : (r : Row) (s : IsSound r) (mode : Mode) (o : Option Block) (b : ℕ) (u : List ℕ)
    (m : Matchers)
    → u ≡ b ∷ drop 1 u → m ≡ matchers_of r → IsPlainByte m mode b → (mode ≡ None → o ≡ None)
    → choice r mode o u ≡ takes_byte
unfolding choice
plain_byte r s mode o b u m e is h none = by_mode mode h none
  where
    by_mode : (mode : Mode) → IsPlainByte m mode b → (mode ≡ None → o ≡ None) → choice r mode o u ≡ takes_byte
    by_mode None h none = ap (choice r None o) e ∙ in_plain r s b (drop 1 u) (none_begun r b m is h) o (none refl)
    by_mode (Some i) h none = byte_within r s i o b u m e is h.0 (ap (begins i.closer) e ∙ not_begun i.closer b (drop 1 u) h.2 h.1)

-- the byte at a place of a text, and the bytes behind it
text_here : (text : List ℕ) (at : ℕ) → at < length text → drop at text ≡ get_or text at 0 ∷ drop 1 (drop at text)
text_here text at some =
    let one : suc at ≡ at + 1 = omega arith in
    drop-cons text at 0 some ∙ ap (λ n. get_or text at 0 ∷ drop n text) one ∙ ap (λ w. get_or text at 0 ∷ w) (sym (drop-drop 1 at text))

pub byte_within_at : (r : Row) (s : IsSound r) (i : Enclosure) (o : Option Block) (text : List ℕ)
    (at : ℕ) (m : Matchers)
    → m ≡ matchers_of r → at < length text → BeginsNoneWithin m i.kind (get_or text at 0)
    → begins i.closer (drop at text) ≡ false → choice r (Some i) o (drop at text) ≡ takes_byte
byte_within_at r s i o text at m known some h none = byte_within r s i o (get_or text at 0) (drop at text) m (text_here text at some) known h none

-- the same at a place of a text
pub plain_byte_at : (r : Row) (s : IsSound r) (mode : Mode) (o : Option Block) (text : List ℕ)
    (at : ℕ) (m : Matchers)
    → m ≡ matchers_of r → at < length text → IsPlainByte m mode (get_or text at 0)
    → (mode ≡ None → o ≡ None) → choice r mode o (drop at text) ≡ takes_byte
plain_byte_at r s mode o text at m e some h none = plain_byte r s mode o (get_or text at 0) (drop at text) m (text_here text at some) e h none
