-- Each choice keeps within its line.
use Rattle.std.proofs.Common.{◌≡◌, ℕ, ◌<◌, ◌≤◌, ◌==◌, Bool, true, false, not, ◌&&◌, ◌||◌, cond, List, [], ◌∷◌, length, take, Option, None, Some, is_some, find, nat_eq, refl, sym, ◌∙◌, ap, arith}
use Rattle.std.specs.Prelude.{⊤}
use Rattle.std.specs.List.{list_all}
use Rattle.std.specs.Cmp.Lexicographic.{pointwise}
use Rattle.std.proofs.lemmas.Bool.Decides.{Decides-eqb}
use Rattle.tokei_parts.proofs.Cuts.{no_newline_first, no_newline_later}
use Rattle.tokei_parts.specs.Choice.{Choice, choice, opened, any_begins, is_escape, met_in_comment, choice_in_string, choice_in_comment, choice_in_plain, choice_within, or_else, has_pair}
use Rattle.tokei_parts.specs.Choice.Choice.{closes, escapes, child_opens, opens, passes_over, begins_line_comment, takes_byte}
use Rattle.tokei_parts.specs.Derivation.{closer_of}
use Rattle.tokei_parts.specs.Items.{Block, Enclosure, Mode}
use Rattle.tokei_parts.specs.declared.items.ItemKind.{ItemKind}
use Rattle.tokei_parts.specs.declared.items.ItemKind.TheVariants.{DocString, VerbatimString, OrdinaryString, MultiLineComment}
use Rattle.tokei_table.specs.Bytes.{begins, all_blank, line_len}
use Rattle.tokei_table.specs.Row.{Row, Pair}
use Rattle.tokei_table.specs.Sound.{no_newline, is_token, is_pair, IsSound}

pub and_left : (a b : Bool) → (a && b) ≡ true → a ≡ true
and_left true b h = refl
and_left false b h = cc

pub and_right : (a b : Bool) → (a && b) ≡ true → b ≡ true
and_right true b h = h
and_right false b h = cc

-- n bytes at the front of u that stand in one line and read p
pub record IsLocal (p u : List ℕ) : Type 0 where
  pub some : 0 < length p
  pub one_line : no_newline p ≡ true
  pub fits : length p ≤ line_len u
  pub reads : p ≡ take (length p) u

-- what begins the text in one line keeps within it
pub begins_within : (p u : List ℕ) → no_newline p ≡ true → begins p u ≡ true → (length p ≤ line_len u) × (p ≡ take (length p) u)
begins_within [] u h b = (omega arith, refl)
begins_within (x ∷ p) [] h b = cc
begins_within (x ∷ p) (y ∷ u) h b =
    let same : x ≡ y = (Decides-eqb x y).0 (and_left (nat_eq x y) (pointwise nat_eq p (take (length p) u)) b) in
    let rec = begins_within p u (no_newline_later x p h) (and_right (nat_eq x y) (pointwise nat_eq p (take (length p) u)) b) in
    let no : (y == 10) ≡ false = rw same at (no_newline_first x p h) in
    (rw no (omega (arith, rec.0)), cc)

pub token_local : (p u : List ℕ) → is_token p ≡ true → begins p u ≡ true → IsLocal p u
token_local [] u h b = cc
token_local (x ∷ p) u h b =
    let one_line : no_newline (x ∷ p) ≡ true = and_left (no_newline (x ∷ p)) (not (all_blank (x ∷ p))) h in
    let both = begins_within (x ∷ p) u one_line b in
    record { some = omega arith; one_line = one_line; fits = both.0; reads = both.1 }

-- what a search finds passes the test, and what holds of each element
found_by : {A : Type 0} (test each : A → Bool) (y : A) (r : Option A) (x : A) (b : Bool)
    → test y ≡ b → each y ≡ true → (r ≡ Some x → (each x ≡ true) × (test x ≡ true))
    → cond b (Some y) r ≡ Some x → (each x ≡ true) × (test x ≡ true)
found_by test each y r x true t h rec e =
    let same : y ≡ x = cc in
    (ap each (sym same) ∙ h, ap test (sym same) ∙ t)
found_by test each y r x false t h rec e = rec e

pub found : {A : Type 0} (test each : A → Bool) (xs : List A) (x : A) → list_all each xs ≡ true → find test xs ≡ Some x → (each x ≡ true) × (test x ≡ true)
found test each [] x h e = cc
found test each (y ∷ ys) x h e =
    found_by test each y (find test ys) x (test y) refl (and_left (each y) (list_all each ys) h)
    (found test each ys x (and_right (each y) (list_all each ys) h)) e

pub opened_pair : (ps : List Pair) (u : List ℕ) (p : Pair) → list_all is_pair ps ≡ true → opened ps u ≡ Some p → IsLocal p.opener u × (is_token p.closer ≡ true)
opened_pair ps u p h e =
    let both = found (λ (q : Pair). begins q.opener u) is_pair ps p h e in (
      token_local p.opener u (and_left (is_token p.opener) (is_token p.closer) both.0) both.1,
      and_right (is_token p.opener) (is_token p.closer) both.0,
    )

-- what the choice takes stands in one line; o is the child that may open
abbrev pub FitsIn : Option Block → Mode → List ℕ → Choice → Type 0
FitsIn o m u closes = IsLocal (closer_of m) u
FitsIn o m u escapes = 2 ≤ line_len u
FitsIn o m u (child_opens k) = o ≡ Some k
FitsIn o m u (opens k p) = IsLocal p.opener u × (is_token p.closer ≡ true)
FitsIn o m u (passes_over p) = IsLocal p.opener u
FitsIn o m u begins_line_comment = 0 < line_len u
FitsIn o m u takes_byte = ⊤

module _ (o : Option Block) (m : Mode) (u : List ℕ) where
  if_fits : (b : Bool) (x y : Choice) → (b ≡ true → FitsIn o m u x) → FitsIn o m u y → FitsIn o m u (cond b x y)
  if_fits true x y f h = f refl
  if_fits false x y f h = h

  some_fits : (q : Option Pair) (f : Pair → Choice) (y : Choice) → ((p : Pair) → q ≡ Some p → FitsIn o m u (f p)) → FitsIn o m u y → FitsIn o m u (or_else q f y)
  some_fits None f y h k = k
  some_fits (Some p) f y h k = h p refl

block_fits : (o : Option Block) (m : Mode) (u : List ℕ) (y : Choice) → FitsIn o m u y → FitsIn o m u (or_else o child_opens y)
block_fits None m u y k = k
block_fits (Some b) m u y k = refl

-- an escape is two bytes of one line
quote_opens : (ps : List Pair) (u : List ℕ) → list_all is_pair ps ≡ true → is_some (opened ps u) ≡ true → 1 ≤ line_len u
quote_opens ps u h e = by_case (opened ps u) refl e
  where
    by_case : (o : Option Pair) → opened ps u ≡ o → is_some o ≡ true → 1 ≤ line_len u
    by_case None f s = cc
    by_case (Some p) f s = let k = (opened_pair ps u p h f).0 in omega (arith, k.some, k.fits)

escape_second : (b : Bool) (ps : List Pair) (u : List ℕ) → list_all is_pair ps ≡ true → b ≡ begins (92 ∷ []) u → (b || is_some (opened ps u)) ≡ true → 1 ≤ line_len u
escape_second true ps u h f e = (begins_within (92 ∷ []) u refl (sym f)).0
escape_second false ps u h f e = quote_opens ps u h e

pub escape_fits : (g : Row) (u : List ℕ) → IsSound g → is_escape g u ≡ true → 2 ≤ line_len u
escape_fits g [] s e = cc
escape_fits g (b ∷ u) s e =
    let slash : b ≡ 92 = (Decides-eqb b 92).0 (and_left (b == 92) (begins (92 ∷ []) u || is_some (opened g.quotes u)) e) in
    let later : 1 ≤ line_len u = escape_second (begins (92 ∷ []) u) g.quotes u s.quotes refl (and_right (b == 92) (begins (92 ∷ []) u || is_some (opened g.quotes u)) e) in
    rw slash (omega (arith, later))

string_fits : (g : Row) (o : Option Block) (h : Enclosure) (verbatim : Bool) (u : List ℕ) → IsSound g → is_token h.closer ≡ true → FitsIn o (Some h) u (choice_in_string g verbatim h.closer u)
string_fits g o h verbatim u s t =
    if_fits o (Some h) u (begins h.closer u) closes (cond (cond verbatim false (is_escape g u)) escapes takes_byte) (λ e. token_local h.closer u t e)
    (if_fits o (Some h) u (cond verbatim false (is_escape g u)) escapes takes_byte (λ e. escape_fits g u s (not_verbatim verbatim (is_escape g u) e)) tt)
  where
    not_verbatim : (v x : Bool) → cond v false x ≡ true → x ≡ true
    not_verbatim true x e = cc
    not_verbatim false x e = e

met_fits : (g : Row) (o : Option Block) (m : Mode) (u : List ℕ) (p : Pair) → IsLocal p.opener u × (is_token p.closer ≡ true) → FitsIn o m u (met_in_comment g p)
met_fits g o m u p h = if_fits o m u (g.nested || has_pair g.nested_comments p) (opens MultiLineComment p) (passes_over p) (λ e. h) h.0

comment_fits : (g : Row) (o : Option Block) (h : Enclosure) (u : List ℕ) → IsSound g → is_token h.closer ≡ true → FitsIn o (Some h) u (choice_in_comment g h.closer u)
comment_fits g o h u s t =
    if_fits o (Some h) u (is_escape g u) escapes _ (λ e. escape_fits g u s e)
    (if_fits o (Some h) u (begins h.closer u) closes _ (λ e. token_local h.closer u t e)
    (some_fits o (Some h) u (opened g.multi_line_comments u) (met_in_comment g) _ (λ p e. met_fits g o (Some h) u p (opened_pair g.multi_line_comments u p s.multi_line_comments e))
    (some_fits o (Some h) u (opened g.nested_comments u) (opens MultiLineComment) takes_byte (λ p e. opened_pair g.nested_comments u p s.nested_comments e) tt)))

any_by : (b : Bool) (r : Bool) (P : Type 0) → (b ≡ true → P) → (r ≡ true → P) → (b || r) ≡ true → P
any_by true r P f h e = f refl
any_by false r P f h e = h e

any_local : (ts : List (List ℕ)) (u : List ℕ) → list_all is_token ts ≡ true → any_begins ts u ≡ true → 0 < line_len u
any_local [] u h e = cc
any_local (p ∷ ts) u h e = any_by (begins p u) (any_begins ts u) (0 < line_len u)
    (λ f. let k = token_local p u (and_left (is_token p) (list_all is_token ts) h) f in omega (arith, k.some, k.fits))
    (any_local ts u (and_right (is_token p) (list_all is_token ts) h)) e

plain_fits : (g : Row) (o : Option Block) (u : List ℕ) → IsSound g → FitsIn o None u (choice_in_plain g o u)
plain_fits g o u s =
    if_fits o None u (is_escape g u) escapes _ (λ e. escape_fits g u s e)
    (block_fits o None u _
    (some_fits o None u (opened g.doc_quotes u) (opens DocString) _ (λ p e. opened_pair g.doc_quotes u p s.doc_quotes e)
    (some_fits o None u (opened g.verbatim_quotes u) (opens VerbatimString) _ (λ p e. opened_pair g.verbatim_quotes u p s.verbatim_quotes e)
    (some_fits o None u (opened g.quotes u) (opens OrdinaryString) _ (λ p e. opened_pair g.quotes u p s.quotes e)
    (some_fits o None u (opened g.multi_line_comments u) (opens MultiLineComment) _ (λ p e. opened_pair g.multi_line_comments u p s.multi_line_comments e)
    (some_fits o None u (opened g.nested_comments u) (opens MultiLineComment) _ (λ p e. opened_pair g.nested_comments u p s.nested_comments e)
    (if_fits o None u (any_begins g.line_comment u) begins_line_comment takes_byte (λ e. any_local g.line_comment u s.line_comment e) tt)))))))

-- the closer of the item that holds the place is a token
abbrev pub IsClosed : Mode → Type 0
IsClosed None = ⊤
IsClosed (Some h) = is_token h.closer ≡ true

pub choice_fits : (g : Row) (o : Option Block) (m : Mode) (u : List ℕ) → IsSound g → IsClosed m → FitsIn o m u (choice g m o u)
unfolding choice
choice_fits g o None u s t = plain_fits g o u s
choice_fits g o (Some h) u s t = by_kind h.kind refl
  where
    by_kind : (k : ItemKind) → h.kind ≡ k → FitsIn o (Some h) u (choice_within g k h.closer u)
    by_kind DocString e = string_fits g o h false u s t
    by_kind VerbatimString e = string_fits g o h true u s t
    by_kind OrdinaryString e = string_fits g o h false u s t
    by_kind MultiLineComment e = comment_fits g o h u s t
