-- A text without a backslash has no escapes, and stands for itself.
use Rattle.std.proofs.Common.{◌≡◌, ℕ, ◌==◌, List, [], ◌∷◌, Bool, true, false, ◌||◌, refl, sym, ap, ◌∙◌, true≢false}
use Rattle.std.proofs.lemmas.Bool.Decides.{Decides-eqb}
use Rattle.std.proofs.lemmas.List.Folds.{list_any-append}
use Rattle.std.proofs.lemmas.Str.{chars-encodes}
use Rattle.std.specs.List.{list_any}
use Rattle.std.specs.Str.{chars, IsUtf8}
use lib.Utf8.{encode, encodes}
use Rattle.tokei_table_json.specs.Escapes.{backslash, is_escaped, is_escaped_text, unescaped, unescaped_text}

abbrev marks : ℕ → Bool
marks b = b == backslash

left : (a b : Bool) → (a || b) ≡ false → a ≡ false
left true b e = absurd (true≢false e)
left false b e = refl

right : (a b : Bool) → (a || b) ≡ false → b ≡ false
right true b e = absurd (true≢false e)
right false b e = e

-- the bytes of a backslash are that one
marked : (c : ℕ) → c ≡ backslash → list_any marks (encode c) ≡ true
unfolding encode
marked c e = ap (λ x. list_any marks (encode x)) e

first_is : (c : ℕ) (cs : List ℕ) → list_any marks (encodes (c ∷ cs)) ≡ false → (b : Bool) → (c == backslash) ≡ b
    → b ≡ false
first_is c cs n true e =
    absurd (true≢false (sym (marked c ((Decides-eqb c backslash).0 e))
    ∙ left (list_any marks (encode c)) (list_any marks (encodes cs)) (sym (list_any-append marks (encode c) (encodes cs)) ∙ n)))
first_is c cs n false e = refl

later : (c : ℕ) (cs : List ℕ) → list_any marks (encodes (c ∷ cs)) ≡ false → list_any marks (encodes cs) ≡ false
later c cs n =
    right (list_any marks (encode c)) (list_any marks (encodes cs)) (sym (list_any-append marks (encode c) (encodes cs)) ∙ n)

all_escaped : (cs : List ℕ) → list_any marks (encodes cs) ≡ false → is_escaped cs ≡ true
all_escaped [] n = refl
all_escaped (c ∷ cs) n =
    let no = first_is c cs n (c == backslash) refl in
    rw no (all_escaped cs (later c cs n))

all_kept : (cs : List ℕ) → list_any marks (encodes cs) ≡ false → unescaped cs ≡ cs
all_kept [] n = refl
all_kept (c ∷ cs) n =
    let no = first_is c cs n (c == backslash) refl in
    rw no (ap (λ ds. c ∷ ds) (all_kept cs (later c cs n)))

pub no_escapes : (bs : List ℕ) → IsUtf8 bs → list_any (λ b. b == backslash) bs ≡ false → is_escaped_text bs ≡ true
no_escapes bs u n =
    ap is_escaped (ap chars (sym u.1.1) ∙ chars-encodes u.0 u.1.0)
    ∙ all_escaped u.0 (ap (list_any marks) u.1.1 ∙ n)

pub stands_for_itself : (bs : List ℕ) → IsUtf8 bs → list_any (λ b. b == backslash) bs ≡ false
    → bs ≡ unescaped_text bs
stands_for_itself bs u n =
    sym (ap (λ cs. encodes (unescaped cs)) (ap chars (sym u.1.1) ∙ chars-encodes u.0 u.1.0)
    ∙ ap encodes (all_kept u.0 (ap (list_any marks) u.1.1 ∙ n)) ∙ u.1.1)
