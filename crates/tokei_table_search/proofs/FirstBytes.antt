-- A search for some bytes by searches for up to three bytes, and the first bytes of openers.
use Rattle.std.proofs.Common.{◌≡◌, ℕ, ◌+◌, ◌-◌, ◌<◌, ◌≤◌, Bool, true, false, ◌||◌, ◌==◌, cond, List, [], ◌∷◌, ◌++◌}
use Rattle.std.proofs.Common.{length, take, drop, get_or, Option, None, Some, refl, sym, ◌∙◌, ap, arith, inl, inr}
use Rattle.std.proofs.Common.{String, Global, string_bytes, ◌⊎◌}
use Rattle.std.proofs.lemmas.Bool.{cases_lt}
use Rattle.std.proofs.lemmas.Bool.Decides.{Decides-eqb}
use Rattle.std.proofs.lemmas.List.{take_rest, take_more, map-append, get_or-take, get_or-drop, length-take, length-drop}
use Rattle.memchr.specs.Find.{IsFirstByte, is_byte, is_byte2, is_byte3}
use Rattle.tokei_table_row.specs.RowOf.{tokens_of}
use Rattle.tokei_table_row.specs.FirstOpener.{is_first_of, is_first}
use Rattle.tokei_bytes.specs.OneOf.{is_one_of}

-- a search for another test, which answers the same at each byte of the text
pub same_first : (p q : ℕ → Bool) (t : List ℕ) (r : Option ℕ)
    → ((k : ℕ) → k < length t → p (get_or t k 0) ≡ q (get_or t k 0)) → IsFirstByte p t r → IsFirstByte q t r
same_first p q t None same f = λ k l m y. f k l m (same k m ∙ y)
same_first p q t (Some n) same f = (
  record {
    low = f.0.low;
    high = f.0.high;
    before =
        λ k l m y. f.0.before k l m (same k (omega (arith, m, f.0.high)) ∙ y);
  },
  sym (same n f.0.high) ∙ f.1,
)

-- a search of the part of a text from one place up to another
pub part_reads : (t : List ℕ) (i m k : ℕ) → i ≤ k → k < i + m → get_or (take m (drop i t)) (k - i) 0 ≡ get_or t k 0
part_reads t i m k g l =
    let at : i + (k - i) ≡ k = omega (arith, g) in
    get_or-take m (drop i t) (k - i) 0 (omega (arith, g, l)) ∙ get_or-drop i t (k - i) 0 ∙ ap (λ j. get_or t j 0) at

pub part_len : (t : List ℕ) (i e : ℕ) → e ≤ length t → length (take (e - i) (drop i t)) ≡ e - i
part_len t i e l = omega (arith, length-take (e - i) (drop i t), length-drop i t, l)

module _ (p : ℕ → Bool) (t : List ℕ) (i e : ℕ) (order : i ≤ e) (fits : e ≤ length t)
    (none : (k : ℕ) → k < i → p (get_or t k 0) ≡ true → ⊥) where
  below : (n : ℕ) → i + n ≤ e → ((k : ℕ) → k < n → p (get_or (take (e - i) (drop i t)) k 0) ≡ true → ⊥) → (k : ℕ)
      → k < i + n → p (get_or t k 0) ≡ true → ⊥
  below n l f k h y = elim (cases_lt k i) [
    | inl a ↦ none k a y
    | inr a ↦ f (k - i) (omega (arith, a, h)) (ap p (part_reads t i (e - i) k a (omega (arith, order, l, h))) ∙ y)
  ]

  pub hit_in_part : (n : ℕ) → IsFirstByte p (take (e - i) (drop i t)) (Some n) → IsFirstByte p t (Some (i + n))
  hit_in_part n f =
      let l : i + n < e = omega (arith, f.0.high, part_len t i e fits) in
      let back : i + n - i ≡ n = omega arith in (
        record {
          low = omega arith;
          high = omega (arith, l, fits);
          before =
              λ k g h. below n (omega (arith, l)) (λ j a. f.0.before j (omega arith) a) k h;
        },
        ap p (sym (ap (λ j. get_or (take (e - i) (drop i t)) j 0) (sym back)
            ∙ part_reads t i (e - i) (i + n) (omega arith) (omega (arith, l, order)))) ∙ f.1,
      )

  pub none_in_part : IsFirstByte p (take (e - i) (drop i t)) None → (k : ℕ) → k < e → p (get_or t k 0) ≡ true → ⊥
  none_in_part f k h =
      below (e - i) (omega (arith, order)) (λ j a. f j (omega arith) (omega (arith, a, part_len t i e fits))) k
      (omega (arith, order, h))

-- a search for the bytes of two tests, one after the other
or_false : (a b : Bool) → (a ≡ true → ⊥) → (b ≡ true → ⊥) → (a || b) ≡ true → ⊥
or_false true b f g h = f refl
or_false false b f g h = g h

or_left : (a b : Bool) → a ≡ true → (a || b) ≡ true
or_left true b h = refl
or_left false b h = absurd (cc)

or_right : (a b : Bool) → b ≡ true → (a || b) ≡ true
or_right true b h = refl
or_right false b h = h

module _ (p q r : ℕ → Bool) (either : (x : ℕ) → r x ≡ (p x || q x)) (t : List ℕ) where
  neither : (k : ℕ) → (p (get_or t k 0) ≡ true → ⊥) → (q (get_or t k 0) ≡ true → ⊥) → r (get_or t k 0) ≡ true → ⊥
  neither k f g y = or_false (p (get_or t k 0)) (q (get_or t k 0)) f g (sym (either (get_or t k 0)) ∙ y)

  front : (n k : ℕ) → k < n → q (get_or t k 0) ≡ true → q (get_or (take n t) k 0) ≡ true
  front n k l y = ap q (get_or-take n t k 0 l) ∙ y

  nearer : (n m : ℕ) → IsFirstByte p t (Some n) → IsFirstByte q (take n t) (Some m) → IsFirstByte r t (Some m)
  nearer n m f g =
      let l : m < n = omega (arith, g.0.high, length-take n t) in (
        record {
          low = omega arith;
          high = omega (arith, l, f.0.high);
          before =
              λ k a h. neither k (f.0.before k a (omega (arith, h, l)))
              (λ y. g.0.before k a h (front n k (omega (arith, h, l)) y));
        },
        either (get_or t m 0) ∙ or_right (p (get_or t m 0)) (q (get_or t m 0))
            (ap q (sym (get_or-take n t m 0 l)) ∙ g.1),
      )

  not_nearer : (n : ℕ) → IsFirstByte p t (Some n) → IsFirstByte q (take n t) None → IsFirstByte r t (Some n)
  not_nearer n f g =
      let e : length (take n t) ≡ n = omega (arith, length-take n t, f.0.high) in (
        record {
          low = omega arith;
          high = f.0.high;
          before =
              λ k a h. neither k (f.0.before k a h) (λ y. g k a (omega (arith, h, e)) (front n k h y));
        },
        either (get_or t n 0) ∙ or_left (p (get_or t n 0)) (q (get_or t n 0)) f.1,
      )

  by_second : (s : Option ℕ) → IsFirstByte p t None → IsFirstByte q t s → IsFirstByte r t s
  by_second None f g = λ k a h. neither k (f k a h) (g k a h)
  by_second (Some n) f g = (
    record {
      low = g.0.low;
      high = g.0.high;
      before =
          λ k a h. neither k (f k a (omega (arith, h, g.0.high))) (g.0.before k a h);
    },
    either (get_or t n 0) ∙ or_right (p (get_or t n 0)) (q (get_or t n 0)) g.1,
  )

-- the same for the first three bytes of a list and the others
three_or_others : (bs : List ℕ) → 3 ≤ length bs → (x : ℕ)
    → is_one_of bs x ≡ (is_byte3 (get_or bs 0 0) (get_or bs 1 0) (get_or bs 2 0) x
    || is_one_of (take (length bs - 3) (drop 3 bs)) x)
three_or_others [] l x = absurd (omega (arith, l))
three_or_others (a ∷ []) l x = absurd (omega (arith, l))
three_or_others (a ∷ b ∷ []) l x = absurd (omega (arith, l))
three_or_others (a ∷ b ∷ c ∷ bs) l x =
    regroup (x == a) (x == b) (x == c) (is_one_of bs x)
    ∙ ap (λ s. is_byte3 a b c x || is_one_of s x) (sym (take_rest (a ∷ b ∷ c ∷ bs) 3))
  where
    regroup : (d e f g : Bool) → cond d true (cond e true (cond f true g)) ≡ (((d || e) || f) || g)
    regroup true e f g = refl
    regroup false true f g = refl
    regroup false false true g = refl
    regroup false false false g = refl

module _ (bs t : List ℕ) (l : 3 ≤ length bs) where
  pub other_nearer : (n m : ℕ) → IsFirstByte (is_byte3 (get_or bs 0 0) (get_or bs 1 0) (get_or bs 2 0)) t (Some n)
      → IsFirstByte (is_one_of (take (length bs - 3) (drop 3 bs))) (take n t) (Some m)
      → IsFirstByte (is_one_of bs) t (Some m)
  other_nearer =
      nearer (is_byte3 (get_or bs 0 0) (get_or bs 1 0) (get_or bs 2 0)) (is_one_of (take (length bs - 3) (drop 3 bs)))
      (is_one_of bs) (three_or_others bs l) t

  pub none_nearer : (n : ℕ) → IsFirstByte (is_byte3 (get_or bs 0 0) (get_or bs 1 0) (get_or bs 2 0)) t (Some n)
      → IsFirstByte (is_one_of (take (length bs - 3) (drop 3 bs))) (take n t) None
      → IsFirstByte (is_one_of bs) t (Some n)
  none_nearer =
      not_nearer (is_byte3 (get_or bs 0 0) (get_or bs 1 0) (get_or bs 2 0))
      (is_one_of (take (length bs - 3) (drop 3 bs))) (is_one_of bs) (three_or_others bs l) t

  pub others_alone : (s : Option ℕ) → IsFirstByte (is_byte3 (get_or bs 0 0) (get_or bs 1 0) (get_or bs 2 0)) t None
      → IsFirstByte (is_one_of (take (length bs - 3) (drop 3 bs))) t s → IsFirstByte (is_one_of bs) t s
  others_alone =
      by_second (is_byte3 (get_or bs 0 0) (get_or bs 1 0) (get_or bs 2 0))
      (is_one_of (take (length bs - 3) (drop 3 bs))) (is_one_of bs) (three_or_others bs l) t

-- a search for one, two or three bytes is one for a list of them
as_cond : (a : Bool) → a ≡ cond a true false
as_cond true = refl
as_cond false = refl

or_cond : (a b c : Bool) → b ≡ c → (a || b) ≡ cond a true c
or_cond true b c e = refl
or_cond false b c e = e

pub one_byte : (bs t : List ℕ) (r : Option ℕ) → 1 ≤ length bs → length bs < 2
    → IsFirstByte (is_byte (get_or bs 0 0)) t r → IsFirstByte (is_one_of bs) t r
one_byte [] t r l m f = absurd (omega (arith, l))
one_byte (a ∷ []) t r l m f = same_first (is_byte a) (is_one_of (a ∷ [])) t r (λ k h. as_cond (get_or t k 0 == a)) f
one_byte (a ∷ b ∷ bs) t r l m f = absurd (omega (arith, m))

pub two_bytes : (bs t : List ℕ) (r : Option ℕ) → 2 ≤ length bs → length bs < 3
    → IsFirstByte (is_byte2 (get_or bs 0 0) (get_or bs 1 0)) t r → IsFirstByte (is_one_of bs) t r
two_bytes [] t r l m f = absurd (omega (arith, l))
two_bytes (a ∷ []) t r l m f = absurd (omega (arith, l))
two_bytes (a ∷ b ∷ []) t r l m f =
    same_first (is_byte2 a b) (is_one_of (a ∷ b ∷ [])) t r
    (λ k h. or_cond (get_or t k 0 == a) (get_or t k 0 == b) (cond (get_or t k 0 == b) true false)
    (as_cond (get_or t k 0 == b))) f
two_bytes (a ∷ b ∷ c ∷ bs) t r l m f = absurd (omega (arith, m))

or_or : (a b c : Bool) → ((a || b) || c) ≡ cond a true (cond b true (cond c true false))
or_or true b c = refl
or_or false b c = or_cond b c (cond c true false) (as_cond c)

pub three_bytes : (bs t : List ℕ) (r : Option ℕ) → 3 ≤ length bs → length bs < 4
    → IsFirstByte (is_byte3 (get_or bs 0 0) (get_or bs 1 0) (get_or bs 2 0)) t r → IsFirstByte (is_one_of bs) t r
three_bytes [] t r l m f = absurd (omega (arith, l))
three_bytes (a ∷ []) t r l m f = absurd (omega (arith, l))
three_bytes (a ∷ b ∷ []) t r l m f = absurd (omega (arith, l))
three_bytes (a ∷ b ∷ c ∷ []) t r l m f =
    same_first (is_byte3 a b c) (is_one_of (a ∷ b ∷ c ∷ [])) t r
    (λ k h. or_or (get_or t k 0 == a) (get_or t k 0 == b) (get_or t k 0 == c)) f
three_bytes (a ∷ b ∷ c ∷ d ∷ bs) t r l m f = absurd (omega (arith, m))

-- the first bytes after one more opener
pub is_first-none : (x : ℕ) → is_first [] x ≡ false
unfolding is_first
is_first-none x = refl

pub is_first-push : (os : List (List ℕ)) (o : List ℕ) (x : ℕ)
    → is_first (os ++ o ∷ []) x ≡ (is_first os x || is_first_of x o)
unfolding is_first
is_first-push [] o x = flip (is_first_of x o)
  where
    flip : (a : Bool) → (a || false) ≡ (false || a)
    flip true = refl
    flip false = refl
is_first-push (p ∷ os) o x =
    ap (λ r. is_first_of x p || r) (is_first-push os o x) ∙ assoc (is_first_of x p) (is_first os x) (is_first_of x o)
  where
    assoc : (a b c : Bool) → (a || (b || c)) ≡ ((a || b) || c)
    assoc true b c = refl
    assoc false b c = refl

push_step : (c d e f : Bool) → d ≡ (e || f) → cond c true d ≡ (cond c true e || f)
push_step true d e f h = refl
push_step false d e f h = h

pub is_one_of-push : (bs : List ℕ) (a x : ℕ) → is_one_of (bs ++ a ∷ []) x ≡ (is_one_of bs x || (x == a))
is_one_of-push [] a x = sym (as_cond (x == a))
is_one_of-push (b ∷ bs) a x =
    push_step (x == b) (is_one_of (bs ++ a ∷ []) x) (is_one_of bs x) (x == a) (is_one_of-push bs a x)

-- the bytes in slots after one more
or_either : (a b c : Bool) → (a ≡ true → c ≡ true) → (b ≡ true → c ≡ true) → (c ≡ true → (a ≡ true) ⊎ (b ≡ true)) → c ≡ (a || b)
or_either true b c f g h = f refl
or_either false true c f g h = g refl
or_either false false true f g h = elim (h refl) [ inl e ↦ absurd (cc) | inr e ↦ absurd (cc) ]
or_either false false false f g h = refl

pub or_none : (a : Bool) → a ≡ (a || false)
or_none true = refl
or_none false = refl

pub or_assoc : (a b c : Bool) → ((a || b) || c) ≡ (a || (b || c))
or_assoc true b c = refl
or_assoc false b c = refl

-- of the bytes that stand in tables, as the tests say: before all, now, and with one more of the list
pub put_more : (old so_far new : ℕ → Bool) (bytes : List ℕ) (i byte : ℕ) → i < length bytes → byte ≡ get_or bytes i 0
    → ((x : ℕ) → so_far x ≡ true → new x ≡ true) → new byte ≡ true
    → ((x : ℕ) → new x ≡ true → (so_far x ≡ true) ⊎ (x ≡ byte))
    → ((x : ℕ) → so_far x ≡ (old x || is_one_of (take i bytes) x))
    → (x : ℕ) → new x ≡ (old x || is_one_of (take (i + 1) bytes) x)
put_more old so_far new bytes i byte l here stays put only are x =
    or_either (so_far x) (x == byte) (new x) (stays x)
    (λ e. ap new ((Decides-eqb x byte).0 e) ∙ put)
    (λ h. elim (only x h) [ inl e ↦ inl e | inr e ↦ inr ((Decides-eqb x byte).1 e) ])
    ∙ ap (λ a. a || (x == byte)) (are x)
    ∙ or_assoc (old x) (is_one_of (take i bytes) x) (x == byte)
    ∙ ap (λ a. old x || a)
    (ap (λ b. is_one_of (take i bytes) x || (x == b)) here
    ∙ sym (is_one_of-push (take i bytes) (get_or bytes i 0) x)
    ∙ ap (λ bs. is_one_of bs x) (sym (take_more bytes i 0 l)))

pub put_none : (old : ℕ → Bool) (x : ℕ) → old x ≡ (old x || is_one_of [] x)
put_none old x = or_none (old x)

pub first_equals : (o : List ℕ) (x : ℕ) → 1 ≤ length o → (x == get_or o 0 0) ≡ is_first_of x o
first_equals [] x l = absurd (omega (arith, l))
first_equals (b ∷ o) x l = refl

pub tokens_more : (os : List (String Global)) (i : ℕ) (d : String Global) → i < length os
    → tokens_of (take (i + 1) os) ≡ tokens_of (take i os) ++ string_bytes (get_or os i d) ∷ []
tokens_more os i d l = ap tokens_of (take_more os i d l) ∙ map-append string_bytes (take i os) (get_or os i d ∷ [])
