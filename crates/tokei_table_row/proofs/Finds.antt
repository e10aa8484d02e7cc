-- A needle's places by the definitions of its search, and by those of the table.
use Rattle.std.proofs.Common.{◌≡◌, ℕ, suc, zero, ◌+◌, ◌<◌, ◌≤◌, Bool, true, false, ◌||◌, List, [], ◌∷◌, ◌++◌, length}
use Rattle.std.proofs.Common.{drop, get_or, Option, None, Some, is_some, refl, sym, ◌∙◌, ap, arith}
use Rattle.std.proofs.lemmas.Bool.Decides.{Decides-eqb}
use Rattle.std.proofs.lemmas.Slice.Eq.{starts_is}
use Rattle.std.proofs.lemmas.List.Prefix.{front_from_reads, front_reads, front_fits}
use Rattle.memchr.specs.Find.{OccursAt, FindsNeedle}
use Rattle.tokei_table_row.specs.Bytes.{begins}
use Rattle.tokei_table_row.specs.Slices.{stands_in, contains_slice}

begins_is : (needle text : List ℕ) → (begins needle text ≡ true → text ≡ needle ++ drop (length needle) text)
    × ((rest : List ℕ) → text ≡ needle ++ rest → begins needle text ≡ true)
begins_is needle text = starts_is Decides-eqb text needle (begins needle text) refl

-- the needle stands at the front
pub begins-occurs : (needle text : List ℕ) → begins needle text ≡ true → OccursAt text needle 0
begins-occurs needle text h =
    let e = (begins_is needle text).0 h in
    record {
      fits = omega (arith, front_fits text needle (drop (length needle) text) e);
      reads =
          λ j l. ap (λ i. get_or text i 0) (omega arith) ∙ front_reads 0 text needle (drop (length needle) text) e j l;
    }

pub occurs-begins : (needle text : List ℕ) → OccursAt text needle 0 → begins needle text ≡ true
occurs-begins needle text o =
    let l : length needle ≤ length text = omega (arith, o.fits) in
    (begins_is needle text).1 (drop (length needle) text)
    (front_from_reads 0 text needle l (λ i h. ap (λ j. get_or text j 0) (omega arith) ∙ o.reads i h))

-- and further on
occurs-later : (needle t : List ℕ) (b k : ℕ) → OccursAt t needle k → OccursAt (b ∷ t) needle (suc k)
occurs-later needle t b k o =
    record { fits = omega (arith, o.fits); reads = λ j l. ap (λ i. get_or (b ∷ t) i 0) (shift j) ∙ o.reads j l }
  where
    shift : (j : ℕ) → suc k + j ≡ suc (k + j)
    shift j = omega arith

occurs-tail : (needle t : List ℕ) (b k : ℕ) → OccursAt (b ∷ t) needle (suc k) → OccursAt t needle k
occurs-tail needle t b k o =
    record { fits = omega (arith, o.fits); reads = λ j l. ap (λ i. get_or (b ∷ t) i 0) (shift j) ∙ o.reads j l }
  where
    shift : (j : ℕ) → suc (k + j) ≡ suc k + j
    shift j = omega arith

or_left : (x y : Bool) → x ≡ true → (x || y) ≡ true
or_left true y h = refl
or_left false y h = cc

or_right : (x y : Bool) → y ≡ true → (x || y) ≡ true
or_right true y h = refl
or_right false y h = h

pub occurs-stands : (needle t : List ℕ) (k : ℕ) → 0 < length needle → OccursAt t needle k → stands_in needle t ≡ true
occurs-stands needle [] k l o = absurd (omega (arith, o.fits))
occurs-stands needle (b ∷ t) zero l o =
    or_left (begins needle (b ∷ t)) (stands_in needle t) (occurs-begins needle (b ∷ t) o)
occurs-stands needle (b ∷ t) (suc k) l o =
    or_right (begins needle (b ∷ t)) (stands_in needle t) (occurs-stands needle t k l (occurs-tail needle t b k o))

pub stands-occurs : (needle t : List ℕ) → stands_in needle t ≡ true → (k : ℕ) × OccursAt t needle k
stands-occurs needle [] h = absurd (cc)
stands-occurs needle (b ∷ t) h = by (begins needle (b ∷ t)) refl h (stands-occurs needle t)
  where
    by : (x : Bool) → begins needle (b ∷ t) ≡ x → (x || stands_in needle t) ≡ true
        → (stands_in needle t ≡ true → (k : ℕ) × OccursAt t needle k) → (k : ℕ) × OccursAt (b ∷ t) needle k
    by true e h rest = (0, begins-occurs needle (b ∷ t) e)
    by false e h rest = let r = rest h in (suc r.0, occurs-later needle t b r.0 r.1)

not_true : (x : Bool) → (x ≡ true → ⊥) → false ≡ x
not_true true un = absurd (un refl)
not_true false un = refl

pub finds_slice : (text needle : List ℕ) (r : Option ℕ) → FindsNeedle text needle 0 r → 0 < length needle
    → is_some r ≡ contains_slice text needle
finds_slice text [] r f l = absurd (omega (arith, l))
finds_slice text (n ∷ needle) None f l =
    not_true (stands_in (n ∷ needle) text) (λ h. let o = stands-occurs (n ∷ needle) text h in
    f o.0 (omega arith) (omega (arith, o.1.fits)) o.1)
finds_slice text (n ∷ needle) (Some k) f l = sym (occurs-stands (n ∷ needle) text k l f.1)
