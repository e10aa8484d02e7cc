-- Where the openings that begin with a byte stand among all.
use Rattle.std.proofs.Common.{◌≡◌, ◌≢◌, ℕ, zero, suc, ◌+◌, ◌-◌, ◌<◌, ◌≤◌, nat_eq, Bool, true, false, cond, List, [], ◌∷◌, ◌++◌, length, take, drop, get_or, refl, sym, ◌∙◌, ap, arith, subst, replicate, set, ◌⊎◌, inl, inr}
use Rattle.std.proofs.lemmas.Bool.Decides.{Decides-eqb, Decides-ltb}
use Rattle.std.proofs.lemmas.List.{take_more, take_all, get_or-set_same, get_or-set_other, get_or-replicate}
use Rattle.tokei_table_row.specs.Bytes.{begins}
use Rattle.tokei_parts.specs.Choice.{Choice}
use Rattle.tokei_parts.specs.Choice.Choice.{takes_byte}
use Rattle.tokei_parts.specs.PlainOpenings.{chosen, first_or, first_opening}
use Rattle.tokei_parts.specs.Spans.{opening_of, openings_of, span_end, IsSpan, AreSpans}
use Rattle.tokei_parts.specs.declared.opening_table.Opening as CodeOpening
use Rattle.tokei_parts.specs.declared.opening_table.Span.{Span}

-- the first i openings were looked at; those of them that begin with the byte stand in the span
pub record IsSpanBefore (all : List CodeOpening.Opening) (x from to i : ℕ) : Type 0 where
  pub order : from ≤ to
  pub within : to ≤ i
  pub before : (t : List ℕ) (d : Choice) → first_or (openings_of (take from all)) (x ∷ t) d ≡ d
  pub behind : (t : List ℕ) (d : Choice)
      → first_or (openings_of (take to all)) (x ∷ t) d ≡ first_or (openings_of (take i all)) (x ∷ t) d

-- of two lists the second is looked at where none of the first stands
pub append_or : (xs ys : List CodeOpening.Opening) (text : List ℕ) (d : Choice)
    → first_or (openings_of (xs ++ ys)) text d ≡ first_or (openings_of xs) text (first_or (openings_of ys) text d)
append_or [] ys text d = refl
append_or (x ∷ xs) ys text d = ap (λ c. cond (begins ((opening_of x).pair.opener) text) (chosen (opening_of x).item (opening_of x).pair) c) (append_or xs ys text d)

-- one more that doesn't begin with the byte
pub passed_one : (all : List CodeOpening.Opening) (x i : ℕ) (o : CodeOpening.Opening)
    → i < length all → o ≡ get_or all i o → ((t : List ℕ) → begins ((opening_of o).pair.opener) (x ∷ t) ≡ false)
    → (t : List ℕ) (d : Choice) → first_or (openings_of (take (i + 1) all)) (x ∷ t) d ≡ first_or (openings_of (take i all)) (x ∷ t) d
passed_one all x i o some is h t d =
    ap (λ os. first_or (openings_of os) (x ∷ t) d) (take_more all i o some ∙ ap (λ p. take i all ++ p ∷ []) (sym is))
    ∙ append_or (take i all) (o ∷ []) (x ∷ t) d
    ∙ ap (λ b. first_or (openings_of (take i all)) (x ∷ t) (cond b (chosen (opening_of o).item (opening_of o).pair) d)) (h t)

pub span_passed : (all : List CodeOpening.Opening) (x from to i : ℕ) (o : CodeOpening.Opening)
    → IsSpanBefore all x from to i → i < length all → o ≡ get_or all i o
    → ((t : List ℕ) → begins ((opening_of o).pair.opener) (x ∷ t) ≡ false) → IsSpanBefore all x from to (i + 1)
span_passed all x from to i o s some is h = record {
  order = s.order;
  within = omega (arith, s.within);
  before = s.before;
  behind = λ t d. s.behind t d ∙ sym (passed_one all x i o some is h t d);
}

-- the same numbers by other names
pub span_moved : (all : List CodeOpening.Opening) (x f to i from last : ℕ)
    → from ≡ f → last ≡ to → IsSpanBefore all x f to i → IsSpanBefore all x from last i
span_moved all x f to i from last ef et s =
    subst (λ n. IsSpanBefore all x n last i) (sym ef) (subst (λ n. IsSpanBefore all x f n i) (sym et) s)

-- one more that may begin with it
pub span_widened : (all : List CodeOpening.Opening) (x from to i : ℕ)
    → IsSpanBefore all x from to i → IsSpanBefore all x from (i + 1) (i + 1)
span_widened all x from to i s = record {
  order = omega (arith, s.order, s.within);
  within = omega arith;
  before = s.before;
  behind = λ t d. refl;
}

-- the first that may
pub span_begun : (all : List CodeOpening.Opening) (x from to i : ℕ)
    → to ≡ 0 → IsSpanBefore all x from to i → IsSpanBefore all x i (i + 1) (i + 1)
span_begun all x from to i none s = record {
  order = omega arith;
  within = omega arith;
  before = λ t d. sym (s.behind t d) ∙ ap (λ n. first_or (openings_of (take n all)) (x ∷ t) d) none;
  behind = λ t d. refl;
}

pub none_yet : (all : List CodeOpening.Opening) (x : ℕ) → IsSpanBefore all x 0 0 0
none_yet all x = record {
  order = omega arith;
  within = omega arith;
  before = λ t d. refl;
  behind = λ t d. refl;
}

nothing : List CodeOpening.Opening
nothing = []

nothing_taken : (n : ℕ) → nothing ≡ take n nothing
unfolding nothing
nothing_taken zero = refl
nothing_taken (suc n) = refl

split_take : (all : List CodeOpening.Opening) (from to : ℕ) → from ≤ to → take to all ≡ take from all ++ take (to - from) (drop from all)
unfolding nothing
split_take all zero to h =
    let e : to ≡ to - 0 = omega arith in
    ap (λ n. take n all) e
split_take all (suc from) zero h = absurd (omega (arith, h))
split_take [] (suc from) (suc to) h = nothing_taken (suc to - suc from)
split_take (x ∷ all) (suc from) (suc to) h =
    let e : to - from ≡ suc to - suc from = omega arith in
    ap (λ os. x ∷ os) (split_take all from to (omega (arith, h)) ∙ ap (λ n. take from all ++ take n (drop from all)) e)

-- those in the span are enough, once all were looked at
pub span_enough : (all : List CodeOpening.Opening) (x from to i : ℕ) → IsSpanBefore all x from to i → length all ≤ i
    → (t : List ℕ) → first_opening (openings_of (take (to - from) (drop from all))) (x ∷ t) ≡ first_opening (openings_of all) (x ∷ t)
span_enough all x from to i s done t =
    sym (s.before t (first_or (openings_of (take (to - from) (drop from all))) (x ∷ t) takes_byte))
    ∙ sym (append_or (take from all) (take (to - from) (drop from all)) (x ∷ t) takes_byte)
    ∙ ap (λ os. first_opening (openings_of os) (x ∷ t)) (sym (split_take all from to s.order))
    ∙ s.behind t takes_byte
    ∙ ap (λ os. first_opening (openings_of os) (x ∷ t)) (take_all i all done)

-- a span that is short of the greatest byte
pub short_span : (all : List CodeOpening.Opening) (x from to i : ℕ) → IsSpanBefore all x from to i → i ≡ length all
    → to < 255 → IsSpan all x (record { from = from; to = to })
short_span all x from to i s done short =
    let end : span_end all (record { from = from; to = to }) ≡ to = ap (λ b. cond b to (length all)) ((Decides-ltb to 255).1 short) in
    record {
      order = omega (arith, s.order, end);
      within = omega (arith, s.within, done, end);
      enough = λ t. ap (λ n. first_opening (openings_of (take (n - from) (drop from all))) (x ∷ t)) end
          ∙ span_enough all x from to i s (omega (arith, done)) t;
    }

-- the span of all
pub whole_span : (all : List CodeOpening.Opening) (x : ℕ) → IsSpan all x (record { from = 0; to = 255 })
whole_span all x = record {
  order = omega arith;
  within = omega arith;
  enough = λ t. ap (λ os. first_opening (openings_of os) (x ∷ t)) (take_all (length all - 0) all (omega arith));
}

-- all of them for each byte
pub whole_spans : (all : List CodeOpening.Opening) → AreSpans all (replicate 256 (record { from = 0; to = 255 }))
whole_spans all = record {
  each = λ x d small. subst (λ s. IsSpan all x s) (sym (get_or-replicate 256 x (record { from = 0; to = 255 }) d small)) (whole_span all x);
}

-- the span of one byte is put in
pub one_put : (all : List CodeOpening.Opening) (spans : List Span) (byte : ℕ) (s : Span)
    → length spans ≡ 256 → AreSpans all spans → IsSpan all byte s → AreSpans all (set spans byte s)
one_put all spans byte s long known one = record {
  each = λ x d small. by_place x d small (same_or x byte);
}
  where
    same_or : (x y : ℕ) → (x ≡ y) ⊎ (x ≢ y)
    same_or x y = by_test (nat_eq x y) refl
      where
        by_test : (b : Bool) → nat_eq x y ≡ b → (x ≡ y) ⊎ (x ≢ y)
        by_test true e = inl ((Decides-eqb x y).0 e)
        by_test false e = inr (λ h. let back : nat_eq x y ≡ true = (Decides-eqb x y).1 h in cc)

    by_place : (x : ℕ) (d : Span) → x < 256 → (x ≡ byte) ⊎ (x ≢ byte) → IsSpan all x (get_or (set spans byte s) x d)
    by_place x d small (inl e) =
        subst (λ y. IsSpan all y (get_or (set spans byte s) y d)) (sym e)
        (subst (λ o. IsSpan all byte o) (sym (get_or-set_same spans byte s d (omega (arith, long, small, e)))) one)
    by_place x d small (inr n) = subst (λ o. IsSpan all x o) (sym (get_or-set_other spans byte x s d n)) (known.each x d small)
