-- Once the signs up to a span fit somewhere, no later place needs a look.
use Rattle.std.proofs.Common.{◌≡◌, List, [], ◌∷◌, Bool, true, false, ◌||◌, ◌&&◌, cond, length, ◌<◌, ◌≤◌, refl, sym, ap, ◌∙◌, arith}
use Rattle.tokei_ignore.specs.Fits.{fits, at_some_end, first_and_rest, is_empty}
use Rattle.tokei_ignore.specs.Reach.{Reach, fails, done, at_span, ended, onward, reach}

pub either_left : (a b : Bool) → a ≡ true → (a || b) ≡ true
either_left true b e = refl
either_left false b e = cc

pub either_right : (a b : Bool) → b ≡ true → (a || b) ≡ true
either_right true b e = refl
either_right false b e = e

pub cases_or : (a b : Bool) {C : Type 0} → (a || b) ≡ true → (a ≡ true → C) → (b ≡ true → C) → C
cases_or true b e f g = f refl
cases_or false b e f g = g e

pub cases_and : (a b : Bool) → (a && b) ≡ true → (a ≡ true) × (b ≡ true)
cases_and true b e = (refl, e)
cases_and false b e = absurd (cc)

same_truth : (a b : Bool) → (a ≡ true → b ≡ true) → (b ≡ true → a ≡ true) → a ≡ b
same_truth true b f g = sym (f refl)
same_truth false true f g = g refl
same_truth false false f g = refl

here : {X : Type 0} (test : List X → Bool) (xs : List X) → test xs ≡ true → at_some_end test xs ≡ true
here test [] e = e
here test (x ∷ xs) e = either_left _ _ e

-- an end of an end is an end
flat : {X : Type 0} (test : List X → Bool) (xs : List X) → at_some_end (at_some_end test) xs ≡ true → at_some_end test xs ≡ true
flat test [] e = e
flat test (x ∷ xs) e = cases_or (at_some_end test (x ∷ xs)) (at_some_end (at_some_end test) xs) e (λ h. h) (λ h. either_right (test (x ∷ xs)) (at_some_end test xs) (flat test xs h))

-- where one item and then the rest fit some end, the rest fits some end of what follows the first item
past : {X : Type 0} (one : X → Bool) (rest : List X → Bool) (x : X) (xs : List X) → at_some_end (first_and_rest one rest) (x ∷ xs) ≡ true → at_some_end rest xs ≡ true
past one rest x [] e = cases_or (one x && rest []) false e (λ h. (cases_and (one x) (rest []) h).1) (λ h. absurd (cc))
past one rest x (y ∷ ys) e =
    cases_or (one x && rest (y ∷ ys)) (at_some_end (first_and_rest one rest) (y ∷ ys)) e
    (λ h. here rest (y ∷ ys) (cases_and (one x) (rest (y ∷ ys)) h).1)
    (λ h. either_right (rest (y ∷ ys)) _ (past one rest y ys h))

none_fits : {X : Type 0} (one : X → Bool) (rest : List X → Bool) → at_some_end (first_and_rest one rest) [] ≡ false
none_fits one rest = refl

-- what the signs fit, by how far they reach
abbrev pub by_reach : {P X : Type 0} → (P → Bool) → (P → X → Bool) → Reach P X → Bool
by_reach spans fits_one fails = false
by_reach spans fits_one done = true
by_reach spans fits_one (at_span ps xs) = at_some_end (fits spans fits_one ps) xs

by_ended : {P X : Type 0} (spans : P → Bool) (fits_one : P → X → Bool) (xs : List X) → is_empty xs ≡ by_reach spans fits_one (ended xs)
by_ended spans fits_one [] = refl
by_ended spans fits_one (x ∷ xs) = refl

by_onward : {P X : Type 0} (spans : P → Bool) (fits_one : P → X → Bool) (one : X → Bool)
    (rest : List X → Bool) (next : List X → Reach P X)
    → ((xs : List X) → rest xs ≡ by_reach spans fits_one (next xs)) → (xs : List X)
    → first_and_rest one rest xs ≡ by_reach spans fits_one (onward one next xs)
by_onward spans fits_one one rest next e [] = refl
by_onward spans fits_one one rest next e (x ∷ xs) = stepped (one x)
  where
    stepped : (b : Bool) → (b && rest xs) ≡ by_reach spans fits_one (cond b (next xs) fails)
    stepped true = e xs
    stepped false = refl

by_span : {P X : Type 0} (spans : P → Bool) (fits_one : P → X → Bool) (b : Bool) (some rest : Bool)
    (s r : Reach P X)
    → some ≡ by_reach spans fits_one s → rest ≡ by_reach spans fits_one r
    → cond b some rest ≡ by_reach spans fits_one (cond b s r)
by_span spans fits_one true some rest s r d e = d
by_span spans fits_one false some rest s r d e = e

pub fits-reach : {P X : Type 0} (spans : P → Bool) (fits_one : P → X → Bool) (ps : List P) (xs : List X) → fits spans fits_one ps xs ≡ by_reach spans fits_one (reach spans fits_one ps xs)
fits-reach spans fits_one [] xs = by_ended spans fits_one xs
fits-reach spans fits_one (p ∷ ps) xs =
    by_span spans fits_one (spans p) _ _ (at_span ps xs) _ refl (by_onward spans fits_one (fits_one p) (fits spans fits_one ps) (reach spans fits_one ps) (fits-reach spans fits_one ps) xs)

-- the signs before the span fit here, so what fits some later place fits behind the span that was reached;
-- the signs behind it are fewer and the items no more
pub record Commits {P X : Type 0} (whole behind : List X → Bool) (ps : List P) (xs : List X) (qs : List P) (ys : List X) : Type 0 where
  pub ahead : at_some_end whole xs ≡ true → at_some_end behind ys ≡ true
  pub fewer : length qs < length ps
  pub shorter : length ys ≤ length xs

went_on : {P X : Type 0} (b : Bool) (r : Reach P X) (qs : List P) (ys : List X) → cond b r fails ≡ at_span qs ys → r ≡ at_span qs ys
went_on true r qs ys e = e
went_on false r qs ys e = absurd (cc)

committed_more : {P X : Type 0} (spans : P → Bool) (fits_one : P → X → Bool) (p : P) (ps : List P)
    (qs : List P) (ys : List X) (b : Bool) (xs : List X)
    → ((zs : List X) → reach spans fits_one ps zs ≡ at_span qs ys
    → Commits (fits spans fits_one ps) (fits spans fits_one qs) ps zs qs ys)
    → cond b (at_span ps xs) (onward (fits_one p) (reach spans fits_one ps) xs) ≡ at_span qs ys
    → Commits (λ zs. cond b (at_some_end (fits spans fits_one ps) zs) (first_and_rest (fits_one p) (fits spans fits_one ps) zs)) (fits spans fits_one qs) (p ∷ ps) xs qs ys
committed_more spans fits_one p ps qs ys true xs ih e =
    let same : ps ≡ qs = cc in
    let at : xs ≡ ys = cc in record {
      ahead = λ h. let g = flat (fits spans fits_one ps) xs h in sym (ap (λ (us : List _). at_some_end (fits spans fits_one us) xs) same ∙ ap (at_some_end (fits spans fits_one qs)) at) ∙ g;
      fewer = omega (arith, ap length same);
      shorter = omega (arith, ap length at);
    }
committed_more spans fits_one p ps qs ys false [] ih e = absurd (cc)
committed_more spans fits_one p ps qs ys false (x ∷ xs) ih e =
    let h = ih xs (went_on (fits_one p x) _ qs ys e) in record {
      ahead = λ g. h.ahead (past (fits_one p) (fits spans fits_one ps) x xs g);
      fewer = omega (arith, h.fewer);
      shorter = omega (arith, h.shorter);
    }

pub committed : {P X : Type 0} (spans : P → Bool) (fits_one : P → X → Bool) (ps : List P)
    (xs : List X) (qs : List P) (ys : List X)
    → reach spans fits_one ps xs ≡ at_span qs ys
    → Commits (fits spans fits_one ps) (fits spans fits_one qs) ps xs qs ys
committed spans fits_one [] [] qs ys e = absurd (cc)
committed spans fits_one [] (x ∷ xs) qs ys e = absurd (cc)
committed spans fits_one (p ∷ ps) xs qs ys e = committed_more spans fits_one p ps qs ys (spans p) xs (λ zs. committed spans fits_one ps zs qs ys) e

-- where a span is reached, the rest of the search is that behind the span
pub search_after : {P X : Type 0} (spans : P → Bool) (fits_one : P → X → Bool) (ps : List P)
    (xs : List X) (qs : List P) (ys : List X)
    → at_span qs ys ≡ reach spans fits_one ps xs
    → at_some_end (fits spans fits_one ps) xs ≡ at_some_end (fits spans fits_one qs) ys
search_after spans fits_one ps xs qs ys e =
    same_truth (at_some_end (fits spans fits_one ps) xs) (at_some_end (fits spans fits_one qs) ys) (committed spans fits_one ps xs qs ys (sym e)).ahead
    (λ h. here (fits spans fits_one ps) xs (fits-reach spans fits_one ps xs ∙ ap (by_reach spans fits_one) (sym e) ∙ h))

pub search_done : {P X : Type 0} (spans : P → Bool) (fits_one : P → X → Bool) (ps : List P) (xs : List X) → done ≡ reach spans fits_one ps xs → at_some_end (fits spans fits_one ps) xs ≡ true
search_done spans fits_one ps xs e = here (fits spans fits_one ps) xs (fits-reach spans fits_one ps xs ∙ ap (by_reach spans fits_one) (sym e))

skipped : (a b : Bool) → a ≡ false → (a || b) ≡ b
skipped true b e = absurd (cc)
skipped false b e = refl

pub search_on : {P X : Type 0} (spans : P → Bool) (fits_one : P → X → Bool) (ps : List P) (x : X)
    (xs : List X)
    → fails ≡ reach spans fits_one ps (x ∷ xs)
    → at_some_end (fits spans fits_one ps) (x ∷ xs) ≡ at_some_end (fits spans fits_one ps) xs
search_on spans fits_one ps x xs e = skipped (fits spans fits_one ps (x ∷ xs)) _ (fits-reach spans fits_one ps (x ∷ xs) ∙ ap (by_reach spans fits_one) (sym e))

pub search_ends : {P X : Type 0} (spans : P → Bool) (fits_one : P → X → Bool) (ps : List P) → fails ≡ reach spans fits_one ps [] → at_some_end (fits spans fits_one ps) [] ≡ false
search_ends spans fits_one ps e = fits-reach spans fits_one ps [] ∙ ap (by_reach spans fits_one) (sym e)
