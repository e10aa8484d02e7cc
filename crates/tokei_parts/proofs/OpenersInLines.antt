-- Openers in the first line of a text.
use Rattle.std.proofs.Common.{◌≡◌, ℕ, suc, zero, ◌-◌, ◌<◌, ◌≤◌, ◌==◌, nat_eq, nat_lt, Bool, true, false, ◌+◌, ◌&&◌, ◌||◌, cond, List, [], ◌∷◌, ◌++◌, length, drop, Option, None, Some, option_map, is_some, unwrap_or, refl, sym, ◌∙◌, ap, arith}
use Rattle.std.specs.List.{list_all}
use Rattle.std.proofs.lemmas.List.{drop-drop}
use Rattle.std.proofs.lemmas.Bool.Decides.{Decides-eqb, nat_tests}
use Rattle.tokei_table.specs.Bytes.{begins, begins_with_one, line_len}
use Rattle.tokei_table.specs.FirstOpener.{first_opener}
use Rattle.tokei_table.specs.Sound.{no_newline}
use Rattle.tokei_parts.specs.Glance.{holds, opener_place}
use Rattle.tokei_embedding.specs.DocComments.{first_line}
use Rattle.tokei_parts.proofs.Cuts.{no_newline_first, no_newline_later}
use Rattle.tokei_parts.proofs.Fits.{and_left, and_right}

-- what holds no newline begins the line where it begins the text
pub begins-line : (p u : List ℕ) → no_newline p ≡ true → begins p (first_line u) ≡ begins p u
begins-line [] u h = refl
begins-line (x ∷ p) [] h = refl
begins-line (x ∷ p) (b ∷ t) h = by_test (b == 10) refl (begins-line p t (no_newline_later x p h))
  where
    other : (b == 10) ≡ true → nat_eq x b ≡ false
    other e = ap (nat_eq x) ((Decides-eqb b 10).0 e) ∙ no_newline_first x p h

    by_test : (y : Bool) → (b == 10) ≡ y → begins p (first_line t) ≡ begins p t → begins (x ∷ p) (cond y (b ∷ []) (b ∷ first_line t)) ≡ begins (x ∷ p) (b ∷ t)
    by_test true e ih = ap (λ w. w && begins p []) (other e) ∙ sym (ap (λ w. w && begins p t) (other e))
    by_test false e ih = ap (λ w. nat_eq x b && w) ih

pub one-line : (os : List (List ℕ)) → list_all no_newline os ≡ true → (u : List ℕ) → begins_with_one os (first_line u) ≡ begins_with_one os u
unfolding begins_with_one
one-line [] h u = refl
one-line (p ∷ os) h u =
    ap (λ w. w || begins_with_one os (first_line u)) (begins-line p u (and_left (no_newline p) (list_all no_newline os) h))
    ∙ ap (λ w. begins p u || w) (one-line os (and_right (no_newline p) (list_all no_newline os) h) u)

-- whether the place is there, and less than n
abbrev pub below : Option ℕ → ℕ → Bool
below None n = false
below (Some k) n = nat_lt k n

below_one : (o : Option ℕ) → below (option_map suc o) 1 ≡ false
below_one None = refl
below_one (Some k) = grind (arith, nat_tests)

below_suc : (o : Option ℕ) (n : ℕ) → below (option_map suc o) (suc n) ≡ below o n
below_suc None n = refl
below_suc (Some k) n = grind (arith, nat_tests)

is_some_suc : (o : Option ℕ) → is_some (option_map suc o) ≡ is_some o
is_some_suc None = refl
is_some_suc (Some k) = refl

-- a line holds an opener exactly where the text's first one begins in it
pub holds-line : (os : List (List ℕ)) → list_all no_newline os ≡ true → (u : List ℕ) → holds os (first_line u) ≡ below (first_opener os u) (length (first_line u))
holds-line os h [] = refl
holds-line os h (b ∷ t) = by_test (b == 10) refl (begins_with_one os (b ∷ t)) refl (holds-line os h t)
  where
    here : (y : Bool) → (b == 10) ≡ y → begins_with_one os (cond y (b ∷ []) (b ∷ first_line t)) ≡ begins_with_one os (b ∷ t)
    here y e = ap (λ w. begins_with_one os (cond w (b ∷ []) (b ∷ first_line t))) (sym e) ∙ one-line os h (b ∷ t)

    by_test : (y : Bool) → (b == 10) ≡ y → (x : Bool) → begins_with_one os (b ∷ t) ≡ x → holds os (first_line t) ≡ below (first_opener os t) (length (first_line t))
        → holds os (cond y (b ∷ []) (b ∷ first_line t)) ≡ below (cond x (Some 0) (option_map suc (first_opener os t))) (length (cond y (b ∷ []) (b ∷ first_line t)))
    by_test true e true f ih = ap (λ w. is_some (cond w (Some 0) (option_map suc (first_opener os [])))) (here true e ∙ f)
    by_test true e false f ih = ap (λ w. is_some (cond w (Some 0) (option_map suc (first_opener os [])))) (here true e ∙ f) ∙ sym (below_one (first_opener os t))
    by_test false e true f ih =
        let some : true ≡ nat_lt 0 (suc (length (first_line t))) = grind (arith, nat_tests)
        in ap (λ w. is_some (cond w (Some 0) (option_map suc (first_opener os (first_line t)))))
        (here false e ∙ f)
        ∙ some
    by_test false e false f ih =
        ap (λ w. is_some (cond w (Some 0) (option_map suc (first_opener os (first_line t))))) (here false e ∙ f)
        ∙ is_some_suc (first_opener os (first_line t)) ∙ ih ∙ sym (below_suc (first_opener os t) (length (first_line t)))

-- a text that holds none begins with none, and neither does what is left of it
pub none_here : (os : List (List ℕ)) (b : ℕ) (t : List ℕ) → holds os (b ∷ t) ≡ false → begins_with_one os (b ∷ t) ≡ false
none_here os b t h = by_test (begins_with_one os (b ∷ t)) h
  where
    by_test : (x : Bool) → is_some (cond x (Some 0) (option_map suc (first_opener os t))) ≡ false → x ≡ false
    by_test true e = cc
    by_test false e = refl

pub none_next : (os : List (List ℕ)) (b : ℕ) (t : List ℕ) → holds os (b ∷ t) ≡ false → holds os t ≡ false
none_next os b t h = by_test (begins_with_one os (b ∷ t)) h
  where
    by_test : (x : Bool) → is_some (cond x (Some 0) (option_map suc (first_opener os t))) ≡ false → is_some (first_opener os t) ≡ false
    by_test true e = cc
    by_test false e = sym (is_some_suc (first_opener os t)) ∙ e

-- bytes of a line that holds none lead to a line that holds none
pub none_later : (os : List (List ℕ)) (n : ℕ) (u : List ℕ) → n ≤ line_len u → holds os (first_line u) ≡ false → holds os (first_line (drop n u)) ≡ false
none_later os zero u l h = h
none_later os (suc n) [] l h = refl
none_later os (suc n) (b ∷ t) l h = by_test (b == 10) l h (none_later os n t)
  where
    by_test : (x : Bool) → suc n ≤ cond x 0 (suc (line_len t))
        → holds os (cond x (b ∷ []) (b ∷ first_line t)) ≡ false
        → (n ≤ line_len t → holds os (first_line t) ≡ false
        → holds os (first_line (drop n t)) ≡ false)
        → holds os (first_line (drop n t)) ≡ false
    by_test true l h f = absurd (omega arith)
    by_test false l h f = f (omega arith) (none_next os b (first_line t) h)

-- none of the first part of a list, and none of the rest
pub none_front : (ps qs : List (List ℕ)) (u : List ℕ) → begins_with_one (ps ++ qs) u ≡ false → begins_with_one ps u ≡ false
unfolding begins_with_one
none_front [] qs u h = refl
none_front (p ∷ ps) qs u h = by_test (begins p u) h (none_front ps qs u)
  where
    by_test : (x : Bool) → (x || begins_with_one (ps ++ qs) u) ≡ false → (begins_with_one (ps ++ qs) u ≡ false → begins_with_one ps u ≡ false) → (x || begins_with_one ps u) ≡ false
    by_test true e f = cc
    by_test false e f = f e

pub none_back : (ps qs : List (List ℕ)) (u : List ℕ) → begins_with_one (ps ++ qs) u ≡ false → begins_with_one qs u ≡ false
unfolding begins_with_one
none_back [] qs u h = h
none_back (p ∷ ps) qs u h = by_test (begins p u) h (none_back ps qs u)
  where
    by_test : (x : Bool) → (x || begins_with_one (ps ++ qs) u) ≡ false → (begins_with_one (ps ++ qs) u ≡ false → begins_with_one qs u ≡ false) → begins_with_one qs u ≡ false
    by_test true e f = cc
    by_test false e f = f e

-- a text that holds none of some holds none of those behind others
pub holds-back : (ps qs : List (List ℕ)) (u : List ℕ) → holds (ps ++ qs) u ≡ false → first_opener qs u ≡ None
holds-back ps qs [] h = refl
holds-back ps qs (b ∷ t) h =
    ap (λ x. cond x (Some 0) (option_map suc (first_opener qs t))) (none_back ps qs (b ∷ t) (none_here (ps ++ qs) b t h))
    ∙ ap (option_map suc) (holds-back ps qs t (none_next (ps ++ qs) b t h))

-- the place of the first opener, before n or not
pub place-below : (os : List (List ℕ)) (u : List ℕ) (n : ℕ) → n ≤ length u → opener_place os u < n → below (first_opener os u) n ≡ true
place-below os u n h l = by_case (first_opener os u) l
  where
    by_case : (o : Option ℕ) → unwrap_or o (length u) < n → below o n ≡ true
    by_case None l = absurd (omega (arith, h, l))
    by_case (Some k) l = grind (arith, nat_tests, l)

pub place-behind : (os : List (List ℕ)) (u : List ℕ) (n : ℕ) → n ≤ opener_place os u → below (first_opener os u) n ≡ false
place-behind os u n l = by_case (first_opener os u) l
  where
    by_case : (o : Option ℕ) → n ≤ unwrap_or o (length u) → below o n ≡ false
    by_case None l = refl
    by_case (Some k) l = grind (arith, nat_tests, l)

-- what is left of a text has its first opener at the same byte
pub place-later : (os : List (List ℕ)) (n : ℕ) (u : List ℕ) → n ≤ opener_place os u → opener_place os (drop n u) ≡ opener_place os u - n
place-later os zero u h = omega arith
place-later os (suc n) [] h = absurd (omega (arith, h))
place-later os (suc n) (b ∷ t) h = by_test (begins_with_one os (b ∷ t)) h (place-later os n t)
  where
    suc_place : (o : Option ℕ) → unwrap_or (option_map suc o) (suc (length t)) ≡ suc (unwrap_or o (length t))
    suc_place None = refl
    suc_place (Some k) = refl

    by_test : (x : Bool) → suc n ≤ unwrap_or (cond x (Some 0) (option_map suc (first_opener os t))) (suc (length t)) → (n ≤ opener_place os t → opener_place os (drop n t) ≡ opener_place os t - n)
        → opener_place os (drop n t) ≡ unwrap_or (cond x (Some 0) (option_map suc (first_opener os t))) (suc (length t)) - suc n
    by_test true h f = absurd (omega (arith, h))
    by_test false h f = let e = suc_place (first_opener os t) in f (omega (arith, h, e)) ∙ omega (arith, e)

-- the first opener begins inside the text
pub first-below : (os : List (List ℕ)) (t : List ℕ) (n : ℕ) → Some n ≡ first_opener os t → n < length t
first-below os [] n h = cc
first-below os (b ∷ t) n h = by_test (begins_with_one os (b ∷ t)) h (first-below os t)
  where
    later : (o : Option ℕ) → first_opener os t ≡ o → Some n ≡ option_map suc o → ((k : ℕ) → Some k ≡ first_opener os t → k < length t) → n < suc (length t)
    later None e h f = cc
    later (Some k) e h f = let same : n ≡ suc k = cc in omega (arith, same, f k (sym e))

    by_test : (x : Bool) → Some n ≡ cond x (Some 0) (option_map suc (first_opener os t)) → ((k : ℕ) → Some k ≡ first_opener os t → k < length t) → n < suc (length t)
    by_test true h f = let same : n ≡ 0 = cc in omega (arith, same)
    by_test false h f = later (first_opener os t) refl h f

-- its place is in the text, or the text's end
pub place_within : (os : List (List ℕ)) (u : List ℕ) → opener_place os u ≤ length u
place_within os u = by_case (first_opener os u) refl
  where
    by_case : (o : Option ℕ) → first_opener os u ≡ o → unwrap_or o (length u) ≤ length u
    by_case None e = omega arith
    by_case (Some k) e = omega (arith, first-below os u k (sym e))

-- the first opener from a later place on that isn't behind it
pub opener_later : (os : List (List ℕ)) (text : List ℕ) (start later next : ℕ) → start ≤ later
    → later ≤ next → next ≡ start + opener_place os (drop start text)
    → next ≡ later + opener_place os (drop later text)
opener_later os text start later next low high e =
    let n : ℕ = later - start in
    let place : start + n ≡ later = omega (arith, low) in
    let there : drop n (drop start text) ≡ drop later text = drop-drop n start text ∙ ap (λ m. drop m text) place in
    omega (arith, e, low, high, place-later os n (drop start text) (omega (arith, e, low, high)), ap (opener_place os) there)
