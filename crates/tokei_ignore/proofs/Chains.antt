-- The way along a slot's patterns, from its last one on, and how an index is made.
use Rattle.std.proofs.Common.{◌≡◌, ◌≢◌, ℕ, suc, ◌+◌, ◌-◌, ◌≤◌, ◌<◌, max, List, [], ◌∷◌, ◌++◌, length, take, set, get_or, Bool, true, false, true≢false, ◌&&◌, cond, refl, sym, ap, ◌∙◌, arith, eqb-true, eq-eqb, subst, ⊎_elim, get_or-set_same, get_or-set_other}
use Rattle.std.proofs.lemmas.Bool.{cases_lt}
use Rattle.std.proofs.lemmas.List.{take-take, take_more, get_or-take, length-take, length-take-le, get_or_append_left, get_or_push, get_or_default, length_push, length-set}
use Rattle.tokei_ignore.specs.declared.patterns.Pattern.{Pattern}
use Rattle.tokei_ignore.specs.Keys.{pattern_key}
use Rattle.tokei_ignore.specs.Patterns.{fits_entry}
use Rattle.tokei_ignore.specs.Index.{last_place, latest_in, slot_of, has_slot, IsIndex}
use Rattle.tokei_ignore.proofs.Spans.{cases_and}
use Rattle.tokei_ignore.proofs.Places.{place_le, place_push, place_among, place_passes}

and_false : (a : Bool) → (a && false) ≡ false
and_false true = refl
and_false false = refl

and_both : (a b : Bool) → a ≡ true → b ≡ true → (a && b) ≡ true
and_both true b e f = f
and_both false b e f = e

-- a place where the search along a slot stands: what stands there is of the slot, and no later
-- pattern passes the test
pub record Stands {X : Type 0} (test slot : X → Bool) (xs : List X) (at : ℕ) : Type 0 where
  pub within : at ≤ length xs
  pub here : (k : ℕ) (d : X) → at ≡ suc k → slot (get_or xs k d) ≡ true
  pub same : last_place test (take at xs) ≡ last_place test xs

pub stands_first : {X : Type 0} (test slot : X → Bool) (xs : List X) (at : ℕ) → ((x : X) → test x ≡ true → slot x ≡ true)
    → at ≡ last_place slot xs → Stands test slot xs at
stands_first test slot xs at imp e = record {
  within = let l = place_le slot xs in omega (arith, e, l);
  here = λ k d h. place_passes slot xs k d (sym e ∙ h);
  same = ap (λ (n : ℕ). last_place test (take n xs)) e ∙ place_among test slot xs imp;
}

one_fewer : {X : Type 0} (test : X → Bool) (xs : List X) (k : ℕ) (d : X) → k < length xs → test (get_or xs k d) ≡ false
    → last_place test (take (k + 1) xs) ≡ last_place test (take k xs)
one_fewer test xs k d h fails =
    ap (last_place test) (take_more xs k d h) ∙ place_push test (take k xs) (get_or xs k d)
    ∙ ap (λ b. cond b (suc (length (take k xs))) (last_place test (take k xs))) fails

pub stands_next : {X : Type 0} (test slot : X → Bool) (xs : List X) (at k next : ℕ) (d : X) → ((x : X) → test x ≡ true → slot x ≡ true)
    → Stands test slot xs at → at ≡ k + 1 → test (get_or xs k d) ≡ false
    → next ≡ last_place slot (take k xs) → Stands test slot xs next
stands_next test slot xs at k next d imp s is fails e =
    let in_list : k < length xs = let w = s.within in omega (arith, w, is) in
    let short : length (take k xs) ≡ k = length-take-le k xs (omega (arith, in_list)) in
    let below : next ≤ k = let l = place_le slot (take k xs) in omega (arith, e, l, short) in
    record {
      within = omega (arith, below, in_list);
      here = λ j f h. let less : j < k = omega (arith, below, h) in
          ap slot (sym (get_or-take k xs j f less)) ∙ place_passes slot (take k xs) j f (sym e ∙ h);
      same = ap (last_place test) (sym (take-take next k xs below))
          ∙ ap (λ (n : ℕ). last_place test (take n (take k xs))) e
          ∙ place_among test slot (take k xs) imp
          ∙ sym (one_fewer test xs k d in_list fails)
          ∙ ap (λ (n : ℕ). last_place test (take n xs)) (sym is)
          ∙ s.same;
    }

pub stands_found : {X : Type 0} (test slot : X → Bool) (xs : List X) (at k best : ℕ) (d : X)
    → Stands test slot xs at → at ≡ k + 1 → test (get_or xs k d) ≡ true → best < at
    → at ≡ max best (last_place test xs)
stands_found test slot xs at k best d s is passes more =
    let in_list : k < length xs = let w = s.within in omega (arith, w, is) in
    let short : length (take k xs) ≡ k = length-take-le k xs (omega (arith, in_list)) in
    let there : last_place test xs ≡ suc (length (take k xs)) =
    sym s.same ∙ ap (λ (n : ℕ). last_place test (take n xs)) is
    ∙ ap (last_place test) (take_more xs k d in_list) ∙ place_push test (take k xs) (get_or xs k d)
    ∙ ap (λ b. cond b (suc (length (take k xs))) (last_place test (take k xs))) passes in
    omega (arith, there, short, is, more)

pub stands_last : {X : Type 0} (test slot : X → Bool) (xs : List X) (at best : ℕ)
    → Stands test slot xs at → at ≤ best → best ≡ max best (last_place test xs)
stands_last test slot xs at best s less =
    let l : last_place test (take at xs) ≤ at =
    let p = place_le test (take at xs) in let q = length-take at xs in omega (arith, p, q) in
    let e = s.same in omega (arith, l, e, less)

-- the index of so many first patterns
pub record IsIndexOf (count : ℕ) (ps : List Pattern) (n : ℕ) (heads earlier : List ℕ) : Type 0 where
  pub slots : length heads ≡ count + 1
  pub each : length earlier ≡ n
  pub head : (s : ℕ) → s < length heads → get_or heads s 0 ≡ last_place (has_slot count s) (take n ps)
  pub link : (i : ℕ) (d : Pattern) → i < n
      → get_or earlier i 0 ≡ last_place (has_slot count (slot_of count (pattern_key (get_or ps i d)))) (take i ps)

last_head : (count : ℕ) (ps : List Pattern) (n s : ℕ) (p : Pattern) → n < length ps → p ≡ get_or ps n p
    → (b : Bool) → has_slot count s p ≡ b
    → last_place (has_slot count s) (take (n + 1) ps) ≡ cond b (n + 1) (last_place (has_slot count s) (take n ps))
last_head count ps n s p h is b e =
    let short : suc (length (take n ps)) ≡ n + 1 = let l = length-take-le n ps (omega (arith, h)) in omega (arith, l) in
    ap (last_place (has_slot count s)) (take_more ps n p h)
    ∙ place_push (has_slot count s) (take n ps) (get_or ps n p)
    ∙ ap (λ (q : Pattern). cond (has_slot count s q) (suc (length (take n ps))) (last_place (has_slot count s) (take n ps))) (sym is)
    ∙ ap (λ c. cond c (suc (length (take n ps))) (last_place (has_slot count s) (take n ps))) e
    ∙ ap (λ (m : ℕ). cond b m (last_place (has_slot count s) (take n ps))) short

new_head : (count : ℕ) (ps : List Pattern) (n : ℕ) (heads earlier : List ℕ) (p : Pattern) (own s : ℕ)
    → IsIndexOf count ps n heads earlier → n < length ps → p ≡ get_or ps n p → own ≡ slot_of count (pattern_key p)
    → own < length heads → s < length heads
    → (b : Bool) → has_slot count s p ≡ b
    → get_or (set heads own (n + 1)) s 0 ≡ last_place (has_slot count s) (take (n + 1) ps)
new_head count ps n heads earlier p own s x h is e l m true t =
    let same : s ≡ own = sym (eqb-true (slot_of count (pattern_key p)) s t) ∙ sym e in
    ap (λ (j : ℕ). get_or (set heads own (n + 1)) j 0) same ∙ get_or-set_same heads own (n + 1) 0 l
    ∙ sym (last_head count ps n s p h is true t)
new_head count ps n heads earlier p own s x h is e l m false t =
    let other : s ≢ own = λ same. true≢false (sym (eq-eqb (slot_of count (pattern_key p)) s (sym e ∙ sym same)) ∙ t) in
    get_or-set_other heads own s (n + 1) 0 other ∙ x.head s m
    ∙ sym (last_head count ps n s p h is false t)

pub index_more : (count : ℕ) (ps : List Pattern) (n : ℕ) (heads earlier new_heads more : List ℕ) (p : Pattern) (own led : ℕ)
    → IsIndexOf count ps n heads earlier → n < length ps → p ≡ get_or ps n p → own ≡ slot_of count (pattern_key p)
    → own < length heads → led ≡ get_or heads own 0
    → new_heads ≡ set heads own (n + 1) → more ≡ earlier ++ led ∷ []
    → IsIndexOf count ps (n + 1) new_heads more
index_more count ps n heads earlier new_heads more p own led x h is e l at eh em =
    subst (λ (hs : List ℕ). IsIndexOf count ps (n + 1) hs more) (sym eh)
    (subst (λ (ms : List ℕ). IsIndexOf count ps (n + 1) (set heads own (n + 1)) ms) (sym em) (record {
      slots = length-set heads own (n + 1) ∙ x.slots;
      each = grown;
      head = λ s m. new_head count ps n heads earlier p own s x h is e l (let k = length-set heads own (n + 1) in omega (arith, m, k)) (has_slot count s p) refl;
      link = λ i d m. linked i d m;
    }))
  where
    grown : length (earlier ++ led ∷ []) ≡ n + 1
    grown = length_push earlier led ∙ ap (λ m. m + 1) x.each

    old : (i : ℕ) (d : Pattern) → i < n
        → get_or (earlier ++ led ∷ []) i 0 ≡ last_place (has_slot count (slot_of count (pattern_key (get_or ps i d)))) (take i ps)
    old i d less =
        let in_list : i < length earlier = let k = x.each in omega (arith, less, k) in
        get_or_append_left earlier (led ∷ []) 0 i in_list ∙ x.link i d less

    own_is : (d : Pattern) → own ≡ slot_of count (pattern_key (get_or ps n d))
    own_is d = e ∙ ap (λ (q : Pattern). slot_of count (pattern_key q)) (is ∙ get_or_default ps n p d h)

    fresh : (i : ℕ) (d : Pattern) → i ≡ n
        → get_or (earlier ++ led ∷ []) i 0 ≡ last_place (has_slot count (slot_of count (pattern_key (get_or ps i d)))) (take i ps)
    fresh i d j =
        subst (λ (k : ℕ). get_or (earlier ++ led ∷ []) k 0 ≡ last_place (has_slot count (slot_of count (pattern_key (get_or ps k d)))) (take k ps)) (sym j)
        (get_or_push earlier led 0 n x.each ∙ at ∙ x.head own l ∙ ap (λ (s : ℕ). last_place (has_slot count s) (take n ps)) (own_is d))

    linked : (i : ℕ) (d : Pattern) → i < n + 1
        → get_or (earlier ++ led ∷ []) i 0 ≡ last_place (has_slot count (slot_of count (pattern_key (get_or ps i d)))) (take i ps)
    linked i d m = ⊎_elim (λ less. old i d less) (λ more. fresh i d (let j : i ≡ n = omega (arith, m, more) in j)) (cases_lt i n)

pub read_first : (xs : List ℕ) (i x : ℕ) → i < length xs → x ≡ get_or xs i x → x ≡ get_or xs i 0
read_first xs i x h e = e ∙ get_or_default xs i x 0 h

-- the tests of a search along a slot
abbrev pub of_slot : ℕ → ℕ → List (List ℕ) → Bool → Pattern → Bool
of_slot count slot names folder p = has_slot count slot p && fits_entry p names folder

pub slot_wider : (count slot : ℕ) (names : List (List ℕ)) (folder : Bool) (p : Pattern) → of_slot count slot names folder p ≡ true → has_slot count slot p ≡ true
slot_wider count slot names folder p e = (cases_and (has_slot count slot p) (fits_entry p names folder) e).0

abbrev pub StandsIn : List Pattern → List ℕ → ℕ → List (List ℕ) → Bool → ℕ → Type 0
StandsIn ps heads slot names folder at = Stands (of_slot (length heads - 1) slot names folder) (has_slot (length heads - 1) slot) ps at

pub begins : (ps : List Pattern) (heads earlier : List ℕ) (slot : ℕ) (names : List (List ℕ)) (folder : Bool) → IsIndex ps heads earlier → slot < length heads
    → StandsIn ps heads slot names folder (get_or heads slot 0)
begins ps heads earlier slot names folder x h =
    stands_first (of_slot (length heads - 1) slot names folder) (has_slot (length heads - 1) slot) ps (get_or heads slot 0)
    (slot_wider (length heads - 1) slot names folder) (x.head slot h)

-- the pattern that stands there doesn't fit, so the search goes on at the one before it
pub goes_on : (ps : List Pattern) (heads earlier : List ℕ) (slot at : ℕ) (names : List (List ℕ)) (folder : Bool) (p : Pattern)
    → IsIndex ps heads earlier → StandsIn ps heads slot names folder at → 0 < at
    → p ≡ get_or ps (at - 1) p → fits_entry p names folder ≡ false
    → StandsIn ps heads slot names folder (get_or earlier (at - 1) 0) × (get_or earlier (at - 1) 0 < at)
goes_on ps heads earlier slot at names folder p x s some is fails =
    let count = length heads - 1 in
    let k = at - 1 in
    let one : at ≡ k + 1 = omega (arith, some) in
    let in_list : k < length ps = let w = s.within in omega (arith, w, one) in
    let own : slot_of count (pattern_key (get_or ps k p)) ≡ slot =
    eqb-true (slot_of count (pattern_key (get_or ps k p))) slot (s.here k p (omega (arith, one))) in
    let link : get_or earlier k 0 ≡ last_place (has_slot count slot) (take k ps) =
    x.link k p in_list ∙ ap (λ (n : ℕ). last_place (has_slot count n) (take k ps)) own in
    let misses : of_slot count slot names folder (get_or ps k p) ≡ false =
    ap (of_slot count slot names folder) (sym is) ∙ ap (λ b. has_slot count slot p && b) fails ∙ and_false (has_slot count slot p) in
    let less : get_or earlier k 0 < at =
    let l = place_le (has_slot count slot) (take k ps) in let m = length-take k ps in omega (arith, link, l, m, one) in (
      stands_next (of_slot count slot names folder) (has_slot count slot) ps at k (get_or earlier k 0) p
          (slot_wider count slot names folder) s one misses link,
      less,
    )

-- it fits, so it is the last one
pub is_found : (ps : List Pattern) (heads : List ℕ) (slot at best : ℕ) (names : List (List ℕ)) (folder : Bool) (p : Pattern)
    → StandsIn ps heads slot names folder at → best < at
    → p ≡ get_or ps (at - 1) p → fits_entry p names folder ≡ true
    → at ≡ max best (latest_in (length heads - 1) slot ps names folder)
unfolding latest_in
is_found ps heads slot at best names folder p s more is passes =
    let count = length heads - 1 in
    let k = at - 1 in
    let one : at ≡ k + 1 = omega (arith, more) in
    let same : get_or ps k p ≡ p = sym is in
    let hits : of_slot count slot names folder (get_or ps k p) ≡ true =
    and_both (has_slot count slot (get_or ps k p)) (fits_entry (get_or ps k p) names folder) (s.here k p (omega (arith, one)))
    (ap (λ (q : Pattern). fits_entry q names folder) same ∙ passes) in
    stands_found (of_slot count slot names folder) (has_slot count slot) ps at k best p s one hits more

-- no later one fits
pub is_best : (ps : List Pattern) (heads : List ℕ) (slot at best : ℕ) (names : List (List ℕ)) (folder : Bool)
    → StandsIn ps heads slot names folder at → at ≤ best
    → best ≡ max best (latest_in (length heads - 1) slot ps names folder)
unfolding latest_in
is_best ps heads slot at best names folder s less =
    stands_last (of_slot (length heads - 1) slot names folder) (has_slot (length heads - 1) slot) ps at best s less
