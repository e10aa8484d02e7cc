-- Which openers can stand at the front of a text: by its first byte those of a group, by its second one fewer.
use Rattle.std.proofs.Common.{◌≡◌, ℕ, suc, zero, ◌+◌, ◌-◌, ◌<◌, ◌≤◌, Bool, true, false, ◌&&◌, ◌||◌, ◌==◌}
use Rattle.std.proofs.Common.{nat_eq, List, [], ◌∷◌, length, take, drop, get_or, None, Some, refl, sym, ◌∙◌, ap}
use Rattle.std.proofs.Common.{◌++◌, bytes_eq, subst, arith, inl, inr, not, replicate, String, Global, string_bytes}
use Rattle.std.specs.List.{list_any, list_all}
use Rattle.std.proofs.lemmas.Bool.Decides.{Decides-eqb}
use Rattle.std.proofs.lemmas.Bool.{cases_lt}
use Rattle.std.proofs.lemmas.List.{get_or-replicate, drop_all, drop_more}
use Rattle.memchr.specs.Find.{IsFirstByte}
use Rattle.tokei_table_search.proofs.FirstBytes.{part_reads, part_len, or_assoc, or_none}
use Rattle.tokei_table_row.specs.Bytes.{begins, begins_with_one, holds}
use Rattle.std.proofs.lemmas.Slice.Eq.{bytes_eq-Decides}
use Rattle.tokei_table_row.specs.RowOf.{tokens_of}
use Rattle.tokei_table_row.specs.FirstOpener.{is_nonempty, is_first_of, is_first}
use Rattle.tokei_bytes.specs.OneOf.{is_one_of}
use Rattle.tokei_bytes.specs.ByteSets.{is_in}
use Rattle.tokei_bytes.specs.Pairs.{counts_at}
use Rattle.tokei_table_search.specs.NearBytes.{SameBytes}
use Rattle.tokei_table_search.specs.OpenerGroups.{goes_on_with, is_whole_with, goes_on_behind, is_whole_behind}
use Rattle.tokei_table_search.specs.OpenerGroups.{IsGroupOf, IsIndexOf}
use Rattle.tokei_table_search.specs.declared.opener_group.OpenerGroup.{OpenerGroup}

pub not_true : (b : Bool) → (b ≡ true → ⊥) → b ≡ false
not_true true un = absurd (un refl)
not_true false un = refl

first_equal : (x b : ℕ) (r : Bool) → (nat_eq x b && r) ≡ true → (b == x) ≡ true
first_equal x b r h = (Decides-eqb b x).1 (sym ((Decides-eqb x b).0 (left (nat_eq x b) r h)))
  where
    left : (a c : Bool) → (a && c) ≡ true → a ≡ true
    left true c e = refl
    left false c e = e

pub begins_first : (o t : List ℕ) (b : ℕ) → is_nonempty o ≡ true → begins o (b ∷ t) ≡ true → is_first_of b o ≡ true
begins_first [] t b e h = absurd (cc)
begins_first (x ∷ o) t b e h = first_equal x b (begins o t) h

either : (a b c d : Bool) → (a ≡ true → c ≡ true) → (b ≡ true → d ≡ true) → (a || b) ≡ true → (c || d) ≡ true
either true b c d f g h = ap (λ x. x || d) (f refl)
either false b c d f g h = right c d (g h)
  where
    right : (c d : Bool) → d ≡ true → (c || d) ≡ true
    right true d e = refl
    right false d e = e

pub and_left : (a b : Bool) → (a && b) ≡ true → a ≡ true
and_left true b h = refl
and_left false b h = h

pub and_right : (a b : Bool) → (a && b) ≡ true → b ≡ true
and_right true b h = h
and_right false b h = cc

pub starts_first : (os : List (List ℕ)) (b : ℕ) (t : List ℕ) → list_all is_nonempty os ≡ true
    → begins_with_one os (b ∷ t) ≡ true → is_first os b ≡ true
unfolding begins_with_one is_first
starts_first [] b t all h = h
starts_first (o ∷ os) b t all h =
    either (begins o (b ∷ t)) (begins_with_one os (b ∷ t)) (is_first_of b o) (is_first os b)
    (begins_first o t b (and_left (is_nonempty o) (list_all is_nonempty os) all))
    (starts_first os b t (and_right (is_nonempty o) (list_all is_nonempty os) all))
    h

both : (a b : Bool) → a ≡ true → b ≡ true → (a && b) ≡ true
both true b e f = f
both false b e f = e

contrary : false ≡ true → ⊥
contrary h = absurd (cc)

-- where no opener with the first byte goes on with the second one, none stands at the text's front
goes_on : (o : List ℕ) (x y : ℕ) (t : List ℕ) → begins o (x ∷ y ∷ t) ≡ true → goes_on_with y o ≡ true
goes_on [] x y t h = refl
goes_on (a ∷ []) x y t h = refl
goes_on (a ∷ b ∷ o) x y t h =
    and_left (nat_eq b y) (begins o t) (and_right (nat_eq a x) (nat_eq b y && begins o t) h)

some_goes_on : (os : List (List ℕ)) (x y : ℕ) (t : List ℕ) → list_all is_nonempty os ≡ true
    → begins_with_one os (x ∷ y ∷ t) ≡ true → list_any (goes_on_behind x y) os ≡ true
unfolding begins_with_one
some_goes_on [] x y t all h = h
some_goes_on (o ∷ os) x y t all h =
    either (begins o (x ∷ y ∷ t)) (begins_with_one os (x ∷ y ∷ t)) (goes_on_behind x y o)
    (list_any (goes_on_behind x y) os)
    (λ e. both (is_first_of x o) (goes_on_with y o)
    (begins_first o (y ∷ t) x (and_left (is_nonempty o) (list_all is_nonempty os) all) e) (goes_on o x y t e))
    (some_goes_on os x y t (and_right (is_nonempty o) (list_all is_nonempty os) all))
    h

second_apart : (os : List (List ℕ)) (t : List ℕ) (n : ℕ) → list_all is_nonempty os ≡ true → n + 1 < length t
    → list_any (goes_on_behind (get_or t n 0) (get_or t (n + 1) 0)) os ≡ false → begins_with_one os (drop n t) ≡ false
second_apart os [] n all l h = absurd (omega (arith, l))
second_apart os (x ∷ []) n all l h = absurd (omega (arith, l))
second_apart os (x ∷ y ∷ t) zero all l h =
    not_true (begins_with_one os (x ∷ y ∷ t)) (λ e. contrary (sym h ∙ some_goes_on os x y t all e))
second_apart os (x ∷ y ∷ t) (suc n) all l h =
    let at : suc (n + 1) ≡ suc n + 1 = omega arith in
    second_apart os (y ∷ t) n all (omega (arith, l))
    (ap (λ k. list_any (goes_on_behind (get_or (y ∷ t) n 0) (get_or (x ∷ y ∷ t) k 0)) os) at ∙ h)

-- where an opener with the first byte is whole with the second one, it stands at the text's front
turned : (x a : ℕ) → (x == a) ≡ true → nat_eq a x ≡ true
turned x a e = (Decides-eqb a x).1 (sym ((Decides-eqb x a).0 e))

whole_one : (o : List ℕ) (x y : ℕ) (t : List ℕ) → is_first_of x o ≡ true → is_whole_with y o ≡ true
    → begins o (x ∷ y ∷ t) ≡ true
whole_one [] x y t f h = absurd (cc)
whole_one (a ∷ []) x y t f h = both (nat_eq a x) true (turned x a f) refl
whole_one (a ∷ b ∷ []) x y t f h = both (nat_eq a x) (nat_eq b y && true) (turned x a f) (both (nat_eq b y) true h refl)
whole_one (a ∷ b ∷ c ∷ o) x y t f h = absurd (cc)

whole : (os : List (List ℕ)) (x y : ℕ) (t : List ℕ) → list_any (is_whole_behind x y) os ≡ true
    → begins_with_one os (x ∷ y ∷ t) ≡ true
unfolding begins_with_one
whole [] x y t h = h
whole (o ∷ os) x y t h =
    either (is_whole_behind x y o) (list_any (is_whole_behind x y) os) (begins o (x ∷ y ∷ t))
    (begins_with_one os (x ∷ y ∷ t))
    (λ e. whole_one o x y t (and_left (is_first_of x o) (is_whole_with y o) e)
    (and_right (is_first_of x o) (is_whole_with y o) e))
    (whole os x y t)
    h

whole_at : (os : List (List ℕ)) (t : List ℕ) (n : ℕ) → n + 1 < length t
    → list_any (is_whole_behind (get_or t n 0) (get_or t (n + 1) 0)) os ≡ true → begins_with_one os (drop n t) ≡ true
whole_at os [] n l h = absurd (omega (arith, l))
whole_at os (x ∷ []) n l h = absurd (omega (arith, l))
whole_at os (x ∷ y ∷ t) zero l h = whole os x y t h
whole_at os (x ∷ y ∷ t) (suc n) l h =
    let at : suc (n + 1) ≡ suc n + 1 = omega arith in
    whole_at os (y ∷ t) n (omega (arith, l))
    (ap (λ k. list_any (is_whole_behind (get_or (y ∷ t) n 0) (get_or (x ∷ y ∷ t) k 0)) os) at ∙ h)

-- what the flags of a group tell at a place with its byte
module _ (os : List (List ℕ)) (x : ℕ) (g : OpenerGroup) (group : IsGroupOf x os g) (t : List ℕ) (k : ℕ)
    (inside : k + 1 < length t) (fits : get_or t (k + 1) 0 < 256) (here : get_or t k 0 ≡ x) where
  pub flag_apart : is_in g.seconds (get_or t (k + 1) 0) ≡ false → begins_with_one os (drop k t) ≡ false
  flag_apart h =
      second_apart os t k group.nonempty inside
      (ap (λ b. list_any (goes_on_behind b (get_or t (k + 1) 0)) os) here
      ∙ sym (group.seconds.each (get_or t (k + 1) 0) fits) ∙ h)

  pub flag_stands : is_in g.wholes (get_or t (k + 1) 0) ≡ true → begins_with_one os (drop k t) ≡ true
  flag_stands h =
      whole_at os t k inside
      (ap (λ b. list_any (is_whole_behind b (get_or t (k + 1) 0)) os) here
      ∙ sym (group.wholes.each (get_or t (k + 1) 0) fits) ∙ h)

-- one of some openers passes a test: the one at a place has been added to those before it
pub any_more : (test : List ℕ → Bool) (os : List (String Global)) (i : ℕ) (d : String Global) → i < length os
    → (o : List ℕ) → o ≡ string_bytes (get_or os i d) → (before after all : Bool) → after ≡ (before || test o)
    → (before || list_any test (tokens_of (drop i os))) ≡ all → (after || list_any test (tokens_of (drop (i + 1) os))) ≡ all
any_more test os i d l o here before after all added so_far =
    let rest = list_any test (tokens_of (drop (i + 1) os)) in
    ap (λ b. b || rest) (added ∙ ap (λ p. before || test p) here)
    ∙ or_assoc before (test (string_bytes (get_or os i d))) rest
    ∙ sym (ap (λ s. before || list_any test (tokens_of s)) (drop_more os i d l))
    ∙ so_far

-- and behind the last one none is left
pub any_all : (test : List ℕ → Bool) (os : List (String Global)) (i : ℕ) → length os ≤ i → (b all : Bool)
    → (b || list_any test (tokens_of (drop i os))) ≡ all → b ≡ all
any_all test os i l b all h = or_none b ∙ sym (ap (λ s. b || list_any test (tokens_of s)) (drop_all i os l)) ∙ h

-- where no first byte stands
module _ (os : List (List ℕ)) (firsts : List ℕ) (groups : List OpenerGroup) (x : IsIndexOf os firsts groups) where
  pub apart : (b : ℕ) (t : List ℕ) → (is_one_of firsts b ≡ true → ⊥) → begins_with_one os (b ∷ t) ≡ false
  apart b t none = not_true (begins_with_one os (b ∷ t)) (λ h. none (x.firsts_are b ∙ starts_first os b t x.nonempty h))

  pub apart_at : (t : List ℕ) (n : ℕ) → n < length t → (is_one_of firsts (get_or t n 0) ≡ true → ⊥)
      → begins_with_one os (drop n t) ≡ false
  apart_at [] n l none = absurd (omega (arith, l))
  apart_at (b ∷ t) zero l none = apart b t none
  apart_at (b ∷ t) (suc n) l none = apart_at t n (omega (arith, l)) none

  -- from a place on, up to the next first byte of an opener
  pub none_passed : (t : List ℕ) (i j : ℕ) → j ≤ length t
      → ((k : ℕ) → i ≤ k → k < j → is_one_of firsts (get_or t k 0) ≡ false) → (k : ℕ) → i ≤ k → k < j
      → begins_with_one os (drop k t) ≡ false
  none_passed t i j l f k a h = apart_at t k (omega (arith, l, h)) (clash (is_one_of firsts (get_or t k 0)) (f k a h))
    where
      clash : (b : Bool) → b ≡ false → b ≡ true → ⊥
      clash b e y = absurd (cc)

-- the first byte that passes a test in the rest of a text, from a place on
module _ (p : ℕ → Bool) (t : List ℕ) (i : ℕ) (l : i ≤ length t) where
  unhit : (n : ℕ) → i + n ≤ length t → ((j : ℕ) → j < n → p (get_or (take (length t - i) (drop i t)) j 0) ≡ true → ⊥)
      → (k : ℕ) → i ≤ k → k < i + n → p (get_or t k 0) ≡ false
  unhit n fits f k a h =
      not_true (p (get_or t k 0)) (λ y. f (k - i) (omega (arith, a, h))
      (ap p (part_reads t i (length t - i) k a (omega (arith, h, fits))) ∙ y))

  pub hit_inside : (n : ℕ) → IsFirstByte p (take (length t - i) (drop i t)) (Some n) → i + n < length t
  hit_inside n f = omega (arith, l, f.0.high, part_len t i (length t) (omega arith))

  pub before_hit : (n : ℕ) → IsFirstByte p (take (length t - i) (drop i t)) (Some n) → (k : ℕ) → i ≤ k → k < i + n
      → p (get_or t k 0) ≡ false
  before_hit n f = unhit n (omega (arith, hit_inside n f)) (λ j a. f.0.before j (omega arith) a)

  pub without_hit : IsFirstByte p (take (length t - i) (drop i t)) None → (k : ℕ) → i ≤ k → k < length t
      → p (get_or t k 0) ≡ false
  without_hit f k a h =
      unhit (length t - i) (omega (arith, l))
      (λ j m. f j (omega arith) (omega (arith, m, part_len t i (length t) (omega arith)))) k a (omega (arith, l, h))

-- up to a place, and at it
pub one_more : (P : ℕ → Type 0) (i j : ℕ) → ((k : ℕ) → i ≤ k → k < j → P k) → P j → (k : ℕ) → i ≤ k → k < j + 1 → P k
one_more P i j f here k a h = elim (cases_lt k j) [
  | inl b ↦ f k a b
  | inr b ↦ let same : j ≡ k = omega (arith, b, h) in subst P same here
]

-- up to a place and from it on
pub none_up_to : (os : List (List ℕ)) (t : List ℕ) (i j : ℕ)
    → ((k : ℕ) → k < i → begins_with_one os (drop k t) ≡ false)
    → ((k : ℕ) → i ≤ k → k < j → begins_with_one os (drop k t) ≡ false) → (k : ℕ) → k < j
    → begins_with_one os (drop k t) ≡ false
none_up_to os t i j f g k h = elim (cases_lt k i) [
  | inl a ↦ f k a
  | inr a ↦ g k a h
]

-- the same from a place on
pub none_on : (os : List (List ℕ)) (t : List ℕ) (from i j : ℕ)
    → ((k : ℕ) → from ≤ k → k < i → begins_with_one os (drop k t) ≡ false)
    → ((k : ℕ) → i ≤ k → k < j → begins_with_one os (drop k t) ≡ false) → (k : ℕ) → from ≤ k → k < j
    → begins_with_one os (drop k t) ≡ false
none_on os t from i j f g k a h = elim (cases_lt k i) [
  | inl b ↦ f k a b
  | inr b ↦ g k b h
]

pub none_behind_one : (os : List (List ℕ)) (t : List ℕ) (from i : ℕ)
    → ((k : ℕ) → from ≤ k → k < i → begins_with_one os (drop k t) ≡ false) → begins_with_one os (drop i t) ≡ false
    → (k : ℕ) → from ≤ k → k < i + 1 → begins_with_one os (drop k t) ≡ false
none_behind_one os t from i before here =
    none_on os t from i (i + 1) before
    (λ k a h. let same : k ≡ i = omega (arith, a, h) in ap (λ j. begins_with_one os (drop j t)) same ∙ here)

-- at a place, and behind it
pub none_behind : (os : List (List ℕ)) (t : List ℕ) (i j : ℕ)
    → ((k : ℕ) → k < i → begins_with_one os (drop k t) ≡ false) → begins_with_one os (drop i t) ≡ false
    → ((k : ℕ) → i + 1 ≤ k → k < j → begins_with_one os (drop k t) ≡ false) → (k : ℕ) → k < j
    → begins_with_one os (drop k t) ≡ false
none_behind os t i j before here behind = none_up_to os t (i + 1) j upto behind
  where
    upto : (k : ℕ) → k < i + 1 → begins_with_one os (drop k t) ≡ false
    upto k h = elim (cases_lt k i) [
      | inl a ↦ before k a
      | inr a ↦ let same : k ≡ i = omega (arith, a, h) in ap (λ j. begins_with_one os (drop j t)) same ∙ here
    ]

-- a byte that was sought in a whole list
pub no_byte : (bs : List ℕ) (i x : ℕ) → length bs ≤ i → is_one_of (drop i bs) x ≡ is_one_of bs x
    → is_one_of bs x ≡ true → ⊥
no_byte bs i x l e y = clash (sym (ap (λ s. is_one_of s x) (drop_all i bs l)) ∙ e ∙ y)
  where
    clash : false ≡ true → ⊥
    clash h = absurd (cc)

-- a byte of a list that counts only before some others stands before another
parts : (x y z : Bool) → (x && (not y || z)) ≡ false → x ≡ true → (y ≡ true) × (z ≡ false)
parts true true false h e = (refl, refl)
parts true true true h e = absurd (cc)
parts true false z h e = absurd (cc)
parts false y z h e = absurd (cc)

-- where no byte stands that can begin an opener, or that of a group with one behind it with which none goes on
pub pair_apart : (os : List (List ℕ)) (firsts : List ℕ) (groups : List OpenerGroup) → IsIndexOf os firsts groups
    → (g : OpenerGroup) (near seconds : List ℕ) (byte : ℕ) → SameBytes near firsts
    → ((y : ℕ) → y < 256 → is_in g.seconds y ≡ true → is_one_of seconds y ≡ true) → IsGroupOf byte os g
    → (t : List ℕ) (k : ℕ) → k + 1 < length t → get_or t (k + 1) 0 < 256 → counts_at near byte seconds t k ≡ false
    → begins_with_one os (drop k t) ≡ false
pair_apart os firsts groups index g near seconds byte same has group t k inside fits none =
    by (is_one_of near (get_or t k 0)) refl
  where
    x : ℕ
    x = get_or t k 0

    y : ℕ
    y = get_or t (k + 1) 0

    by : (b : Bool) → is_one_of near (get_or t k 0) ≡ b → begins_with_one os (drop k t) ≡ false
    by false e = apart_at os firsts groups index t k (omega (arith, inside)) (λ h. contrary (sym e ∙ same x ∙ h))
    by true e =
        let p = parts (is_one_of near x) (x == byte) (is_one_of seconds y) none e in
        flag_apart os byte g group t k inside fits ((Decides-eqb x byte).0 p.0)
        (not_true (is_in g.seconds y) (λ h. contrary (sym p.1 ∙ has y fits h)))

-- a set of all bytes has each that a test finds
or_all : (a : Bool) → true ≡ (a || true)
or_all true = refl
or_all false = refl

filled : (flags all : List Bool) (y : ℕ) (b : Bool) → all ≡ replicate 256 true → y < 256 → b ≡ true → is_in all y ≡ (is_in flags y || b)
filled flags all y b full l h =
    ap (λ fs. is_in fs y) full ∙ get_or-replicate 256 y true false l ∙ or_all (is_in flags y) ∙ ap (λ c. is_in flags y || c) (sym h)

-- an opener of one byte goes on with each, and stands with each
short_goes_on : (y : ℕ) (o : List ℕ) → length o < 2 → goes_on_with y o ≡ true
short_goes_on y [] l = refl
short_goes_on y (a ∷ []) l = refl
short_goes_on y (a ∷ b ∷ o) l = absurd (omega (arith, l))

short_is_whole : (y : ℕ) (o : List ℕ) → length o < 2 → is_whole_with y o ≡ true
short_is_whole y [] l = refl
short_is_whole y (a ∷ []) l = refl
short_is_whole y (a ∷ b ∷ o) l = absurd (omega (arith, l))

pub seconds_filled : (flags all : List Bool) (o : List ℕ) → all ≡ replicate 256 true → length o < 2 → (y : ℕ) → y < 256
    → is_in all y ≡ (is_in flags y || goes_on_with y o)
seconds_filled flags all o full l y r = filled flags all y (goes_on_with y o) full r (short_goes_on y o l)

pub wholes_filled : (flags all : List Bool) (o : List ℕ) → all ≡ replicate 256 true → length o < 2 → (y : ℕ) → y < 256
    → is_in all y ≡ (is_in flags y || is_whole_with y o)
wholes_filled flags all o full l y r = filled flags all y (is_whole_with y o) full r (short_is_whole y o l)

-- none is in an empty set
pub none_yet : (flags : List Bool) (y : ℕ) (b : Bool) → flags ≡ replicate 256 false → y < 256 → (is_in flags y || b) ≡ b
none_yet flags y b none l = ap (λ fs. is_in fs y || b) none ∙ ap (λ c. c || b) (get_or-replicate 256 y false false l)

-- where an opener stands that a list holds one of the list does
holds_one : (os : List (List ℕ)) (o u : List ℕ) → holds os o ≡ true → begins o u ≡ true → begins_with_one os u ≡ true
unfolding begins_with_one
holds_one [] o u h e = h
holds_one (p ∷ os) o u h e =
    either (bytes_eq p o) (holds os o) (begins p u) (begins_with_one os u)
    (λ i. ap (λ q. begins q u) ((bytes_eq-Decides p o).0 i) ∙ e) (λ i. holds_one os o u i e) h

-- a group's own openers after one more: held already, without the byte at its front, or pushed
or_known : (a b : Bool) → (b ≡ true → a ≡ true) → a ≡ (a || b)
or_known true b f = refl
or_known false true f = f refl
or_known false false f = refl

pub own_held : (os : List (List ℕ)) (o u : List ℕ) → holds os o ≡ true
    → begins_with_one os u ≡ (begins_with_one os u || begins o u)
own_held os o u h = or_known (begins_with_one os u) (begins o u) (holds_one os o u h)

pub own_other : (os : List (List ℕ)) (o t : List ℕ) (byte : ℕ) → is_nonempty o ≡ true → is_first_of byte o ≡ false
    → begins_with_one os (byte ∷ t) ≡ (begins_with_one os (byte ∷ t) || begins o (byte ∷ t))
own_other os o t byte full h =
    or_known (begins_with_one os (byte ∷ t)) (begins o (byte ∷ t))
    (λ e. absurd (contrary (sym h ∙ begins_first o t byte full e)))

pub own_pushed : (os : List (List ℕ)) (o u : List ℕ)
    → begins_with_one (os ++ o ∷ []) u ≡ (begins_with_one os u || begins o u)
unfolding begins_with_one
own_pushed [] o u = sym (or_none (begins o u))
own_pushed (p ∷ os) o u =
    ap (λ b. begins p u || b) (own_pushed os o u) ∙ sym (or_assoc (begins p u) (begins_with_one os u) (begins o u))

pub own_none : (u : List ℕ) (b : Bool) → (begins_with_one [] u || b) ≡ b
unfolding begins_with_one
own_none u b = refl

pub own_all : (os : List (String Global)) (i : ℕ) → length os ≤ i → (u : List ℕ) (b all : Bool)
    → (b || begins_with_one (tokens_of (drop i os)) u) ≡ all → b ≡ all
unfolding begins_with_one
own_all os i l u = any_all (λ o. begins o u) os i l

pub own_more : (os : List (String Global)) (i : ℕ) (d : String Global) → i < length os → (o u : List ℕ)
    → o ≡ string_bytes (get_or os i d) → (before after : Bool) → after ≡ (before || begins o u)
    → (before || begins_with_one (tokens_of (drop i os)) u) ≡ begins_with_one (tokens_of os) u
    → (after || begins_with_one (tokens_of (drop (i + 1) os)) u) ≡ begins_with_one (tokens_of os) u
unfolding begins_with_one
own_more os i d l o u here before after added so_far =
    any_more (λ p. begins p u) os i d l o here before after (begins_with_one (tokens_of os) u) added so_far

pub nonempty_at : (os : List (String Global)) (i : ℕ) (d : String Global) → i < length os
    → list_all is_nonempty (tokens_of os) ≡ true → is_nonempty (string_bytes (get_or os i d)) ≡ true
nonempty_at [] i d l all = absurd (omega (arith, l))
nonempty_at (o ∷ os) zero d l all = and_left (is_nonempty (string_bytes o)) (list_all is_nonempty (tokens_of os)) all
nonempty_at (o ∷ os) (suc i) d l all =
    nonempty_at os i d (omega (arith, l)) (and_right (is_nonempty (string_bytes o)) (list_all is_nonempty (tokens_of os)) all)
