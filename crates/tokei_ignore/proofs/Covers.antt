-- A pattern that fits an entry is one without key, or one of the slot of an entry's key.
use Rattle.std.proofs.Common.{◌≡◌, ℕ, ◌&&◌, ◌||◌, List, Bool, true, false, max, Option, Some, None, refl, sym, ap, ◌∙◌, eq-eqb, arith}
use Rattle.tokei_ignore.specs.declared.patterns.Pattern.{Pattern}
use Rattle.tokei_ignore.specs.IgnoreFiles.{or_else}
use Rattle.tokei_ignore.specs.Patterns.{fits_entry}
use Rattle.tokei_ignore.specs.Segments.{fits_names}
use Rattle.tokei_ignore.specs.Keys.{path_key, whole_key, extension_key, pattern_key, key_of_path, key_of_name, key_of_extension}
use Rattle.tokei_ignore.specs.Index.{last_place, slot_of, has_slot, has_key, latest_in, latest_of, latest_fitting}
use Rattle.tokei_ignore.proofs.Spans.{either_left, either_right, cases_and}
use Rattle.tokei_ignore.proofs.KeysTell.{Tells, path_told, whole_told, extension_told}
use Rattle.tokei_ignore.proofs.Places.{place_either, place_same, place_none}

abbrev in_some : ℕ → Option ℕ → Option ℕ → Option ℕ → Pattern → Bool
in_some count w e a p = ((has_key count w p || has_key count e p) || has_key count a p) || has_slot count 0 p

own_slot : (count k : ℕ) (p : Pattern) → pattern_key p ≡ Some k → has_key count (Some k) p ≡ true
own_slot count k p e = eq-eqb (slot_of count (pattern_key p)) (slot_of count (Some k)) (ap (slot_of count) e)

own_key : (count k : ℕ) (key : Option ℕ) (p : Pattern) → pattern_key p ≡ Some k → key ≡ Some k → has_key count key p ≡ true
own_key count k key p e same = ap (λ (o : Option ℕ). has_key count o p) same ∙ own_slot count k p e

no_key : (count : ℕ) (p : Pattern) → pattern_key p ≡ None → has_slot count 0 p ≡ true
no_key count p e = eq-eqb (slot_of count (pattern_key p)) 0 (ap (slot_of count) e)

covered_by : (count : ℕ) (w e a : Option ℕ) (p : Pattern) (pw pe pa : Option ℕ)
    → Tells pw w → Tells pe e → Tells pa a
    → pattern_key p ≡ or_else pa (or_else pw pe)
    → in_some count w e a p ≡ true
covered_by count w e a p pw pe (Some k) tw te ta is =
    either_left _ (has_slot count 0 p) (either_right (has_key count w p || has_key count e p) (has_key count a p)
    (own_key count k a p is (ta k refl)))
covered_by count w e a p (Some k) pe None tw te ta is =
    either_left _ (has_slot count 0 p) (either_left _ (has_key count a p) (either_left (has_key count w p) (has_key count e p)
    (own_key count k w p is (tw k refl))))
covered_by count w e a p None (Some k) None tw te ta is =
    either_left _ (has_slot count 0 p) (either_left _ (has_key count a p) (either_right (has_key count w p) (has_key count e p)
    (own_key count k e p is (te k refl))))
covered_by count w e a p None None None tw te ta is =
    either_right _ (has_slot count 0 p) (no_key count p is)

covered : (count : ℕ) (p : Pattern) (names : List (List ℕ)) (folder : Bool) → fits_entry p names folder ≡ true
    → in_some count (key_of_name names) (key_of_extension names) (key_of_path names) p ≡ true
covered count p names folder h =
    let e = (cases_and _ (fits_names p.segments names) h).1 in
    covered_by count (key_of_name names) (key_of_extension names) (key_of_path names) p
    (whole_key p.segments) (extension_key p.segments) (path_key p.segments)
    (whole_told p.segments names e) (extension_told p.segments names e) (path_told p.segments names e) refl

-- where one of the parts holds of all that fits, what fits is what fits of some part
no_more : (a : Bool) → (a && false) ≡ false
no_more true = refl
no_more false = refl

none_fits : (a b c d : Bool) → false ≡ ((((a && false) || (b && false)) || (c && false)) || (d && false))
none_fits a b c d = sym (λ i. ((no_more a i || no_more b i) || no_more c i) || no_more d i)

all_fits : (a b c d : Bool) → (((a || b) || c) || d) ≡ true → true ≡ ((((a && true) || (b && true)) || (c && true)) || (d && true))
all_fits true b c d h = refl
all_fits false true c d h = refl
all_fits false false true d h = refl
all_fits false false false true h = refl
all_fits false false false false h = sym h

shared : (a b c d f : Bool) → (f ≡ true → (((a || b) || c) || d) ≡ true)
    → f ≡ ((((a && f) || (b && f)) || (c && f)) || (d && f))
shared a b c d true h = all_fits a b c d (h refl)
shared a b c d false h = none_fits a b c d

-- the last pattern that fits is the last one of those of the entry's slots
pub latest_of_slots : (count : ℕ) (ps : List Pattern) (names : List (List ℕ)) (folder : Bool)
    → max (max (max (latest_of count (key_of_name names) ps names folder) (latest_of count (key_of_extension names) ps names folder))
    (latest_of count (key_of_path names) ps names folder)) (latest_in count 0 ps names folder)
    ≡ latest_fitting ps names folder
unfolding latest_of latest_in latest_fitting
latest_of_slots count ps names folder =
    let fit : Pattern → Bool = λ p. fits_entry p names folder in
    let w : Pattern → Bool = λ p. has_key count (key_of_name names) p && fits_entry p names folder in
    let e : Pattern → Bool = λ p. has_key count (key_of_extension names) p && fits_entry p names folder in
    let a : Pattern → Bool = λ p. has_key count (key_of_path names) p && fits_entry p names folder in
    let r : Pattern → Bool = λ p. has_slot count 0 p && fits_entry p names folder in
    sym (place_same fit (λ p. ((w p || e p) || a p) || r p) ps
    (λ p. shared (has_key count (key_of_name names) p) (has_key count (key_of_extension names) p) (has_key count (key_of_path names) p) (has_slot count 0 p)
    (fits_entry p names folder) (covered count p names folder))
    ∙ place_either (λ p. (w p || e p) || a p) r ps
    ∙ ap (λ n. max n (last_place r ps)) (place_either (λ p. w p || e p) a ps
    ∙ ap (λ n. max n (last_place a ps)) (place_either w e ps)))

-- no key has no pattern
pub no_key_left : (count best : ℕ) (key : Option ℕ) (ps : List Pattern) (names : List (List ℕ)) (folder : Bool) → key ≡ None
    → best ≡ max best (latest_of count key ps names folder)
unfolding latest_of
no_key_left count best key ps names folder e =
    let z : last_place (λ p. has_key count key p && fits_entry p names folder) ps ≡ 0 =
    ap (λ (o : Option ℕ). last_place (λ p. has_key count o p && fits_entry p names folder) ps) e
    ∙ place_none (λ (p : Pattern). false) ps (λ p. refl) in
    omega (arith, z)

-- the patterns of a key are those of its slot
pub slot_of_one : (count slot k : ℕ) (key : Option ℕ) (ps : List Pattern) (names : List (List ℕ)) (folder : Bool) → key ≡ Some k
    → slot ≡ slot_of count (Some k) → latest_in count slot ps names folder ≡ latest_of count key ps names folder
unfolding latest_of latest_in
slot_of_one count slot k key ps names folder e is =
    ap (λ (s : ℕ). last_place (λ p. has_slot count s p && fits_entry p names folder) ps) is
    ∙ ap (λ (o : Option ℕ). last_place (λ p. has_key count o p && fits_entry p names folder) ps) (sym e)

-- one slot after another
pub all_slots : (count one two three four : ℕ) (w e a : Option ℕ) (ps : List Pattern) (names : List (List ℕ)) (folder : Bool)
    → w ≡ key_of_name names → e ≡ key_of_extension names → a ≡ key_of_path names
    → one ≡ max 0 (latest_of count w ps names folder) → two ≡ max one (latest_of count e ps names folder)
    → three ≡ max two (latest_of count a ps names folder) → four ≡ max three (latest_in count 0 ps names folder)
    → four ≡ latest_fitting ps names folder
all_slots count one two three four w e a ps names folder iw ie ia e1 e2 e3 e4 =
    let fw = ap (λ (o : Option ℕ). latest_of count o ps names folder) iw in
    let fe = ap (λ (o : Option ℕ). latest_of count o ps names folder) ie in
    let fa = ap (λ (o : Option ℕ). latest_of count o ps names folder) ia in
    let whole = latest_of_slots count ps names folder in
    omega (arith, fw, fe, fa, e1, e2, e3, e4, whole)
