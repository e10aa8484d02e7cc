-- Where no two bytes tell an opener none stands.
use Rattle.std.proofs.Common.{◌≡◌, ℕ, ◌+◌, Bool, true, false, ◌&&◌, ◌||◌, nat_eq, List, [], ◌∷◌, drop, get_or, refl, sym, ap, ap₂, ◌∙◌, arith, ◌⊎◌, inl, inr}
use Rattle.std.specs.List.{list_all}
use Rattle.std.proofs.lemmas.Bool.Decides.{Decides-eqb}
use Rattle.tokei_bytes.specs.Slots.{is_slotted, is_told}
use Rattle.tokei_table_row.specs.Bytes.{begins, begins_with_one}
use Rattle.tokei_table_search.specs.Tellers.{AreTellers, tells}
use Rattle.tokei_table_search.specs.declared.tellers.Tellers.{Tellers}
use Rattle.std.proofs.lemmas.List.{get_or-drop}
use Rattle.tokei_table_search.proofs.OpenerGroups.{and_left, and_right, not_true}

module _ (alone firsts seconds : List ℕ) where
  or_more : (a b : Bool) → a ≡ true → (a || b) ≡ true
  or_more true b h = refl
  or_more false b h = cc

  contrary : (b : Bool) → b ≡ false → b ≡ true → ⊥
  contrary b e h = absurd (cc)

  -- an opener that stands is told
  told_one : (o u : List ℕ) → tells alone firsts seconds o ≡ true → begins o u ≡ true
      → is_told alone firsts seconds (get_or u 0 0) (get_or u 1 0) ≡ true
  told_one [] u h e = absurd (cc)
  told_one (a ∷ o) [] h e = absurd (cc)
  told_one (a ∷ []) (x ∷ t) h e =
      let same : a ≡ x = (Decides-eqb a x).0 (and_left (nat_eq a x) true e) in
      or_more (is_slotted alone x) (is_slotted firsts x && is_slotted seconds (get_or (x ∷ t) 1 0))
      (ap (is_slotted alone) (sym same) ∙ h)
  told_one (a ∷ b ∷ o) (x ∷ []) h e = absurd (contrary false refl (and_right (nat_eq a x) false e))
  told_one (a ∷ b ∷ o) (x ∷ y ∷ t) h e =
      let first : a ≡ x = (Decides-eqb a x).0 (and_left (nat_eq a x) (nat_eq b y && begins o t) e) in
      let second : b ≡ y = (Decides-eqb b y).0 (and_left (nat_eq b y) (begins o t) (and_right (nat_eq a x) (nat_eq b y && begins o t) e)) in
      ap₂ (is_told alone firsts seconds) (sym first) (sym second) ∙ h

  none_told : (os : List (List ℕ)) (u : List ℕ) → list_all (tells alone firsts seconds) os ≡ true
      → is_told alone firsts seconds (get_or u 0 0) (get_or u 1 0) ≡ false → begins_with_one os u ≡ false
  unfolding begins_with_one
  none_told [] u all none = refl
  none_told (o ∷ os) u all none =
      ap (λ b. b || begins_with_one os u)
      (not_true (begins o u) (λ h. contrary _ none (told_one o u (and_left (tells alone firsts seconds o) (list_all (tells alone firsts seconds) os) all) h)))
      ∙ none_told os u (and_right (tells alone firsts seconds o) (list_all (tells alone firsts seconds) os) all) none

  -- where no two bytes tell one, none stands
  pub told_apart : (os : List (List ℕ)) (t : List ℕ) (n : ℕ) → list_all (tells alone firsts seconds) os ≡ true
      → is_told alone firsts seconds (get_or t n 0) (get_or t (n + 1) 0) ≡ false → begins_with_one os (drop n t) ≡ false
  told_apart os t n all none =
      let here : n + 0 ≡ n = omega arith in
      none_told os (drop n t) all
      (ap₂ (is_told alone firsts seconds) (get_or-drop n t 0 0 ∙ ap (λ k. get_or t k 0) here) (get_or-drop n t 1 0) ∙ none)

both_false : (a b c : Bool) → a ≡ false → (b ≡ false) ⊎ (c ≡ false) → (a || (b && c)) ≡ false
both_false true b c h e = absurd (cc)
both_false false true c h e = elim e [ inl i ↦ absurd (cc) | inr i ↦ i ]
both_false false false c h e = refl

-- at a text's front, by the bytes that tell the openers
pub untold : (tellers : Tellers) (os : List (List ℕ)) (u : List ℕ) → AreTellers tellers os
    → is_slotted tellers.alone (get_or u 0 0) ≡ false
    → (is_slotted tellers.firsts (get_or u 0 0) ≡ false) ⊎ (is_slotted tellers.seconds (get_or u 1 0) ≡ false)
    → begins_with_one os u ≡ false
untold tellers os u all alone pair =
    none_told tellers.alone tellers.firsts tellers.seconds os u all
    (both_false (is_slotted tellers.alone (get_or u 0 0)) (is_slotted tellers.firsts (get_or u 0 0))
    (is_slotted tellers.seconds (get_or u 1 0)) alone pair)
