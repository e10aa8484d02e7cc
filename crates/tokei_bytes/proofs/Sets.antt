-- The few bytes of a set.
use Rattle.std.proofs.Common.{◌≡◌, ℕ, zero, suc, ◌+◌, ◌<◌, ◌≤◌, ◌⊎◌, inl, inr, ◌==◌, ◌||◌, Bool, true, false, cond, List, [], ◌∷◌, take, length, get_or, slice_index_or, set, replicate, refl, sym, ap, subst, ◌∙◌, arith, true≢false, get_or-set_same, get_or-set_other}
use Rattle.std.proofs.lemmas.Bool.Decides.{Decides-eqb}
use Rattle.std.proofs.lemmas.List.{get_or-replicate}
use Rattle.tokei_bytes.specs.OneOf.{is_one_of}
use Rattle.tokei_bytes.specs.ByteSets.{AreSlotted, AreSlottedAlone, HasFew, is_in, with_one}
use Rattle.tokei_bytes.specs.Slots.{in_slots, is_slotted}
use Rattle.tokei_bytes.proofs.Blocks.{the_one}
use Rattle.tokei_bytes.proofs.LowHalves.{in_both, no_slot, put_first, put_second}

one_more : (y : Bool) (r : Bool) → r ≡ true → cond y true r ≡ true
one_more true r h = refl
one_more false r h = h

-- one of the first n is one of all
pub among : (n : ℕ) (bs : List ℕ) (x : ℕ) → is_one_of (take n bs) x ≡ true → is_one_of bs x ≡ true
among zero bs x h = cc
among (suc n) [] x h = cc
among (suc n) (b ∷ bs) x h = by_test (x == b) h (among n bs x)
  where
    by_test : (y : Bool) → cond y true (is_one_of (take n bs) x) ≡ true → (is_one_of (take n bs) x ≡ true → is_one_of bs x ≡ true) → cond y true (is_one_of bs x) ≡ true
    by_test true h rest = refl
    by_test false h rest = rest h

-- a byte that is none of four which begin with the few isn't in the set
pub outside : (flags : List Bool) (few all : List ℕ) (n b : ℕ) → HasFew flags few n → n ≤ 4 → b < 256 → take n few ≡ take n all → is_one_of all b ≡ false → slice_index_or flags b false ≡ false
outside flags few all n b has small fits same none = by_flag (slice_index_or flags b false) (has.holds small b fits)
  where
    by_flag : (y : Bool) → (y ≡ true → is_one_of (take n few) b ≡ true) → y ≡ false
    by_flag false h = refl
    by_flag true h = let there : is_one_of all b ≡ true = among n all b (ap (λ bs. is_one_of bs b) (sym same) ∙ h refl) in cc

-- at most three of four stand in the first three places
pub three : (few : List ℕ) (n x : ℕ) → length few ≡ 4 → n < 4 → take n few ≡ take n (get_or few 0 0 ∷ get_or few 1 0 ∷ get_or few 2 0 ∷ x ∷ [])
three [] n x four small = absurd (omega arith)
three (a ∷ []) n x four small = absurd (omega arith)
three (a ∷ b ∷ []) n x four small = absurd (omega arith)
three (a ∷ b ∷ c ∷ []) n x four small = absurd (omega arith)
three (a ∷ b ∷ c ∷ d ∷ e ∷ r) n x four small = absurd (omega arith)
three (a ∷ b ∷ c ∷ d ∷ []) zero x four small = refl
three (a ∷ b ∷ c ∷ d ∷ []) (suc zero) x four small = refl
three (a ∷ b ∷ c ∷ d ∷ []) (suc (suc zero)) x four small = refl
three (a ∷ b ∷ c ∷ d ∷ []) (suc (suc (suc zero))) x four small = refl
three (a ∷ b ∷ c ∷ d ∷ []) (suc (suc (suc (suc n)))) x four small = absurd (omega (arith, small))

pub alone : (few : List ℕ) (n x : ℕ) → n ≡ 0 → x ∷ x ∷ x ∷ x ∷ [] ≡ with_one few n x
alone few zero x h = refl
alone few (suc n) x h = absurd (omega arith)

with_front : (few : List ℕ) (n x : ℕ) → length few ≡ 4 → n < 4 → take (n + 1) (with_one few n x) ≡ x ∷ take n few
with_front [] n x four small = absurd (omega arith)
with_front (a ∷ []) n x four small = absurd (omega arith)
with_front (a ∷ b ∷ []) n x four small = absurd (omega arith)
with_front (a ∷ b ∷ c ∷ []) n x four small = absurd (omega arith)
with_front (a ∷ b ∷ c ∷ d ∷ e ∷ r) n x four small = absurd (omega arith)
with_front (a ∷ b ∷ c ∷ d ∷ []) zero x four small = refl
with_front (a ∷ b ∷ c ∷ d ∷ []) (suc zero) x four small = refl
with_front (a ∷ b ∷ c ∷ d ∷ []) (suc (suc zero)) x four small = refl
with_front (a ∷ b ∷ c ∷ d ∷ []) (suc (suc (suc zero))) x four small = refl
with_front (a ∷ b ∷ c ∷ d ∷ []) (suc (suc (suc (suc n)))) x four small = absurd (omega (arith, small))

-- the byte in front of the others, or one of those
pub in_front : (few : List ℕ) (n x b : ℕ) → length few ≡ 4 → n < 4 → (b ≡ x) ⊎ (is_one_of (take n few) b ≡ true) → is_one_of (take (n + 1) (with_one few n x)) b ≡ true
in_front few n x b four small h = ap (λ bs. is_one_of bs b) (with_front few n x four small) ∙ by_side h
  where
    by_side : (b ≡ x) ⊎ (is_one_of (take n few) b ≡ true) → cond (b == x) true (is_one_of (take n few) b) ≡ true
    by_side (inl e) = ap (λ y. cond y true (is_one_of (take n few) b)) ((Decides-eqb b x).1 e)
    by_side (inr h) = one_more (b == x) (is_one_of (take n few) b) h

pub length-with_one : (few : List ℕ) (n x : ℕ) → length (with_one few n x) ≡ 4
length-with_one few zero x = refl
length-with_one few (suc n) x = refl

-- one of a list is the first or one of the others
first_or_other : (x : ℕ) (bs : List ℕ) (b : ℕ) → is_one_of (x ∷ bs) b ≡ true → (b ≡ x) ⊎ (is_one_of bs b ≡ true)
first_or_other x bs b h = by_test (b == x) refl h
  where
    by_test : (y : Bool) → (b == x) ≡ y → cond y true (is_one_of bs b) ≡ true → (b ≡ x) ⊎ (is_one_of bs b ≡ true)
    by_test true e h = inl ((Decides-eqb b x).0 e)
    by_test false e h = inr h

-- one of the first three is one of all
one_of_three : (few : List ℕ) (b : ℕ) → length few ≡ 4 → is_one_of (get_or few 0 0 ∷ get_or few 1 0 ∷ get_or few 2 0 ∷ []) b ≡ true → is_one_of few b ≡ true
one_of_three [] b four h = absurd (omega arith)
one_of_three (x ∷ []) b four h = absurd (omega arith)
one_of_three (x ∷ y ∷ []) b four h = absurd (omega arith)
one_of_three (x ∷ y ∷ z ∷ w ∷ v ∷ r) b four h = absurd (omega arith)
one_of_three (x ∷ y ∷ z ∷ []) b four h = absurd (omega arith)
one_of_three (x ∷ y ∷ z ∷ w ∷ []) b four h = among 3 (x ∷ y ∷ z ∷ w ∷ []) b h

-- what holds of the byte and of the few holds of both
pub each_with_one : (P : ℕ → Type 0) (few : List ℕ) (n x : ℕ) → length few ≡ 4 → P x → (0 < n → (b : ℕ) → is_one_of few b ≡ true → P b) → (b : ℕ) → is_one_of (with_one few n x) b ≡ true → P b
each_with_one P few zero x four own rest b h = subst P (sym (the_one b x h)) own
each_with_one P few (suc n) x four own rest b h = elim (first_or_other x (get_or few 0 0 ∷ get_or few 1 0 ∷ get_or few 2 0 ∷ []) b h) [
  | inl e ↦ subst P (sym e) own
  | inr others ↦ rest (omega arith) b (one_of_three few b four others)
]

or_none : (a : Bool) → a ≡ (a || false)
or_none true = refl
or_none false = refl

or_one : (a : Bool) → true ≡ (a || true)
or_one true = refl
or_one false = refl

-- a byte that is put into a set is in it beside the others
pub put_in : (flags : List Bool) (b x : ℕ) → b < length flags → is_in (set flags b true) x ≡ (is_in flags x || (x == b))
put_in flags b x l = by (x == b) refl
  where
    by : (c : Bool) → (x == b) ≡ c → is_in (set flags b true) x ≡ (is_in flags x || (x == b))
    by true q =
        ap (λ k. get_or (set flags b true) k false) ((Decides-eqb x b).0 q)
        ∙ get_or-set_same flags b true false l
        ∙ or_one (get_or flags x false)
        ∙ ap (λ c. get_or flags x false || c) (sym q)
    by false q =
        get_or-set_other flags b x true false (λ e. true≢false (sym ((Decides-eqb x b).1 e) ∙ q))
        ∙ or_none (get_or flags x false)
        ∙ ap (λ c. get_or flags x false || c) (sym q)

either_of : (a c : Bool) → (a || c) ≡ true → (a ≡ true) ⊎ (c ≡ true)
either_of true c h = inl refl
either_of false c h = inr h

left_of : (a c : Bool) → a ≡ true → (a || c) ≡ true
left_of true c h = refl
left_of false c h = cc

right_of : (a c : Bool) → c ≡ true → (a || c) ≡ true
right_of true c h = refl
right_of false c h = h

-- those in the set stay in it
stays_in : (flags : List Bool) (b x : ℕ) → b < length flags → is_in flags x ≡ true → is_in (set flags b true) x ≡ true
stays_in flags b x l h = put_in flags b x l ∙ left_of (is_in flags x) (x == b) h

-- no byte is in the set
pub none_in : HasFew (replicate 256 false) (0 ∷ 0 ∷ 0 ∷ 0 ∷ []) 0
none_in = record {
  four = refl;
  holds = λ small b fits h. absurd (true≢false (sym h ∙ get_or-replicate 256 b false false fits));
  held = λ some b h. absurd (omega (arith, some));
}

-- a byte more among the few
pub few_with_one : (flags : List Bool) (few : List ℕ) (n b : ℕ) → b < length flags → HasFew flags few n → n ≤ 4
    → HasFew (set flags b true) (with_one few n b) (n + 1)
few_with_one flags few n b l has small = record {
  four = length-with_one few n b;
  holds = λ most x fits h.
      in_front few n b x has.four (omega (arith, most))
      (elim (either_of (is_in flags x) (x == b) (sym (put_in flags b x l) ∙ h)) [
        | inl old ↦ inr (has.holds small x fits old)
        | inr same ↦ inl ((Decides-eqb x b).0 same)
      ]);
  held = λ some x h.
      each_with_one (λ y. is_in (set flags b true) y ≡ true) few n b has.four
      (put_in flags b b l ∙ right_of (is_in flags b) (b == b) ((Decides-eqb b b).1 refl))
      (λ any y k. stays_in flags b y l (has.held any y k)) x h;
}

-- and where there are more than four already
pub few_past : (flags : List Bool) (few : List ℕ) (n b : ℕ) → b < length flags → HasFew flags few n → 4 < n → HasFew (set flags b true) few n
few_past flags few n b l has past = record {
  four = has.four;
  holds = λ small x fits h. absurd (omega (arith, small, past));
  held = λ some x h. stays_in flags b x l (has.held some x h);
}

-- no slot of no bytes has one
pub none_slotted : AreSlotted (replicate 256 false) (1 ∷ replicate 15 0) (1 ∷ replicate 15 0) true
none_slotted = λ all b fits.
    ap (λ one. one || is_slotted (1 ∷ replicate 15 0) b) (no_slot b)
    ∙ no_slot b
    ∙ sym (get_or-replicate 256 b false false fits)

-- nor has the one table any
pub none_alone : AreSlottedAlone (replicate 256 false) (1 ∷ replicate 15 0) true
none_alone = λ so b fits. no_slot b ∙ sym (get_or-replicate 256 b false false fits)

-- a byte was put into a slot of its own, or wasn't; the others stay in theirs
pub record IsPut (slots new : List ℕ) (done : Bool) (byte : ℕ) : Type 0 where
  pub stays : done ≡ true → (x : ℕ) → is_slotted slots x ≡ true → is_slotted new x ≡ true
  pub put : done ≡ true → is_slotted new byte ≡ true
  pub only : (x : ℕ) → is_slotted new x ≡ true → (is_slotted slots x ≡ true) ⊎ (x ≡ byte)
  pub kept : done ≡ false → new ≡ slots

stays_put : (slots new : List ℕ) (alone : Bool) (b x : ℕ) → IsPut slots new alone b → is_slotted slots x ≡ true → is_slotted new x ≡ true
stays_put slots new true b x is h = is.stays refl x h
stays_put slots new false b x is h = ap (λ s. is_slotted s x) (is.kept refl) ∙ h

same_flag : (a c : Bool) → (a ≡ true → c ≡ true) → (c ≡ true → a ≡ true) → a ≡ c
same_flag true c to from = sym (to refl)
same_flag false true to from = from refl
same_flag false false to from = refl

-- a byte more, and its slot: of the first, or else of the others
pub stay_slotted : (flags : List Bool) (slots others new new_others : List ℕ) (have all alone : Bool) (b : ℕ) → b < length flags
    → AreSlotted flags slots others have
    → IsPut slots new alone b
    → (all ≡ true → have ≡ true)
    → (all ≡ true → (x : ℕ) → is_slotted others x ≡ true → is_slotted new_others x ≡ true)
    → (all ≡ true → alone ≡ false → is_slotted new_others b ≡ true)
    → ((x : ℕ) → is_slotted new_others x ≡ true → (is_slotted others x ≡ true) ⊎ (x ≡ b))
    → AreSlotted (set flags b true) new new_others all
stay_slotted flags slots others new new_others have all alone b l are is before stays put only = λ so x fits.
    let in_set = are (before so) x fits in
    same_flag (in_slots new new_others x) (is_in (set flags b true) x)
    (λ h. put_in flags b x l ∙ (elim (either_of (is_slotted new x) (is_slotted new_others x) h) [
      | inl first ↦ from_one x (in_set) (λ old. put_first slots others x old) (is.only x first)
      | inr second ↦ from_one x (in_set) (λ old. put_second slots others x old) (only x second)
    ]))
    (λ h. elim (either_of (is_in flags x) (x == b) (sym (put_in flags b x l) ∙ h)) [
      | inl old ↦ in_both slots others new new_others x (stays_put slots new alone b x is) (stays so x) (in_set ∙ old)
      | inr same ↦ subst (λ y. in_slots new new_others y ≡ true) (sym ((Decides-eqb x b).0 same)) (by_side so alone refl)
    ])
  where
    by_side : all ≡ true → (y : Bool) → alone ≡ y → in_slots new new_others b ≡ true
    by_side so true e = put_first new new_others b (is.put e)
    by_side so false e = put_second new new_others b (put so e)

    from_one : (x : ℕ) {there : Bool} → in_slots slots others x ≡ is_in flags x → (there ≡ true → in_slots slots others x ≡ true)
        → (there ≡ true) ⊎ (x ≡ b) → (is_in flags x || (x == b)) ≡ true
    from_one x in_set first (inl old) = left_of (is_in flags x) (x == b) (sym in_set ∙ first old)
    from_one x in_set first (inr same) = right_of (is_in flags x) (x == b) ((Decides-eqb x b).1 same)

-- a byte more among those that stand in slots alone
pub stay_alone : (flags : List Bool) (slots new : List ℕ) (have alone all : Bool) (b : ℕ) → b < length flags
    → AreSlottedAlone flags slots have
    → IsPut slots new alone b
    → (all ≡ true → (have ≡ true) × (alone ≡ true)) → AreSlottedAlone (set flags b true) new all
stay_alone flags slots new have alone all b l are is each = λ so x fits.
    let both = each so in
    same_flag (is_slotted new x) (is_in (set flags b true) x)
    (λ h. put_in flags b x l ∙ (elim (is.only x h) [
      | inl old ↦ left_of (is_in flags x) (x == b) (sym (are both.0 x fits) ∙ old)
      | inr same ↦ right_of (is_in flags x) (x == b) ((Decides-eqb x b).1 same)
    ]))
    (λ h. elim (either_of (is_in flags x) (x == b) (sym (put_in flags b x l) ∙ h)) [
      | inl old ↦ is.stays both.1 x (are both.0 x fits ∙ old)
      | inr same ↦ subst (λ y. is_slotted new y ≡ true) (sym ((Decides-eqb x b).0 same)) (is.put both.1)
    ])

-- a byte that is in no slot isn't in the set
pub outside_slots : (flags : List Bool) (slots others : List ℕ) (have : Bool) (b : ℕ) → AreSlotted flags slots others have → have ≡ true → b < 256
    → in_slots slots others b ≡ false → is_in flags b ≡ false
outside_slots flags slots others have b are so fits none = sym (are so b fits) ∙ none

-- none of three of a few and another byte, or one
pub apart_of_three : (few : List ℕ) (x b : ℕ) → is_one_of (get_or few 0 0 ∷ get_or few 1 0 ∷ get_or few 2 0 ∷ x ∷ []) b ≡ false → (b == x) ≡ false
apart_of_three few x b h = by_tests (b == get_or few 0 0) (b == get_or few 1 0) (b == get_or few 2 0) (b == x) h
  where
    by_tests : (p q r y : Bool) → cond p true (cond q true (cond r true (cond y true false))) ≡ false → y ≡ false
    by_tests false false false false h = refl
    by_tests false false false true h = cc
    by_tests false false true y h = cc
    by_tests false true r y h = cc
    by_tests true q r y h = cc

pub met_of_three : (few : List ℕ) (x b : ℕ) (within : Bool) → length few ≡ 4
    → (is_one_of few b ≡ true → within ≡ true)
    → is_one_of (get_or few 0 0 ∷ get_or few 1 0 ∷ get_or few 2 0 ∷ x ∷ []) b ≡ true
    → ((b == x) || within) ≡ true
met_of_three [] x b within four held h = absurd (omega arith)
met_of_three (c ∷ []) x b within four held h = absurd (omega arith)
met_of_three (c ∷ d ∷ []) x b within four held h = absurd (omega arith)
met_of_three (c ∷ d ∷ e ∷ []) x b within four held h = absurd (omega arith)
met_of_three (c ∷ d ∷ e ∷ f ∷ few) x b within four held h = by_tests (b == c) (b == d) (b == e) (b == x) held h
  where
    by_tests : (p q r y : Bool)
        → (cond p true (cond q true (cond r true (is_one_of (f ∷ few) b))) ≡ true → within ≡ true)
        → cond p true (cond q true (cond r true (cond y true false))) ≡ true → (y || within) ≡ true
    by_tests p q r true held h = refl
    by_tests true q r false held h = held refl
    by_tests false true r false held h = held refl
    by_tests false false true false held h = held refl
    by_tests false false false false held h = cc

pub neither : (y z : Bool) → y ≡ false → z ≡ false → (y || z) ≡ false
neither true z h k = cc
neither false z h k = k
