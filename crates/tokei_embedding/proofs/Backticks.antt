-- Where three backticks stand, and where they can't.
use Rattle.std.proofs.Common.{◌≡◌, ℕ, suc, zero, ◌+◌, ◌-◌, ◌<◌, ◌≤◌, true, false, ◌&&◌, ◌==◌, List, length, take, drop}
use Rattle.std.proofs.Common.{get_or, ◌⊎◌, inl, inr, refl, sym, ◌∙◌, ap, arith, get_or-take, get_or-drop}
use Rattle.std.proofs.lemmas.Bool.{cases_lt}
use Rattle.std.proofs.lemmas.List.{drop-take}
use Rattle.tokei_table_row.proofs.Finds.{occurs-begins}
use Rattle.tokei_table_row.specs.Bytes.{begins}
use Rattle.tokei_embedding.proofs.FirstPlaces.{part_length}
use Rattle.tokei_embedding.proofs.Places.{begins-at, not_true}
use Rattle.tokei_embedding.specs.Fences.{fence, opens_fence, begins_info}

fence_byte : (j : ℕ) → j < 3 → get_or fence j 0 ≡ 96
fence_byte zero l = refl
fence_byte (suc zero) l = refl
fence_byte (suc (suc zero)) l = refl
fence_byte (suc (suc (suc j))) l = absurd (omega (arith, l))

differ : (a : ℕ) → a ≡ 96 → (a == 96) ≡ false → ⊥
differ a e h = grind arith

-- another byte stands at a place of the fence
pub other_byte : (t : List ℕ) (p j k : ℕ) → k ≡ p + j → j < 3 → (get_or t k 0 ≡ 96 → ⊥) → begins fence (drop p t) ≡ false
other_byte t p j k e l h = not_true (begins fence (drop p t)) (λ b.
    let o = begins-at fence t p (omega arith) b in
    h (ap (λ i. get_or t i 0) e ∙ o.reads j l ∙ fence_byte j l))

-- the text ends too soon
pub too_short : (t : List ℕ) (p : ℕ) → length t < p + 3 → begins fence (drop p t) ≡ false
too_short t p l = not_true (begins fence (drop p t)) (λ b. let o = begins-at fence t p (omega arith) b in omega (arith, o.fits, l))

-- the places whose third byte stands before the next backtick
pub before_third : (t : List ℕ) (from third p : ℕ) → ((q : ℕ) → from + 2 ≤ q → q < third → (get_or t q 0 == 96) ≡ false) → from ≤ p → p + 2 < third → begins fence (drop p t) ≡ false
before_third t from third p apart l m = other_byte t p 2 (p + 2) refl (omega arith) (λ e. differ (get_or t (p + 2) 0) e (apart (p + 2) (omega arith) m))

-- so it is with the two others, where no backtick stands right before that one
pub over_one : (t : List ℕ) (from third p : ℕ) → ((q : ℕ) → from + 2 ≤ q → q < third → (get_or t q 0 == 96) ≡ false) → (get_or t (third - 1) 0 ≡ 96 → ⊥) → from + 2 ≤ third → from ≤ p → p < third
    → begins fence (drop p t) ≡ false
over_one t from third p apart h n l m = by (cases_lt (p + 2) third)
  where
    at_end : (p + 1 < third) ⊎ (third ≤ p + 1) → third ≤ p + 2 → begins fence (drop p t) ≡ false
    at_end (inl k) j = other_byte t p 1 (third - 1) (omega arith) (omega arith) h
    at_end (inr k) j = other_byte t p 0 (third - 1) (omega arith) (omega arith) h

    by : (p + 2 < third) ⊎ (third ≤ p + 2) → begins fence (drop p t) ≡ false
    by (inl k) = before_third t from third p apart l k
    by (inr k) = at_end (cases_lt (p + 1) third) k

-- no fence stands in the rest, where no backtick does
pub none_left : (t : List ℕ) (from third p : ℕ) → third ≡ length t → ((q : ℕ) → from + 2 ≤ q → q < third → (get_or t q 0 == 96) ≡ false) → from ≤ p → begins fence (drop p t) ≡ false
none_left t from third p e apart l = by (cases_lt (p + 2) third)
  where
    by : (p + 2 < third) ⊎ (third ≤ p + 2) → begins fence (drop p t) ≡ false
    by (inl k) = before_third t from third p apart l k
    by (inr k) = too_short t p (omega (arith, e))

-- where none stands, none opens
pub no_opening : (t : List ℕ) → begins fence t ≡ false → opens_fence t ≡ false
no_opening t h = ap (λ x. x && begins_info (drop 3 t)) h

-- a search that goes on from a place finds none before it either
pub none_until : (t : List ℕ) (from at to p : ℕ) → ((q : ℕ) → from ≤ q → q < at → begins fence (drop q t) ≡ false) → ((q : ℕ) → at ≤ q → q < to → begins fence (drop q t) ≡ false)
    → from ≤ p → p < to → begins fence (drop p t) ≡ false
none_until t from at to p before behind l m = by (cases_lt p at)
  where
    by : (p < at) ⊎ (at ≤ p) → begins fence (drop p t) ≡ false
    by (inl k) = before p l k
    by (inr k) = behind p k m

-- what a text's front holds from a place on
pub front_from : (t : List ℕ) (p to : ℕ) → p ≤ to → drop p (take to t) ≡ take (to - p) (drop p t)
front_from t p to l =
    let e : to ≡ p + (to - p) = omega arith in
    ap (λ k. drop p (take k t)) e ∙ drop-take p (to - p) t

-- where no backtick stands in the text none stands in its front
pub apart_in_front : (t : List ℕ) (from end to : ℕ) → end ≤ to
    → ((q : ℕ) → from ≤ q → q < end → (get_or t q 0 == 96) ≡ false)
    → (q : ℕ) → from ≤ q → q < end → (get_or (take to t) q 0 == 96) ≡ false
apart_in_front t from end to h apart q l m = ap (λ x. x == 96) (get_or-take to t q 0 (omega arith)) ∙ apart q l m

-- what stands in the front stands in the text
pub read_there : (t : List ℕ) (k to : ℕ) → k < to → get_or (take to t) k 0 ≡ 96 → get_or t k 0 ≡ 96
read_there t k to l h = sym (get_or-take to t k 0 l) ∙ h

-- a fence that isn't in the front from a place on isn't in the rest of it
pub none_in_part : (t : List ℕ) (from end to : ℕ) → end ≤ to
    → ((p : ℕ) → from ≤ p → p < end → begins fence (drop p (take to t)) ≡ false)
    → (p : ℕ) → from ≤ p → p < end → begins fence (take (to - p) (drop p t)) ≡ false
none_in_part t from end to h none p l m = ap (begins fence) (sym (front_from t p to (omega arith))) ∙ none p l m

-- three backticks in a row are a fence
pub three_stand : (t : List ℕ) (third to : ℕ) → 2 ≤ third → third < to → to ≤ length t
    → get_or t third 0 ≡ 96 → get_or t (third - 1) 0 ≡ 96 → get_or t (third - 2) 0 ≡ 96
    → begins fence (take (to - (third - 2)) (drop (third - 2) t)) ≡ true
three_stand t third to l m n e f g =
    occurs-begins fence (take (to - (third - 2)) (drop (third - 2) t)) (record {
      fits = omega (arith, part_length t (third - 2) (to - (third - 2)) (omega arith));
      reads = reads;
    })
  where
    at : (a b : ℕ) → a ≡ b → get_or t b 0 ≡ 96 → get_or t a 0 ≡ 96
    at a b s h = ap (λ k. get_or t k 0) s ∙ h

    each : (j : ℕ) → j < 3 → get_or t ((third - 2) + (0 + j)) 0 ≡ 96
    each zero k = at ((third - 2) + (0 + 0)) (third - 2) (omega arith) g
    each (suc zero) k = at ((third - 2) + (0 + 1)) (third - 1) (omega arith) f
    each (suc (suc zero)) k = at ((third - 2) + (0 + 2)) third (omega arith) e
    each (suc (suc (suc j))) k = absurd (omega (arith, k))

    reads : (j : ℕ) → j < 3 → get_or (take (to - (third - 2)) (drop (third - 2) t)) (0 + j) 0 ≡ get_or fence j 0
    reads j k =
        get_or-take (to - (third - 2)) (drop (third - 2) t) (0 + j) 0 (omega arith)
        ∙ get_or-drop (third - 2) t (0 + j) 0 ∙ each j k ∙ sym (fence_byte j k)
