-- Whether a part of a text is blank, by its first byte that isn't.
use Rattle.std.proofs.Common.{◌≡◌, ℕ, zero, suc, ◌+◌, ◌-◌, ◌<◌, ◌≤◌, Bool, true, false, ◌&&◌, nat_le, List, [], ◌∷◌, length, take, drop, get_or, refl, sym, ◌∙◌, ap, arith, inl, inr, ◌⊎◌, get_or-take, get_or-drop}
use Rattle.std.proofs.lemmas.Bool.{cases_lt}
use Rattle.tokei_embedding.proofs.FirstPlaces.{part_length}
use Rattle.tokei_embedding.specs.Remembered.{IsFirstSolid}
use Rattle.tokei_table_row.specs.Bytes.{is_blank, all_blank}

and_false : (x y : Bool) → y ≡ false → (x && y) ≡ false
and_false true y h = h
and_false false y h = refl

each_blank : (t : List ℕ) → ((k : ℕ) → k < length t → is_blank (get_or t k 0) ≡ true) → all_blank t ≡ true
each_blank [] h = refl
each_blank (b ∷ t) h = ap (λ x. x && all_blank t) (h 0 (omega arith)) ∙ each_blank t (λ k l. h (suc k) (omega arith))

one_solid : (t : List ℕ) (k : ℕ) → k < length t → is_blank (get_or t k 0) ≡ false → all_blank t ≡ false
one_solid [] k l h = absurd (omega arith)
one_solid (b ∷ t) zero l h = ap (λ x. x && all_blank t) h
one_solid (b ∷ t) (suc k) l h = and_false (is_blank b) (all_blank t) (one_solid t k (omega arith) h)

pub part_reads : (t : List ℕ) (from n k : ℕ) → k < n → get_or (take n (drop from t)) k 0 ≡ get_or t (from + k) 0
part_reads t from n k l = get_or-take n (drop from t) k 0 l ∙ get_or-drop from t k 0

pub part_blank : (t : List ℕ) (from place to : ℕ) → IsFirstSolid t from place → from ≤ place → from ≤ to → to ≤ length t → nat_le to place ≡ all_blank (take (to - from) (drop from t))
part_blank t from place to f low l m = by (cases_lt place to)
  where
    long : length (take (to - from) (drop from t)) ≡ to - from
    long = part_length t from (to - from) (omega arith)

    below : (a b : ℕ) → a < b → nat_le b a ≡ false
    below a b h = grind arith

    above : (a b : ℕ) → b ≤ a → nat_le b a ≡ true
    above a b h = grind arith

    by : (place < to) ⊎ (to ≤ place) → nat_le to place ≡ all_blank (take (to - from) (drop from t))
    by (inl h) =
        let e : place ≡ from + (place - from) = omega arith in
        below place to h
        ∙ sym (one_solid (take (to - from) (drop from t)) (place - from) (omega (arith, long))
        (ap is_blank (part_reads t from (to - from) (place - from) (omega arith)
        ∙ ap (λ k. get_or t k 0) (sym e))
        ∙ f.solid low (omega arith)))
    by (inr h) =
        above place to h
        ∙ sym (each_blank (take (to - from) (drop from t)) (λ k i. ap is_blank
        (part_reads t from (to - from) k (omega (arith, long, i)))
        ∙ f.blank (from + k) (omega arith) (omega (arith, long, i))))

-- what is the first one from a place on is so from a later place
pub solid_later : (t : List ℕ) (from place p : ℕ) → IsFirstSolid t from place → from ≤ p → IsFirstSolid t p place
solid_later t from place p f l = record { blank = λ k i j. f.blank k (omega arith) j; solid = λ i j. f.solid (omega arith) j }
