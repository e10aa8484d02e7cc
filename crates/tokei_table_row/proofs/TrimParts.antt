-- The parts into which the trims cut a text.
use Rattle.std.proofs.Common.{◌≡◌, ℕ, Bool, true, false, ◌&&◌, cond, List, [], ◌∷◌, ◌++◌, refl, sym, ◌∙◌, ap, subst}
use Rattle.tokei_table_row.specs.Bytes.{is_blank, all_blank, trim_start, trim_end, trim}
use Rattle.tokei_table_row.specs.TrimLaws.{BeginsSolid, EndsSolid, DropsFront, DropsEnds}

start_step : (b : ℕ) (t : List ℕ) (x : Bool) → is_blank b ≡ x → DropsFront t (trim_start t)
    → DropsFront (b ∷ t) (cond x (trim_start t) (b ∷ t))
start_step b t true e d =
    record {
      front = b ∷ d.front;
      blank_front = ap (λ y. y && all_blank d.front) e ∙ d.blank_front;
      joined =
          ap (λ r. b ∷ r) d.joined;
      begins = d.begins;
    }
start_step b t false e d = record { front = []; blank_front = refl; joined = refl; begins = e }

pub start_parts : (t : List ℕ) → DropsFront t (trim_start t)
start_parts [] = record { front = []; blank_front = refl; joined = refl; begins = tt }
start_parts (b ∷ t) = start_step b t (is_blank b) refl (start_parts t)

-- what the end of a text loses
pub record DropsBack (text left : List ℕ) : Type 0 where
  pub back : List ℕ
  pub blank_back : all_blank back ≡ true
  pub joined : text ≡ left ++ back
  pub ends : EndsSolid left

-- nothing is left only of blanks
empty_blank : (t : List ℕ) (d : DropsBack t (trim_end t)) → trim_end t ≡ [] → all_blank t ≡ true
empty_blank t d e = ap all_blank (d.joined ∙ ap (λ l. l ++ d.back) e) ∙ d.blank_back

end_solid : (b : ℕ) (t : List ℕ) → (is_blank b && all_blank t) ≡ false → DropsBack t (trim_end t) → (left : List ℕ)
    → trim_end t ≡ left → EndsSolid (b ∷ left)
end_solid b t h d [] e = by (is_blank b) refl
  where
    by : (x : Bool) → is_blank b ≡ x → is_blank b ≡ false
    by false i = i
    by true i = absurd (apart (sym (ap (λ y. y && all_blank t) i ∙ empty_blank t d e) ∙ h))
      where
        apart : true ≡ false → ⊥
        apart w = cc
end_solid b t h d (c ∷ left) e = subst EndsSolid e d.ends

end_step : (b : ℕ) (t : List ℕ) (x : Bool) → (is_blank b && all_blank t) ≡ x → DropsBack t (trim_end t)
    → DropsBack (b ∷ t) (cond x [] (b ∷ trim_end t))
end_step b t true e d = record { back = b ∷ t; blank_back = e; joined = refl; ends = tt }
end_step b t false e d =
    record {
      back = d.back;
      blank_back = d.blank_back;
      joined = ap (λ r. b ∷ r) d.joined;
      ends =
          end_solid b t e d (trim_end t) refl;
    }

pub end_parts : (t : List ℕ) → DropsBack t (trim_end t)
end_parts [] = record { back = []; blank_back = refl; joined = refl; ends = tt }
end_parts (b ∷ t) = end_step b t (is_blank b && all_blank t) refl (end_parts t)

-- the end's trim leaves the front
solid_begin : (t : List ℕ) → BeginsSolid t → BeginsSolid (trim_end t)
solid_begin [] s = tt
solid_begin (b ∷ t) s = by (is_blank b && all_blank t)
  where
    by : (x : Bool) → BeginsSolid (cond x [] (b ∷ trim_end t))
    by true = tt
    by false = s

pub both_parts : (t : List ℕ) → DropsEnds t (trim t)
both_parts t =
    let f = start_parts t in
    let d = end_parts (trim_start t) in
    record {
      front = f.front;
      back = d.back;
      blank_front = f.blank_front;
      blank_back = d.blank_back;
      joined =
          f.joined ∙ ap (λ r. f.front ++ r) d.joined;
      begins = solid_begin (trim_start t) f.begins;
      ends = d.ends;
    }
