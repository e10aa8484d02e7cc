-- Behind a fence without a blank behind it no fence opens.
use Rattle.std.proofs.Common.{◌≡◌, ℕ, suc, zero, ◌+◌, ◌-◌, ◌≤◌, ◌<◌, Bool, true, false, ◌&&◌, ◌==◌, nat_lt, cond, List, [], ◌∷◌, length, drop, refl, sym, ◌∙◌, ap, arith}
use Rattle.std.proofs.lemmas.List.{drop-drop}
use Rattle.std.proofs.lemmas.Map.Views.{exact_unsigned_eq}
use Rattle.std.proofs.Math.Nat.{lt_of_not-le}
use Rattle.tokei_table_row.specs.Bytes.{is_blank, begins, solid_len}
use Rattle.tokei_embedding.proofs.Places.{not_true}
use Rattle.tokei_embedding.specs.Fences.{fence, opens_fence, is_solid_fence}

solid_rest : (b : ℕ) (t : List ℕ) (x : Bool) → is_blank b ≡ x → cond x 0 (suc (solid_len t)) ≡ suc (length t) → solid_len t ≡ length t
solid_rest b t true e h = absurd (omega (arith, h))
solid_rest b t false e h = omega (arith, h)

solid_drop : (k : ℕ) (t : List ℕ) → solid_len t ≡ length t → solid_len (drop k t) ≡ length (drop k t)
solid_drop zero t h = h
solid_drop (suc k) [] h = refl
solid_drop (suc k) (b ∷ t) h = solid_drop k t (solid_rest b t (is_blank b) refl h)

not_below : (a b : ℕ) → a ≡ b → nat_lt a b ≡ false
not_below a b e = grind arith

and_false : (x y z : Bool) → z ≡ false → (x && (y && z)) ≡ false
and_false true true z h = h
and_false true false z h = refl
and_false false y z h = refl

and_right : (x y : Bool) → (x && y) ≡ true → y ≡ true
and_right true y h = h
and_right false y h = absurd (cc)

solid_closed : (t : List ℕ) → solid_len (drop 3 t) ≡ length (drop 3 t) → opens_fence t ≡ false
solid_closed t h = and_false (begins fence t) (nat_lt 0 (solid_len (drop 3 t))) (nat_lt (solid_len (drop 3 t)) (length (drop 3 t))) (not_below (solid_len (drop 3 t)) (length (drop 3 t)) h)

pub none_behind : (t : List ℕ) (i j : ℕ) → i ≤ j → is_solid_fence (drop i t) ≡ true → opens_fence (drop j t) ≡ false
none_behind t i j l h =
    let behind = drop 3 (drop i t) in
    let solid : solid_len behind ≡ length behind = exact_unsigned_eq (solid_len behind) (length behind) (and_right (begins fence (drop i t)) (solid_len behind == length behind) h) in
    let there : drop (j - i) behind ≡ drop 3 (drop j t) =
    ap (drop (j - i)) (drop-drop 3 i t) ∙ drop-drop (j - i) (i + 3) t ∙ ap (λ k. drop k t) (place i j l) ∙ sym (drop-drop 3 j t) in
    solid_closed (drop j t) (ap solid_len (sym there) ∙ solid_drop (j - i) behind solid ∙ ap length there)
  where
    place : (i j : ℕ) → i ≤ j → i + 3 + (j - i) ≡ j + 3
    place i j l = omega arith

opens_not : (x : Bool) → x ≡ false → x ≡ true → ⊥
opens_not true h e = cc
opens_not false h e = cc

-- nor anywhere, where none opens before it
pub none_at_all : (t : List ℕ) (i : ℕ) → ((j : ℕ) → j < i → opens_fence (drop j t) ≡ false) → is_solid_fence (drop i t) ≡ true → (j : ℕ) → opens_fence (drop j t) ≡ false
none_at_all t i before solid j = not_true (opens_fence (drop j t)) (λ e.
    let behind : i < suc j = lt_of_not-le (λ l. opens_not (opens_fence (drop j t)) (before j l) e) in
    opens_not (opens_fence (drop j t)) (none_behind t i j (omega arith) solid) e)
