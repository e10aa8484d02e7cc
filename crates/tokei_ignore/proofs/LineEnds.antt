-- The last character of a line, and the spaces at its end.
use Rattle.std.proofs.Common.{◌≡◌, ℕ, ◌-◌, ◌<◌, ◌≤◌, ◌==◌, ◌&&◌, nat_lt, List, [], ◌∷◌, ◌++◌, length, Bool, true, false, cond, refl, sym, ap, ◌∙◌, arith, length-take, eq-eqb}
use Rattle.std.proofs.lemmas.Bool.Decides.{nat_tests}
use Rattle.tokei_folders.specs.Ends.{ends_in, without_last}
use Rattle.tokei_folders.proofs.ListEnds.{ends_in-push, without_last-take, without_last-push}
use Rattle.tokei_ignore.specs.Trims.{without_spaces, onto_kept, is_escaped, trimmed}
use Rattle.tokei_ignore.specs.IgnoreFiles.{without_return}

space_goes : (c : ℕ) (e : (c == 32) ≡ true) → onto_kept c [] ≡ []
space_goes c e = ap (λ b. cond b [] (c ∷ [])) e

other_stays : (c : ℕ) (e : (c == 32) ≡ false) → onto_kept c [] ≡ c ∷ []
other_stays c e = ap (λ b. cond b [] (c ∷ [])) e

pub without_spaces-front : (xs : List ℕ) → ends_in 32 xs ≡ true → without_spaces (without_last xs) ≡ without_spaces xs
without_spaces-front [] e = refl
without_spaces-front (x ∷ []) e = sym (space_goes x e)
without_spaces-front (x ∷ y ∷ xs) e = ap (onto_kept x) (without_spaces-front (y ∷ xs) e)

pub without_spaces_same : (xs : List ℕ) → ends_in 32 xs ≡ false → without_spaces xs ≡ xs
without_spaces_same [] e = refl
without_spaces_same (x ∷ []) e = other_stays x e
without_spaces_same (x ∷ y ∷ xs) e = ap (onto_kept x) (without_spaces_same (y ∷ xs) e)

pub nonempty_from_end : (e : ℕ) (xs : List ℕ) → ends_in e xs ≡ true → 0 < length xs
nonempty_from_end e [] h = absurd (cc)
nonempty_from_end e (x ∷ xs) h = omega arith

-- one space fewer
pub dropped_one : (xs ys whole : List ℕ) → ends_in 32 xs ≡ true → ys ≡ without_last xs → without_spaces xs ≡ without_spaces whole → length xs ≤ length whole
    → (without_spaces ys ≡ without_spaces whole) × (true ≡ nat_lt (length ys) (length whole)) × (length ys ≤ length whole)
dropped_one xs ys whole e is same fits =
    let some = nonempty_from_end 32 xs e in
    let short : length ys < length whole = omega (arith, ap length is, ap length (without_last-take xs), length-take (length xs - 1) xs) in (
      ap without_spaces is ∙ without_spaces-front xs e ∙ same,
      grind (arith, nat_tests),
      omega arith,
    )

-- the line that is left, where the loop over its spaces ends
pub trimmed_by : (xs whole : List ℕ) (spaces : Bool) → ends_in 32 xs ≡ false
    → without_spaces xs ≡ without_spaces whole → spaces ≡ nat_lt (length xs) (length whole)
    → cond (spaces && is_escaped false xs) (xs ++ 32 ∷ []) xs ≡ trimmed whole
unfolding trimmed
trimmed_by xs whole spaces e same is =
    let left : xs ≡ without_spaces whole = sym (without_spaces_same xs e) ∙ same in
    ap (λ (b : Bool). cond (b && is_escaped false xs) (xs ++ 32 ∷ []) xs) is ∙ ap (λ (ys : List ℕ). cond (nat_lt (length ys) (length whole) && is_escaped false ys) (ys ++ 32 ∷ []) ys) left

pub second_of : {X : Type 0} (b : Bool) (x y z : X) → b ≡ false → cond b x y ≡ z → y ≡ z
second_of true x y z e h = absurd (cc)
second_of false x y z e h = h

pub first_of : {X : Type 0} (b : Bool) (x y z : X) → b ≡ true → cond b x y ≡ z → x ≡ z
first_of true x y z e h = h
first_of false x y z e h = absurd (cc)

-- the carriage return at a line's end
pub return_cut : (line front : List ℕ) (last : ℕ) → line ≡ front ++ last ∷ [] → last ≡ 13 → front ≡ without_return line
unfolding without_return
return_cut line front last is e =
    let ends : ends_in 13 line ≡ true = ap (ends_in 13) is ∙ ends_in-push 13 last front ∙ eq-eqb last 13 e in
    let cut : without_last line ≡ front = ap without_last is ∙ without_last-push front last in
    sym (ap (λ b. cond b (without_last line) line) ends ∙ cut)

pub return_none : (line front : List ℕ) (last : ℕ) → line ≡ front ++ last ∷ [] → (last ≡ 13 → ⊥) → line ≡ without_return line
unfolding without_return
return_none line front last is n =
    let ends : ends_in 13 line ≡ false = ap (ends_in 13) is ∙ ends_in-push 13 last front ∙ grind (arith, nat_tests) in
    sym (ap (λ b. cond b (without_last line) line) ends)

pub return_of_nothing : (line : List ℕ) → line ≡ [] → line ≡ without_return line
unfolding without_return
return_of_nothing line is = is ∙ sym (ap (λ ys. cond (ends_in 13 ys) (without_last ys) ys) is)

pub shorter_by_one : (xs ys : List ℕ) → ends_in 32 xs ≡ true → ys ≡ without_last xs → length ys < length xs
shorter_by_one xs ys e is =
    let some = nonempty_from_end 32 xs e in
    omega (arith, ap length is, ap length (without_last-take xs), length-take (length xs - 1) xs)
