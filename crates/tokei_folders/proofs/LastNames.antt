-- The last name of a place, by its last slash.
use lib.Dec.{eqb}
use Rattle.std.proofs.Common.{◌≡◌, ◌≢◌, ◌<◌, ℕ, List, [], ◌∷◌, ◌++◌, Bool, true, false, cond, filter, length, get_or, Option, Some, None, append-nil, refl, sym, ap, ◌∙◌, subst, arith}
use Rattle.std.proofs.lemmas.Bool.Decides.{nat_tests}
use Rattle.std.proofs.lemmas.List.{take-append-drop}
use Rattle.std.proofs.lemmas.List.Elements.{All-from_get_or}
use Rattle.std.proofs.lemmas.List.Splits.{slice_split_none}
use Rattle.std.proofs.lemmas.Str.Pattern.{NoCharPasses-char, drop_at_char}
use Rattle.std.specs.List.{last_or}
use Rattle.std.specs.Str.{NoCharPasses}
use Rattle.std.specs.Str.Pattern.{RFindsChar, SplitsAroundMatch}
use Rattle.tokei_folders.specs.Tree.{Names, is_name, is_slash, names_of}
use Rattle.tokei_folders.proofs.Joining.{names_of_seam}

-- a text that holds no slash is a name or nothing
names_of_piece : (xs : List ℕ) → ((i : ℕ) → i < length xs → get_or xs i 0 ≢ 47) → names_of xs ≡ cond (is_name xs) (xs ∷ []) []
unfolding names_of
names_of_piece xs none =
    let no_slash : (i : ℕ) → i < length xs → is_slash (get_or xs i 0) ≡ false = λ i below. let differs = none i below in grind (arith, nat_tests) in
    ap (filter is_name) (slice_split_none is_slash xs (All-from_get_or (λ x. is_slash x ≡ false) xs 0 no_slash))

last_or-push : {X : Type 0} (o : Option X) (xs : List X) (x : X) → last_or o (xs ++ x ∷ []) ≡ Some x
last_or-push o [] x = refl
last_or-push o (y ∷ ys) x = last_or-push (Some y) ys x

-- of a place without slash
module _ (place : List ℕ) (h : RFindsChar 47 place None) where
  is_all : (b : Bool) → is_name place ≡ b → last_or None (names_of place) ≡ cond b (Some place) None
  is_all true e = ap (last_or None) (names_of_piece place (λ i. NoCharPasses-char 47 place i h (omega arith)) ∙ ap (λ b. cond b (place ∷ []) []) e)
  is_all false e = ap (last_or None) (names_of_piece place (λ i. NoCharPasses-char 47 place i h (omega arith)) ∙ ap (λ b. cond b (place ∷ []) []) e)

  pub is_only_name : is_name place ≡ true → last_or None (names_of place) ≡ Some place
  is_only_name e = is_all true e

  pub is_no_name : is_name place ≡ false → last_or None (names_of place) ≡ None
  is_no_name e = is_all false e

-- of a place that is cut at its last slash
module _ (place front piece : List ℕ) (h : SplitsAroundMatch (RFindsChar 47) place front piece) where
  whole : place ≡ front ++ 47 ∷ piece
  whole = sym (take-append-drop h.0 place) ∙ (λ k. sym h.3 k ++ (drop_at_char 47 place h.0 h.1 h.2.1 (omega arith) ∙ ap (λ l. 47 ∷ l) (sym h.4)) k)

  no_slash_behind : (i : ℕ) → i < length piece → get_or piece i 0 ≢ 47
  no_slash_behind i = NoCharPasses-char 47 piece i (subst (λ l. NoCharPasses (λ d. eqb d 47) l) (sym h.4) h.2.0) (omega arith)

  names_by : (b : Bool) → is_name piece ≡ b → names_of place ≡ names_of front ++ cond b (piece ∷ []) []
  names_by b e =
      ap names_of whole ∙ names_of_seam front piece ∙ ap (λ (q : Names). names_of front ++ q) (names_of_piece piece no_slash_behind ∙ ap (λ q. cond q (piece ∷ []) []) e)

  pub is_behind : is_name piece ≡ true → last_or None (names_of place) ≡ Some piece
  is_behind e = ap (last_or None) (names_by true e) ∙ last_or-push None (names_of front) piece

  pub is_in_front : is_name piece ≡ false → last_or None (names_of place) ≡ last_or None (names_of front)
  is_in_front e = ap (last_or None) (names_by false e ∙ append-nil (names_of front))
