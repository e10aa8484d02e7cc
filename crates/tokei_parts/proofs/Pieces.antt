-- The pieces of a fence's info, place by place.
use Rattle.std.proofs.Common.{◌≡◌, ℕ, suc, ◌+◌, ◌-◌, ◌<◌, ◌≤◌, ◌==◌, Bool, true, false, cond, List, [], ◌∷◌, ◌++◌, length, take, drop, get_or, Option, None, Some, refl, sym, ◌∙◌, ap, arith, length-drop, drop-cons, append_assoc, append-nil}
use Rattle.std.specs.List.{slice_split, onto_first}
use Rattle.std.specs.Option.{option_or}
use Rattle.std.proofs.lemmas.List.Splits.{length-slice_split}
use Rattle.std.proofs.Math.Seq.{take-suc}
use Rattle.std.proofs.lemmas.List.{get_or-drop}
use Rattle.tokei_table.specs.Row.{Row}
use Rattle.tokei_parts.specs.NamedLanguages.{by_word}
use Rattle.tokei_parts.specs.MarkdownChildren.{is_comma, first_named, known_piece}

-- the same of a piece under way and what is left of the info
abbrev pub known_from : List Row → List ℕ → List ℕ → Option ℕ
known_from rows s [] = by_word rows s
known_from rows s (b ∷ t) = cond (b == 44) (option_or (by_word rows s) (known_from rows [] t)) (known_from rows (s ++ b ∷ []) t)

-- the pieces, the first of them behind the piece under way
onto : List ℕ → List (List ℕ) → List (List ℕ)
onto s [] = s ∷ []
onto s (piece ∷ pieces) = (s ++ piece) ∷ pieces

onto_none : (pieces : List (List ℕ)) → 0 < length pieces → onto [] pieces ≡ pieces
unfolding onto
onto_none [] l = absurd (omega arith)
onto_none (piece ∷ pieces) l = refl

onto_byte : (s : List ℕ) (b : ℕ) (pieces : List (List ℕ)) → 0 < length pieces → onto (s ++ b ∷ []) pieces ≡ onto s (onto_first b pieces)
unfolding onto
onto_byte s b [] l = absurd (omega arith)
onto_byte s b (piece ∷ pieces) l = ap (λ w. w ∷ pieces) (append_assoc s (b ∷ []) piece)

some_pieces : (t : List ℕ) → 0 < length (slice_split is_comma t)
some_pieces t = omega (arith, length-slice_split is_comma t)

or_none : (o : Option ℕ) → option_or o None ≡ o
or_none None = refl
or_none (Some n) = refl

known_onto : (rows : List Row) (s t : List ℕ) → known_from rows s t ≡ first_named rows (onto s (slice_split is_comma t))
unfolding onto
known_onto rows s [] = sym (or_none (by_word rows (s ++ [])) ∙ ap (by_word rows) (append-nil s))
known_onto rows s (b ∷ t) = by_test (b == 44) (known_onto rows [] t) (known_onto rows (s ++ b ∷ []) t)
  where
    pieces : List (List ℕ)
    pieces = slice_split is_comma t

    by_test : (x : Bool) → known_from rows [] t ≡ first_named rows (onto [] pieces)
        → known_from rows (s ++ b ∷ []) t ≡ first_named rows (onto (s ++ b ∷ []) pieces)
        → cond x (option_or (by_word rows s) (known_from rows [] t)) (known_from rows (s ++ b ∷ []) t)
        ≡ first_named rows (onto s (cond x ([] ∷ pieces) (onto_first b pieces)))
    by_test true next more =
        ap (option_or (by_word rows s)) (next ∙ ap (first_named rows) (onto_none pieces (some_pieces t)))
        ∙ ap (λ w. option_or (by_word rows w) (first_named rows pieces)) (sym (append-nil s))
    by_test false next more = more ∙ ap (first_named rows) (onto_byte s b pieces (some_pieces t))

-- with nothing under way
pub known_is : (rows : List Row) (info : List ℕ) → known_from rows [] info ≡ known_piece rows info
known_is rows info = known_onto rows [] info ∙ ap (first_named rows) (onto_none (slice_split is_comma info) (some_pieces info))

-- one byte more
module _ (rows : List Row) (info : List ℕ) (begun i : ℕ) (low : begun ≤ i) (high : i < length info) where
  here : known_from rows (take (i - begun) (drop begun info)) (drop i info)
      ≡ cond (get_or info i 0 == 44)
      (option_or (by_word rows (take (i - begun) (drop begun info)))
      (known_from rows [] (drop (i + 1) info)))
      (known_from rows (take (i - begun) (drop begun info) ++ get_or info i 0 ∷ [])
      (drop (i + 1) info))
  here =
      let next : suc i ≡ i + 1 = omega arith in
      ap (known_from rows (take (i - begun) (drop begun info))) (drop-cons info i 0 high)
      ∙ ap
      (λ m. cond (get_or info i 0 == 44)
      (option_or (by_word rows (take (i - begun) (drop begun info)))
      (known_from rows [] (drop m info)))
      (known_from rows (take (i - begun) (drop begun info) ++ get_or info i 0 ∷ [])
      (drop m info)))
      next

  -- at a comma a piece that names nothing ends
  pub piece_ends : (get_or info i 0 == 44) ≡ true → by_word rows (take (i - begun) (drop begun info)) ≡ None
      → known_from rows (take (i + 1 - (i + 1)) (drop (i + 1) info)) (drop (i + 1) info) ≡ known_from rows (take (i - begun) (drop begun info)) (drop i info)
  piece_ends b n =
      let none : i + 1 - (i + 1) ≡ 0 = omega arith in
      ap (λ m. known_from rows (take m (drop (i + 1) info)) (drop (i + 1) info)) none
      ∙ sym (here
      ∙ ap
      (λ x. cond x
      (option_or (by_word rows (take (i - begun) (drop begun info)))
      (known_from rows [] (drop (i + 1) info)))
      (known_from rows (take (i - begun) (drop begun info) ++ get_or info i 0 ∷ [])
      (drop (i + 1) info)))
      b
      ∙ ap (λ o. option_or o (known_from rows [] (drop (i + 1) info))) n)

  -- another byte belongs to the piece
  pub piece_goes : (get_or info i 0 == 44) ≡ false
      → known_from rows (take (i + 1 - begun) (drop begun info)) (drop (i + 1) info) ≡ known_from rows (take (i - begun) (drop begun info)) (drop i info)
  piece_goes b =
      let m : ℕ = i - begun in
      let len : m < length (drop begun info) = omega (arith, length-drop begun info) in
      let more : i + 1 - begun ≡ suc m = omega (arith, low) in
      let place : begun + m ≡ i = omega (arith, low) in
      let byte : get_or (drop begun info) m 0 ≡ get_or info i 0 = get_or-drop begun info m 0 ∙ ap (λ k. get_or info k 0) place in
      ap (λ k. known_from rows (take k (drop begun info)) (drop (i + 1) info)) more
      ∙ ap (λ w. known_from rows w (drop (i + 1) info)) (take-suc (drop begun info) m 0 len ∙ ap (λ x. take m (drop begun info) ++ x ∷ []) byte)
      ∙ sym (here
      ∙ ap
      (λ x. cond x
      (option_or (by_word rows (take (i - begun) (drop begun info)))
      (known_from rows [] (drop (i + 1) info)))
      (known_from rows (take (i - begun) (drop begun info) ++ get_or info i 0 ∷ [])
      (drop (i + 1) info)))
      b)
