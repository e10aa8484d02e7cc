-- A list that is made of another one, item by item: what is made so far, and what is still to come.
use Rattle.std.proofs.Common.{◌≡◌, List, [], ◌∷◌, ◌++◌, map, refl, sym, ap, ◌∙◌}
use Rattle.std.proofs.lemmas.List.{append-nil}

module _ {X Y : Type 0} (seen : X → Y) where
  one_behind : (made : List X) (x : X) (rest : List Y) → map seen made ++ seen x ∷ rest ≡ map seen (made ++ x ∷ []) ++ rest
  one_behind [] x rest = refl
  one_behind (m ∷ made) x rest = ap (λ ys. seen m ∷ ys) (one_behind made x rest)

  seen_behind : (made : List X) (x : X) → map seen (made ++ x ∷ []) ≡ map seen made ++ seen x ∷ []
  seen_behind [] x = refl
  seen_behind (m ∷ made) x = ap (λ ys. seen m ∷ ys) (seen_behind made x)

  pub none_made : (made : List X) (whole : List Y) → made ≡ [] → whole ≡ map seen made ++ whole
  none_made made whole e = ap (λ xs. map seen xs ++ whole) (sym e)

  pub one_made : (made longer : List X) (x : X) (y : Y) (whole left behind : List Y) → whole ≡ map seen made ++ left
      → left ≡ y ∷ behind → longer ≡ made ++ x ∷ [] → seen x ≡ y → whole ≡ map seen longer ++ behind
  one_made made longer x y whole left behind e f g h =
      e ∙ ap (λ ys. map seen made ++ ys) (f ∙ ap (λ z. z ∷ behind) (sym h))
      ∙ one_behind made x behind ∙ ap (λ xs. map seen xs ++ behind) (sym g)

  pub all_made : (made : List X) (whole left : List Y) → whole ≡ map seen made ++ left → left ≡ [] → map seen made ≡ whole
  all_made made whole left e f = sym (e ∙ ap (λ ys. map seen made ++ ys) f ∙ append-nil (map seen made))

  pub made_longer : (made longer : List X) (x : X) → longer ≡ made ++ x ∷ [] → map seen longer ≡ map seen made ++ seen x ∷ []
  made_longer made longer x e = ap (map seen) e ∙ seen_behind made x
